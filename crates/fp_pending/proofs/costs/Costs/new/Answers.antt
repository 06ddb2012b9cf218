use Rattle.std.proofs.Common.{ap}
use Rattle.std.specs.Prelude.{unwrap_or}
use Rattle.std.specs.BTreeMap.{is_at}
use Rattle.std.specs.FinMap as fin
use Rattle.std.specs.Map.{lookup}
use Rattle.fp_base.specs.Bytes.{bytes_cmp}
use Rattle.fp_edit.specs.Flags.{cost_found}
use Rattle.fp_pending.proofs.costs.Costs.new.Goals as goal

pub returns : goal.returns
returns c = λ s k. ap (λ es. unwrap_or (lookup (is_at (λ q. bytes_cmp k q.now)) es) (cost_found k (fin.get s.flags k))) c.new.ensures.empty
