use Rattle.std.proofs.Common.{take, sym, ap, ◌∙◌}
use Rattle.std.specs.FinMap as map
use Rattle.fp_definition.specs.Key.{key_bytes}
use Rattle.fp_edit.specs.Flags.{State, cost_found}
use Rattle.fp_edit.specs.Following.{changes_of}
use Rattle.fp_edit.specs.Log.{after_all}
use Rattle.fp_edit.proofs.Followed.{one_after}
use Rattle.fp_pending.proofs.behind.cost_after.Goals as goal

pub loop-edit-preserved : goal.loop-edit-preserved
loop-edit-preserved c = λ s is.
    let l = c.loop-edit in let k = key_bytes c.args.key.now in
    c.key_cost-cost.ensures (after_all s (changes_of (take l.edit-index c.args.edits.now))) (l.invariant s is)
    ∙ ap (λ (t : State). cost_found k (map.get t.flags k))
    (sym (one_after s c.args.edits.now l.edit-index c.edit-item.result c.loop-edit-test.true c.edit-item.is))
