use Rattle.std.proofs.Common.{◌≡◌, ap, arith}
use Rattle.std.specs.FinMap as map
use Rattle.fp_documents.specs.Entries.{flags_of}
use Rattle.fp_edit.specs.Flags.{cost_found, size}
use Rattle.fp_definition.specs.Key.{key_bytes}
use Rattle.fp_documents.proofs.Sizes.{size-remove}
use Rattle.fp_edit.proofs.walks.make_delete.Goals as goal

pub returns-in-Delete-clause-size : goal.returns-in-Delete-clause-size
returns-in-Delete-clause-size c =
    let m = flags_of c.args.flags.now.entries in
    let k = key_bytes c.in-Delete.key in
    let found : c.take.result ≡ cost_found k (map.get m k) = c.take.ensures.before in
    let made = ap size c.take.ensures.taken in
    let all = size-remove m k in
    omega arith
