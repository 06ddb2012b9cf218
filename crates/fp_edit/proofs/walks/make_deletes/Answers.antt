use Rattle.std.proofs.Common.{◌+◌, List, drop, sym, ap, ◌∙◌, arith}
use Rattle.fp_edit.specs.Admits.{parts_after}
use Rattle.fp_documents.specs.Entries.{flags_of}
use Rattle.fp_edit.specs.Flags.{Flags}
use Rattle.fp_edit.specs.Parts.{proposed_of}
use Rattle.fp_edit.specs.Puts.{deletes_of}
use Rattle.fp_edit.specs.declared.edit.Change as code
use Rattle.fp_edit.proofs.Making.{deletes-more}
use Rattle.fp_edit.proofs.Parts.{parts_in}
use Rattle.fp_base.proofs.Turns.{drop-here}
use Rattle.fp_edit.proofs.walks.make_deletes.Goals as goal

pub loop-change-preserved : goal.loop-change-preserved
loop-change-preserved c =
    let i = c.loop-change.invariant in
    let d = c.make_delete-gone.ensures in
    let x = c.change-item.result in
    let here = drop-here c.args.changes.now c.loop-change.change-index x c.loop-change-test.true c.change-item.is in
    let m = flags_of c.loop-change.flags.entries in
    let left = drop (c.loop-change.change-index + 1) c.args.changes.now in record {
      ordered = d.ordered;
      left = λ r.
          ap (λ (n : Flags). parts_after r n (deletes_of (parts_in left))) (d.made r)
          ∙ deletes-more r m (proposed_of x).part (parts_in left)
          ∙ ap (λ (xs : List code.Change). parts_after r m (deletes_of (parts_in xs))) (sym here)
          ∙ i.left r;
      sized = omega arith;
      small = omega arith;
    }
