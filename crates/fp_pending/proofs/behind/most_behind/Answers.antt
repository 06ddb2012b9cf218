use Rattle.std.proofs.Common.{take, sym, subst}
use Rattle.fp_edit.specs.Flags.{State}
use Rattle.fp_edit.specs.Following.{changes_of}
use Rattle.fp_pending.specs.Tallies.{IsTallyAbove}
use Rattle.fp_edit.specs.Log.{after_all}
use Rattle.fp_edit.proofs.Followed.{one_after}
use Rattle.fp_pending.proofs.Following.{one_follows}
use Rattle.fp_pending.proofs.behind.most_behind.Goals as goal

pub loop-edit-preserved : goal.loop-edit-preserved
loop-edit-preserved c = λ s b.
    let xs = c.args.edits.now in
    let i = c.loop-edit.edit-index in
    let e = c.edit-item.result in
    let was = c.loop-edit.invariant s b in
    let next = c.in_ok-now.ensures (after_all s (changes_of (take i xs))) was.1 in (
      one_follows s xs i e c.loop-edit-test.true c.edit-item.is was.0 next.0,
      subst (λ (t : State). IsTallyAbove c.in_ok-now.now t) (sym (one_after s xs i e c.loop-edit-test.true c.edit-item.is)) next.1,
    )
