use Rattle.std.proofs.Common.{take, sym, subst}
use Rattle.fp_edit.specs.Flags.{State}
use Rattle.fp_edit.specs.Following.{changes_of}
use Rattle.fp_pending.specs.Tallies.{IsTallyOf}
use Rattle.fp_edit.specs.Log.{after_all}
use Rattle.fp_pending.specs.Noted.{IsNoted}
use Rattle.fp_edit.proofs.Followed.{one_after}
use Rattle.fp_pending.proofs.Following.{one_accepted, one_follows}
use Rattle.fp_pending.proofs.behind.tally_behind.Goals as goal

pub loop-i-preserved : goal.loop-i-preserved
loop-i-preserved c =
    let base = after_all c.args.set.now (changes_of c.args.ahead.now) in
    let xs = c.args.edits.now in
    let i = c.loop-i.i in
    let e = c.index-edits-i.result in
    let noted = c.index-edits-i-in-loop-i.result in
    let next = c.in_ok-now.ensures in (
      one_follows base xs i e c.loop-i-test.true c.index-edits-i.is c.loop-i.invariant.0 next.0,
      subst (λ (t : State). IsTallyOf c.in_ok-now.now t) (sym (one_after base xs i e c.loop-i-test.true c.index-edits-i.is)) next.1,
      subst (λ (t : State). IsNoted c.note.new.self c.args.set.now t)
          (sym (one_after base xs i noted c.loop-i-test.true c.index-edits-i-in-loop-i.is))
          (c.note.ensures c.args.set.now (after_all base (changes_of (take i xs))) c.loop-i.invariant.2),
    )

pub returns-in_err-now-clause-refused : goal.returns-in_err-now-clause-refused
returns-in_err-now-clause-refused c =
    let base = after_all c.args.set.now (changes_of c.args.ahead.now) in
    rw c.from_residual.ensures (λ all. c.in_err-now.ensures
    (one_accepted base c.args.edits.now c.loop-i.i c.index-edits-i.result c.loop-i-test.true c.index-edits-i.is
    all))
