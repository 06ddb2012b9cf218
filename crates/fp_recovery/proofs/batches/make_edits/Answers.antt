use Rattle.std.proofs.lemmas.Result.{err_from_is_err_and}
use Rattle.fp_recovery.specs.Reading.{edits_onto}
use Rattle.fp_recovery.proofs.Read.{onto_done, onto_fails, onto_more}
use Rattle.fp_recovery.proofs.batches.make_edits.Goals as goal

pub returns-in_err-place-clause-made : goal.returns-in_err-place-clause-made
returns-in_err-place-clause-made c =
    let p = err_from_is_err_and c.from_residual.result c.from_residual.ensures.1 in
    let bytes = c.args.bytes.now in
    rw (p.1, p.2) (onto_fails c.in_err-place.field-0.0 c.args.version bytes c.args.count c.loop.counter
    (c.loop.set, c.loop.place) (edits_onto c.args.version bytes c.args.count (c.args.set.now, c.args.at))
    c.loop-test.true c.in_err-place.ensures.made c.loop.invariant.0)

pub loop-preserved : goal.loop-preserved
loop-preserved c =
    let bytes = c.args.bytes.now in (
      onto_more c.args.version bytes c.args.count c.loop.counter (c.loop.set, c.loop.place)
          (c.make_edit.new.set, c.in_ok-place.place)
          (edits_onto c.args.version bytes c.args.count (c.args.set.now, c.args.at)) c.loop-test.true
          c.in_ok-place.ensures.made c.loop.invariant.0,
      c.in_ok-place.ensures.within,
    )

pub returns-clause-made : goal.returns-clause-made
returns-clause-made c =
    let bytes = c.args.bytes.now in
    onto_done c.args.version bytes c.args.count c.loop.counter (c.loop.set, c.loop.place)
    (edits_onto c.args.version bytes c.args.count (c.args.set.now, c.args.at)) c.loop-test.false
    c.loop.invariant.0
