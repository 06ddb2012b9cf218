use Rattle.std.proofs.Common.{◌∙◌, arith}
use Rattle.fp_journal.specs.Holds.{Holds}
use Rattle.fp_journal.proofs.OnlyReading.{only_then}
use Rattle.fp_journal.proofs.pieces.read_on.Goals as goal

pub loop-alloc-preserved : goal.loop-alloc-preserved
loop-alloc-preserved g c =
    let D = g.D.Disk in let i = c.loop-alloc.invariant in let e = c.in_ok-put_piece.ensures in
    let within = i.within in let long = e.long in let count = c.min-more.ensures in let less = c.loop-alloc-test.true in
    record {
      within = omega (arith, within, long, count, less);
      kept = only_then D c.args.disk.now c.loop-alloc.disk c.put_piece.new.disk i.kept e.kept;
      faults = e.no_failure ∙ i.faults;
      stands = λ h. let back : Holds (D.bytes c.loop-alloc.disk) c.args.first c.put_piece.new.bytes.items =
          e.stands (i.kept.word.honest.0 h) in rw (← (i.kept.same h).0) back;
    }

pub returns-in_err-put_piece-clause-kept : goal.returns-in_err-put_piece-clause-kept
returns-in_err-put_piece-clause-kept g c =
    only_then g.D.Disk c.args.disk.now c.loop-alloc.disk c.put_piece.new.disk c.loop-alloc.invariant.kept
    c.put_piece.ensures.kept
