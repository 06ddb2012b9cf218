use Rattle.fp_compaction.proofs.Grown.{leaves_sealed, moves_batch}
use Rattle.fp_compaction.proofs.batches.stage.Goals as goal

pub returns-clause-stands : goal.returns-clause-stands
returns-clause-stands g c = leaves_sealed g.D.Disk c.args.slots.now c.stage.new.self c.stage.ensures.kept

pub returns-clause-moves : goal.returns-clause-moves
returns-clause-moves g c =
    let w = c.stage.ensures in moves_batch g.D.Disk c.args.slots.now c.stage.new.self w.kept w.called w.bodies.0 w.phase w.begun
