use Rattle.fp_compaction.proofs.Grown.{leaves_next, moves_batch}
use Rattle.fp_compaction.proofs.batches.open_gate.Goals as goal

pub returns-clause-stands : goal.returns-clause-stands
returns-clause-stands g c = leaves_next g.D.Disk c.args.slots.now c.open_gate.new.self c.open_gate.ensures.kept

pub returns-clause-moves : goal.returns-clause-moves
returns-clause-moves g c =
    let w = c.open_gate.ensures in moves_batch g.D.Disk c.args.slots.now c.open_gate.new.self w.kept w.called w.bodies.0 w.phase w.begun
