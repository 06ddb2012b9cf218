use Rattle.fp_journal.proofs.OnlyReading.{only_then}
use Rattle.fp_layout.proofs.opening.read_ruling.Goals as goal

pub returns-in_err-its-clause-kept : goal.returns-in_err-its-clause-kept
returns-in_err-its-clause-kept g c =
    only_then g.D.Disk c.args.disk.now c.read_first.new.disk c.read_first-2.new.disk c.read_first.ensures.kept
    c.read_first-2.ensures.kept

pub returns-in_err-ruling-clause-kept : goal.returns-in_err-ruling-clause-kept
returns-in_err-ruling-clause-kept g c =
    only_then g.D.Disk c.args.disk.now c.read_first.new.disk c.read_first-2.new.disk c.read_first.ensures.kept
    c.read_first-2.ensures.kept

pub returns-clause-kept : goal.returns-clause-kept
returns-clause-kept g c = only_then g.D.Disk c.args.disk.now c.read_first.new.disk c.read_first-2.new.disk
    c.read_first.ensures.kept c.read_first-2.ensures.kept
