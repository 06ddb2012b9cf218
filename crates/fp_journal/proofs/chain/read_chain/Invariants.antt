use Rattle.std.proofs.Common.{◌≡◌, ◌-◌}
use Rattle.fp_journal.specs.Pieces.{OnlyReads}
use Rattle.fp_journal.specs.Windows.{IsWindowAt, StandsIn}
use Rattle.fp_journal.proofs.Links.{IsReadTo}
use Rattle.fp_journal.proofs.chain.read_chain.Given as goal

abbrev pub invariant-loop-window : goal.invariant-loop-window
invariant-loop-window g l = let D = g.D.Disk in let c = D.bytes l.initial.disk in
    IsReadTo (D.honest l.initial.disk) g.R.Reader.takes l.slot.most l.at l.slot.stop c l.initial.reader l.reader
    l.initial.text l.text l.place
    × OnlyReads D l.initial.disk l.disk × (D.faults l.disk ≡ D.faults l.initial.disk) × IsWindowAt l.window l.place ×
    (D.honest l.initial.disk → StandsIn l.window c)

abbrev pub decreases-loop-window : goal.decreases-loop-window
decreases-loop-window g l = l.slot.stop - l.place
