use Rattle.std.proofs.Common.{◌≡◌}
use Rattle.fp_slots.specs.declared.slots.Step.TheVariants.{Tail, SyncOpen}
use Rattle.fp_compaction.proofs.Stepping as steps
use Rattle.fp_compaction.proofs.steps.copy_tail.Goals as goal

pub returns : goal.returns
returns g c =
    let w = c.write_tail.ensures in let new = c.write_tail.new.self in
    steps.early_on g.D.Disk c.args.slots.now new c.write_tail.result c.requires.step
    (λ (e : Tail ≡ SyncOpen). absurd (cc e)) w.kept w.called w.step
    (steps.unmoved c.args.slots.now new c.write_tail.result w.left)
