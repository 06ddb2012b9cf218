use Rattle.std.proofs.Common.{◌≡◌, [], ◌∷◌, ◌++◌, subst}
use Rattle.fp_journal.specs.State.{HasChain, JournalState}
use Rattle.fp_journal.specs.declared.journal.Phase.TheVariants.{GateOpened}
use Rattle.fp_compaction.proofs.Stepping as steps
use Rattle.fp_compaction.proofs.batches.phase.Goals as goal

pub returns-clause-outcomes : goal.returns-clause-outcomes
returns-clause-outcomes g c =
    let q = c.step.ensures in
    steps.leaves_now g.D.Disk c.args.slots.now c.step.result q.step (λ h o left. q.outcomes h o left)

pub returns-clause-reads : goal.returns-clause-reads
returns-clause-reads g c =
    let q = c.step.ensures in
    steps.reads_next g.D.Disk c.args.slots.now g.met.D.Disk.present c.step.result q.step
    (λ h o left. q.outcomes h o left)
    (subst (λ (j : JournalState g.row.D.Denot). g.D.Disk.honest j.disk → j.phase ≡ GateOpened →
    HasChain j.slot j.front (j.sealed ++ j.staged ∷ []) (g.D.Disk.bytes j.disk)) c.journal.ensures
    (λ h opened. c.phase.ensures.reads h opened))

pub returns-clause-full : goal.returns-clause-full
returns-clause-full g c =
    let q = c.step.ensures in
    steps.full_now g.D.Disk c.args.slots.now c.step.result q.step (λ h o left. q.outcomes h o left) q.front q.numbered
