use Rattle.std.proofs.Common.{◌⊎◌, refl, sym, ap, subst, ◌∙◌}
use Rattle.fp_disk.specs.Outcomes.{LeavesOnly}
use Rattle.fp_journal.specs.State.{JournalState}
use Rattle.fp_recovery.specs.Stands.{StandsFor}
use Rattle.fp_compaction.specs.Sets.{IsKeptOn}
use Rattle.fp_compaction.proofs.Grown as grown
use Rattle.fp_compaction.proofs.Kept as kept
use Rattle.fp_compaction.proofs.batches.sync_gate.Goals as goal

pub returns-in_err-sealed-clause-stands : goal.returns-in_err-sealed-clause-stands
returns-in_err-sealed-clause-stands g c = grown.leaves_next g.D.Disk c.args.slots.now c.sync_gate.new.self c.sync_gate.ensures.kept

pub returns-in_err-sealed-clause-broken : goal.returns-in_err-sealed-clause-broken
returns-in_err-sealed-clause-broken g c =
    let w = c.sync_gate.ensures in let err = c.in_err-sealed.ensures.err in
    grown.on_err c.from_residual.result _ (
      err.2,
      c.in_err-sealed.ensures.begun.1,
      grown.kept_batch g.D.Disk c.args.slots.now c.sync_gate.new.self w.kept err.0,
      w.kept.same,
    )

pub grow-requires-clause-ready : goal.grow-requires-clause-ready
grow-requires-clause-ready g c =
    let old = c.args.slots.now in let w = c.sync_gate.ensures in let mid = c.sync_gate.new.self in
    λ growing. grown.ready_on old mid w.kept.same c.requires.ready (grown.grows_still mid.step old.step (sym w.kept.same.5) growing)

pub grow-requires-clause-fits : goal.grow-requires-clause-fits
grow-requires-clause-fits g c =
    let old = c.args.slots.now in let w = c.sync_gate.ensures in let mid = c.sync_gate.new.self in
    λ growing. grown.fits_on old mid w.kept.same c.requires.ready
    (grown.grows_still mid.step old.step (sym w.kept.same.5) growing) c.requires.fits

pub returns-clause-stands : goal.returns-clause-stands
returns-clause-stands g c =
    let D = g.D.Disk in let old = c.args.slots.now in
    λ h size s t k leads. subst (λ (d : g.row.D.Denot). LeavesOnly D.moment D.crash_states_since old.journal.disk d
    (λ o. StandsFor o s ⊎ StandsFor o t))
    (sym (ap (λ (j : JournalState g.row.D.Denot). j.disk) c.grow.ensures.journal.0))
    (grown.leaves_next D old c.sync_gate.new.self c.sync_gate.ensures.kept h size s t k leads)

pub returns-clause-next : goal.returns-clause-next
returns-clause-next g c =
    let D = g.D.Disk in let old = c.args.slots.now in let w = c.sync_gate.ensures in
    let mid = c.sync_gate.new.self in let new = c.grow.new.slots in
    let j = c.grow.ensures.journal in let disk = ap (λ (x : JournalState g.row.D.Denot). x.disk) j.0 in
    let slot = ap (λ (x : JournalState g.row.D.Denot). x.slot) j.0 ∙ w.kept.same.0.1 in
    let front = ap (λ (x : JournalState g.row.D.Denot). x.front) j.0 ∙ w.kept.same.0.2 in
    let sealed = ap (λ (x : JournalState g.row.D.Denot). x.sealed) j.0 ∙ c.in_ok-sealed.ensures.ok.0 in
    λ h size s t k leads. (
      k.0,
      subst (λ (d : g.row.D.Denot). IsKeptOn (D.unsynced d) new size k.0 t) (sym disk)
          (kept.kept_next (D.unsynced old.journal.disk) old size k.0 s k.1 D.moment D.crash_states_since D.unsynced
          old.journal.disk mid.journal.disk refl (w.kept.call.apart h) new t leads slot front
          (j.1 ∙ w.kept.same.1) (j.3 ∙ w.kept.same.3) sealed),
    )

pub returns-clause-planned : goal.returns-clause-planned
returns-clause-planned g c =
    let old = c.args.slots.now in let w = c.sync_gate.ensures in let mid = c.sync_gate.new.self in let new = c.grow.new.slots in
    λ growing. grown.plans_next old mid w.kept.same c.requires.ready growing new
    (c.grow.ensures.grown (grown.grows_still old.step mid.step w.kept.same.5 growing)) c.version.ensures.known

pub returns-clause-grown : goal.returns-clause-grown
returns-clause-grown g c =
    let old = c.args.slots.now in let w = c.sync_gate.ensures in let mid = c.sync_gate.new.self in let new = c.grow.new.slots in
    λ growing. grown.text_on old mid w.kept.same c.requires.ready growing new
    (c.grow.ensures.grown (grown.grows_still old.step mid.step w.kept.same.5 growing))
