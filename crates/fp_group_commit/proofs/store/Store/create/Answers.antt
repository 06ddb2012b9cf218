use Rattle.std.proofs.Common.{◌≡◌, ℕ, refl, sym, ap, subst, ◌∙◌}
use Rattle.fp_edit.specs.Flags.{State}
use Rattle.fp_layout.specs.Size.{IsSlotSize, first}
use Rattle.fp_recovery.proofs.Kept.{new_left, new_set, new_stands, settled_sure}
use Rattle.fp_compaction.specs.Sets.{IsKeptIn}
use Rattle.fp_compaction.proofs.Kept.{new_kept}
use Rattle.fp_group_commit.proofs.store.Store.create.Goals as goal

pub returns-in-Err-NotEmpty-default-clause-any_moment : goal.returns-in-Err-NotEmpty-default-clause-any_moment
returns-in-Err-NotEmpty-default-clause-any_moment g c = λ h is.
    new_left g.D.Disk c.args.disk c.in-Err-NotEmpty-default.disk c.in-Some.ensures.value
    (c.in-Some.ensures.allowed.0 refl) (c.in-Err-NotEmpty-default.ensures.any_moment h is)

pub returns-in-Err-Device-default-clause-any_moment : goal.returns-in-Err-Device-default-clause-any_moment
returns-in-Err-Device-default-clause-any_moment g c = λ h is.
    new_left g.D.Disk c.args.disk c.in-Err-Device-default.disk c.in-Some.ensures.value
    (c.in-Some.ensures.allowed.0 refl) (c.in-Err-Device-default.ensures.any_moment h is)

pub returns-in-Err-Memory-default-clause-any_moment : goal.returns-in-Err-Memory-default-clause-any_moment
returns-in-Err-Memory-default-clause-any_moment g c = λ h is.
    new_left g.D.Disk c.args.disk c.in-Err-Memory-default.disk c.in-Some.ensures.value
    (c.in-Some.ensures.allowed.0 refl) (c.in-Err-Memory-default.ensures.any_moment h is)

pub adopt-requires-clause-kept : goal.adopt-requires-clause-kept
adopt-requires-clause-kept g c =
    let D = g.D.Disk in let e = c.in-Ok.ensures in let t = c.in-Ok.slots in let size = c.in-Some.size in
    let parts = e.journal in let its = e.beside.0 in
    let set : c.new-set.result ≡ new_set size = c.new-set.ensures ∙ ap new_set c.bytes-limit.ensures.bytes in
    let allowed : IsSlotSize size = subst (λ (n : ℕ). IsSlotSize n) (sym c.in-Some.ensures.value) (c.in-Some.ensures.allowed.0 refl) in (
      size,
      record { allowed = allowed; side = first; mine = parts.0; its = its; half = ap (λ (s : State). s.limit) set },
      λ h. let h0 = e.honest.1 h in let stands = e.stands h0 in
          subst (λ (s : State). IsKeptIn (D.unsynced t.journal.disk) t size s) (sym set)
          (new_kept (D.unsynced t.journal.disk) t size (D.bytes t.journal.disk) stands.0.allowed (e.made h0) stands.0
          stands.1 stands.2 e.beside.2 parts.0 its parts.1 parts.2 (e.all_synced h0)),
    )

pub returns-clause-slots : goal.returns-clause-slots
returns-clause-slots g c =
    let e = c.in-Ok.ensures in
    rw (c.adopt.ensures.over.place, c.adopt.ensures.over.other, ← c.in-Some.ensures.value) (e.journal.0, e.beside.0)

pub returns-clause-gate : goal.returns-clause-gate
returns-clause-gate g c =
    let e = c.in-Ok.ensures in
    rw (c.adopt.ensures.over.place, e.journal.0, e.journal.1, e.journal.2) refl

pub returns-clause-sure : goal.returns-clause-sure
returns-clause-sure g c = λ h.
    let D = g.D.Disk in let e = c.in-Ok.ensures in let j = c.in-Ok.slots.journal in let size = c.in-Some.size in let stands = e.stands h in
    rw (c.adopt.ensures.over.disk, ← c.in-Some.ensures.value)
    (settled_sure (D.unsynced j.disk) (D.bytes j.disk) (new_set size) (e.all_synced h)
    (new_stands size (D.bytes j.disk) stands.0.allowed (e.made h) stands.0 stands.1 stands.2))

pub returns-clause-any_moment : goal.returns-clause-any_moment
returns-clause-any_moment g c = λ h is.
    rw c.adopt.ensures.over.disk (new_left g.D.Disk c.args.disk c.in-Ok.slots.journal.disk c.in-Some.ensures.value
    (c.in-Some.ensures.allowed.0 refl) (c.in-Ok.ensures.any_moment h is))

pub returns-clause-made : goal.returns-clause-made
returns-clause-made g c = λ h. rw (c.adopt.ensures.over.disk, ← c.in-Some.ensures.value) (c.in-Ok.ensures.made h)
