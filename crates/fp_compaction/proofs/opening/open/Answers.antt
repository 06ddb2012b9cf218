use Rattle.std.proofs.Common.{◌≡◌, ◌+◌, ◌++◌, ℕ, List, length, sym, ap, subst, ◌∙◌}
use Rattle.fp_edit.specs.Flags.{State}
use Rattle.fp_layout.proofs.Opens.{opens_as, refuses_as}
use Rattle.fp_recovery.specs.Stands.{StandsFor}
use Rattle.std.proofs.lemmas.List.{append-nil}
use Rattle.std.proofs.lemmas.Result.{err_from_is_err_and}
use Rattle.fp_journal.specs.Chain.{spell}
use Rattle.fp_slots.specs.State.{sealed_text}
use Rattle.fp_recovery.specs.Recovered.{StandsAt}
use Rattle.fp_recovery.proofs.Kept.{found_at, found_stands}
use Rattle.fp_compaction.specs.Sets.{IsKeptIn, IsPlaced, place_of}
use Rattle.fp_compaction.proofs.Kept.{found_kept, placed}
use Rattle.fp_compaction.proofs.opening.open.Goals as goal

pub returns-clause-stands : goal.returns-clause-stands
returns-clause-stands g c = λ h.
    let D = g.D.Disk in let e = c.in_ok-slots.ensures in let j = c.in_ok-slots.slots.journal in
    subst (λ (s : State). StandsFor (D.bytes c.args.disk) s) (sym c.into_set-set.ensures)
    (found_stands (D.bytes c.args.disk) c.new-restoring.result c.open.new.reader j.slot j.front (e.found h))

pub returns-clause-place : goal.returns-clause-place
returns-clause-place g c = λ h.
    let D = g.D.Disk in let e = c.in_ok-slots.ensures in let j = c.in_ok-slots.slots.journal in
    let b = D.bytes c.args.disk in let before = c.new-restoring.result in let after = c.open.new.reader in
    let found = e.found h in let at = found_at b before after j.slot j.front found in
    let text : sealed_text j ≡ j.front = ap (λ (bodies : List (List ℕ)). j.front ++ spell bodies) e.begins.0 ∙ append-nil j.front in
    let here : StandsAt b after.set (place_of j) = record {
      stands = found_stands b before after j.slot j.front found;
      slot_is = at.0;
      gate_is = ap (λ (t : List ℕ). j.slot.start + length t) text ∙ at.1;
    } in
    subst (λ (s : State). StandsAt b s (place_of j)) (sym c.into_set-set.ensures) here

pub returns-clause-kept : goal.returns-clause-kept
returns-clause-kept g c =
    let D = g.D.Disk in let e = c.in_ok-slots.ensures in let slots = c.in_ok-slots.slots in let j = slots.journal in
    let before = c.new-restoring.result in let after = c.open.new.reader in let i = e.read.begun in (
      i.size,
      subst (λ (s : State). IsPlaced i.size slots s.limit) (sym c.into_set-set.ensures) (placed slots before after e.read),
      λ h. subst (λ (s : State). IsKeptIn (D.unsynced j.disk) slots i.size s) (sym c.into_set-set.ensures)
          (found_kept (D.unsynced j.disk) slots (D.bytes c.args.disk) before after (e.found h) e.begins.0
          (e.all_synced h) (e.slots h).version_is i.size i.side i.slot_is i.other_is),
    )

pub returns-clause-opens : goal.returns-clause-opens
returns-clause-opens g c = opens_as c.in_ok-slots.ensures.kept

pub returns-in_err-slots-clause-opens : goal.returns-in_err-slots-clause-opens
returns-in_err-slots-clause-opens g c = let p =
    err_from_is_err_and c.from_residual.result c.from_residual.ensures.1 in
    rw (p.1, p.2) (refuses_as c.in_err-slots.ensures.kept)
