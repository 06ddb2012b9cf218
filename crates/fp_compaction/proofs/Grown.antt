-- The calls of a batch, by the sets that they lead from and to; and a sealed batch joins what the other slot is to hold.
use Rattle.std.proofs.Common.{arith, ◌≡◌, ◌⊎◌, ◌<◌, ◌≤◌, ◌+◌, ℕ, Bool, List, [], ◌∷◌, ◌++◌, length, refl, sym, ◌∙◌, ap, subst}
use Rattle.std.specs.Prelude.{Result, Ok, Err, OnOk, OnErr}
use Rattle.fp_disk.specs.Outcomes.{LeavesOnly}
use Rattle.fp_disk.specs.declared.disk.Disk.{Ghosts}
use Rattle.fp_disk.specs.declared.disk.DiskFault.{DiskFault}
use Rattle.fp_disk.specs.declared.history.CallKind.{CallKind}
use Rattle.fp_edit.specs.Flags.{State}
use Rattle.fp_gate.specs.declared.gate.TheConstants.{OPEN}
use Rattle.fp_journal.specs.Chain.{body_of, with_length, with_gate}
use Rattle.fp_journal.specs.Holds.{Holds}
use Rattle.fp_journal.specs.declared.journal.Phase.{Phase}
use Rattle.fp_journal.specs.declared.journal.Phase.TheVariants.{Failed}
use Rattle.fp_journal.specs.declared.slot.Slot.{Slot}
use Rattle.fp_journal.proofs.Steps.{body_of-with_gate}
use Rattle.std.specs.List.{AllByRecursion}
use Rattle.fp_edit.specs.Edits.{Change, one, set}
use Rattle.fp_slots.specs.Head.{IsVersion}
use Rattle.fp_slots.specs.declared.places.TheConstants.{VERSION}
use Rattle.fp_recovery.specs.Stands.{IsAllowed, Spells, StandsFor, TakesBatch}
use Rattle.fp_recovery.proofs.Texts.{spells_on}
use Rattle.fp_slots.specs.Calls.{KeepsCompaction}
use Rattle.fp_slots.specs.State.{SlotsState, IsGrowing, KeepsOrNext, KeepsSealed, SameCompaction}
use Rattle.fp_slots.specs.declared.slots.Step.{Step}
use Rattle.fp_compaction.specs.Sets.{GoesOnKept, IsKeptIn, IsPlannedFor}
use Rattle.fp_compaction.specs.Batches.{FitsBeside, IsReadyFor, LeadsTo, LeavesNext, LeavesSealed}
use Rattle.fp_compaction.specs.Calls.{MovesBatch}
use Rattle.fp_compaction.proofs.Kept as kept

-- ---- a call of a batch
module _ {D T : Type 0} (disk : Ghosts D) (old new : SlotsState D) {P : List ℕ → Type 0} {r : Result T DiskFault}
    (w : KeepsCompaction disk old new P r) where
  leaves_as : (size : ℕ) (s : State) (k : IsKeptIn (disk.unsynced old.journal.disk) old size s) (Q : List ℕ → Type 0)
      → ((c : List ℕ) → Holds c 0 k.1.header → P c → Q c) → disk.honest old.journal.disk →
      LeavesOnly disk.moment disk.crash_states_since old.journal.disk new.journal.disk Q
  leaves_as size s k Q shows h =
      kept.leaves_stands (disk.unsynced old.journal.disk) old size k.0 s k.1 disk.moment disk.crash_states_since
      disk.unsynced old.journal.disk new.journal.disk refl (w.call.apart h) P Q shows (w.call.word.any_moment h)

  pub kept_batch : new.journal.sealed ≡ old.journal.sealed → GoesOnKept disk old new
  kept_batch sealed h size s k = (
    k.0,
    kept.kept_beside (disk.unsynced old.journal.disk) old size k.0 s k.1 disk.moment disk.crash_states_since
        disk.unsynced old.journal.disk new.journal.disk refl (w.call.apart h) new w.same sealed,
  )

  pub moves_batch : {kind : CallKind} {to : Phase} {opens : Bool} →
      disk.calls new.journal.disk ≡ disk.calls old.journal.disk ++ kind ∷ [] →
      new.journal.sealed ≡ old.journal.sealed → OnOk r (new.journal.phase ≡ to) ×
      OnErr r (new.journal.phase ≡ Failed) → new.journal.begun ≡ opens → MovesBatch disk kind to opens old new r
  moves_batch called sealed phase begun = record {
    call = record { honest = w.call.word.honest; called = called; cause = w.call.cause };
    kept = kept_batch sealed;
    same = w.same;
    sealed = sealed;
    phase = phase;
    begun = begun;
  }

pub leaves_sealed : {D T : Type 0} (disk : Ghosts D) (old new : SlotsState D) {r : Result T DiskFault} →
    KeepsCompaction disk old new (KeepsSealed old) r → LeavesSealed disk old new
leaves_sealed disk old new w h size s k =
    leaves_as disk old new w size s k (λ o. StandsFor o s)
    (kept.sealed_stands (disk.unsynced old.journal.disk) old size k.0 s k.1) h

pub leaves_next : {D T : Type 0} (disk : Ghosts D) (old new : SlotsState D) {r : Result T DiskFault} →
    KeepsCompaction disk old new (KeepsOrNext old old.journal.staged) r → LeavesNext disk old new
leaves_next disk old new w h size s t k leads =
    leaves_as disk old new w size s k (λ o. StandsFor o s ⊎ StandsFor o t)
    (kept.next_stands (disk.unsynced old.journal.disk) old size k.0 s k.1 t leads) h

-- what holds anyhow holds where a call failed
pub on_err : {T E : Type 0} (r : Result T E) (P : Type 0) → P → OnErr r P
on_err (Ok x) P p = tt
on_err (Err e) P p = p

-- what may stand in a slot of some version may in one of the last
allowed_later : (version : ℕ) (cs : List Change) → version ≤ VERSION → AllByRecursion (IsAllowed version) cs →
    AllByRecursion (IsAllowed VERSION) cs
allowed_later version [] le all = tt
allowed_later version (one p ∷ cs) le all = (tt, allowed_later version cs le all.1)
allowed_later version (set ps ∷ cs) le all = (let some = all.0 in omega (arith, some, le), allowed_later version cs le all.1)

takes_later : (version : ℕ) (s t : State) (body : List ℕ) → IsVersion version → TakesBatch version s body t → TakesBatch VERSION s body t
takes_later version s t body known takes = record {
  group = takes.group;
  lawful = takes.lawful;
  allowed = allowed_later version takes.group.changes known.greatest takes.allowed;
  spelled = takes.spelled;
  follows = takes.follows;
  leads = takes.leads;
}

-- the step of a compaction stays
pub grows_still : (p q : Step) → q ≡ p → IsGrowing p → IsGrowing q
grows_still p q is growing = subst (λ (x : Step). IsGrowing x) (sym is) growing

module _ {D : Type 0} (old mid : SlotsState D) (same : SameCompaction old mid)
    (ready : IsReadyFor old old.journal.staged) (growing : IsGrowing old.step) where
  coming : mid.coming ≡ with_gate old.journal.staged
  coming = same.9 ∙ ready growing

  pub body : body_of mid.coming ≡ old.journal.staged
  body = ap body_of coming ∙ body_of-with_gate old.journal.staged

  pub ready_on : mid.coming ≡ with_gate (body_of mid.coming)
  ready_on = coming ∙ sym (ap with_gate body)

  pub fits_on : FitsBeside old old.journal.staged →
      mid.other.start + length (mid.text ++ OPEN ∷ with_length (body_of mid.coming)) < mid.other.stop
  fits_on fits =
      let a : old.other.start + length (old.text ++ OPEN ∷ with_length old.journal.staged) < old.other.stop = fits growing in
      let b : mid.other.start + length (old.text ++ OPEN ∷ with_length old.journal.staged) < mid.other.stop =
      subst (λ (x : Slot). x.start + length (old.text ++ OPEN ∷ with_length old.journal.staged) < x.stop)
      (sym same.1) a in
      let d : mid.other.start + length (mid.text ++ OPEN ∷ with_length old.journal.staged) < mid.other.stop =
      subst (λ (t : List ℕ). mid.other.start + length (t ++ OPEN ∷ with_length old.journal.staged) <
      mid.other.stop) (sym same.6) b in
      subst (λ (t : List ℕ). mid.other.start + length (mid.text ++ OPEN ∷ with_length t) < mid.other.stop) (sym body) d

  pub text_on : (new : SlotsState D) → new.text ≡ mid.text ++ OPEN ∷ with_length (body_of mid.coming) →
      new.text ≡ old.text ++ OPEN ∷ with_length old.journal.staged
  text_on new grown = grown ∙ ap (λ (x : List ℕ). x ++ OPEN ∷ with_length (body_of mid.coming)) same.6 ∙
      ap (λ (x : List ℕ). old.text ++ OPEN ∷ with_length x) body

  pub plans_next : (new : SlotsState D) → new.text ≡ mid.text ++ OPEN ∷ with_length (body_of mid.coming) →
      IsVersion old.version → (size : ℕ) (s t : State) → IsPlannedFor old size s → LeadsTo old size s t →
      IsPlannedFor new size t
  plans_next new grown known size s t planned leads =
      subst (λ (x : List ℕ). (p : Spells size x t) × (p.version ≡ VERSION)) (sym (text_on new grown)) (
        spells_on size old.text old.journal.staged s t planned.0
            (subst (λ (v : ℕ). TakesBatch v s old.journal.staged t) (sym planned.1)
            (takes_later old.version s t old.journal.staged known leads.0)) leads.1,
        planned.1,
      )
