-- Steps by the step that is next.
use Rattle.std.proofs.Common.{refl, ◌≡◌, ◌≢◌, ◌<◌, ◌≤◌, ◌+◌, ◌-◌, ◌^◌, ℕ, length, Result, Ok, Err, Bool, if◌then◌else◌}
use Rattle.std.proofs.Common.{true, false, List, [], ◌∷◌, ◌++◌, inl, sym, ◌∙◌, ap, subst, arith}
use Rattle.std.specs.Prelude.{OnOk, OnErr, nat_lt}
use Rattle.std.proofs.lemmas.List.{append-nil}
use borrow.Author.Tests.{ltb-true, leb-false}
use Rattle.fp_disk.specs.Moments.{leaves_map, leaves_still}
use Rattle.fp_disk.specs.Outcomes.{IsOutcome, LeavesOnly}
use Rattle.fp_disk.specs.declared.disk.Disk.{Ghosts}
use Rattle.fp_disk.specs.declared.disk.DiskFault.{DiskFault}
use Rattle.fp_journal.specs.Holds.{Holds}
use Rattle.fp_journal.specs.Moments.{KeepsSynced}
use Rattle.fp_journal.specs.State.{HasAmong, HasChain, JournalState, has_begun, room}
use Rattle.fp_journal.specs.Chain.{spell}
use Rattle.fp_journal.specs.declared.slot.Slot.{Slot}
use Rattle.fp_journal.specs.declared.journal.Phase.TheVariants.{GateOpened}
use Rattle.fp_journal.proofs.Holds.{firm_outcome}
use Rattle.fp_edit.specs.Flags.{State}
use Rattle.fp_recovery.specs.Stands.{StandsFor}
use Rattle.fp_slots.specs.Calls.{KeepsOutside, KeepsSlots}
use Rattle.fp_slots.specs.Rules.{Rules}
use Rattle.fp_slots.specs.State.{IsEarly, IsFrontOf, Keeps, KeepsEither, Leaves, OutsideBoth, SameSlots}
use Rattle.fp_slots.specs.declared.places.TheConstants.{PART}
use Rattle.fp_slots.specs.declared.slots.Step.TheVariants.{Begin, Close, SyncClose, Part, Tail, SyncBody, Open, SyncOpen}
use Rattle.fp_compaction.specs.Sets.{GoesOnKept, IsKeptIn, IsPlannedFor, IsTaken, LeavesEither, LeavesSet}
use Rattle.fp_compaction.specs.Steps.{IsFullNow, LeavesNow, LeavesStep, ReadsNext, StepsOn, TakesStep, next_left, next_step}
use Rattle.fp_compaction.proofs.Kept.{either_stands, keeps_stands, kept_on, kept_still, leaves_stands, opened_stands, sealed_full}
use Rattle.fp_disk.specs.declared.history.CallKind.{CallKind}
use Rattle.fp_slots.specs.State.{SlotsState}
use Rattle.fp_slots.specs.declared.slots.Step.{Step}
use Rattle.fp_compaction.specs.Steps.{IsLate, calls_of}

-- the calls of a step whose name is known
pub called_at : {D : Type 0} (calls : D → List CallKind) (old new : SlotsState D) {p : Step} → old.step ≡ p →
    calls new.journal.disk ≡ calls old.journal.disk ++ calls_of p old.may_open →
    calls new.journal.disk ≡ calls old.journal.disk ++ calls_of old.step old.may_open
called_at calls old new is made = made ∙ ap (λ (q : Step). calls old.journal.disk ++ calls_of q old.may_open) (sym is)

pub is_late : (p q : Step) → p ≡ q → IsLate q → IsLate p
is_late p q is late = subst (λ (x : Step). IsLate x) (sym is) late

pub slots_kept : {D : Type 0} (disk : Ghosts D) (old new : SlotsState D) →
    KeepsSynced disk old.journal.disk new.journal.disk (OutsideBoth old) → SameSlots old new → GoesOnKept disk old new
slots_kept disk old new apart same h size s k = let u = disk.unsynced old.journal.disk in (
  k.0,
  kept_on u old size k.0 s k.1 disk.moment disk.crash_states_since disk.unsynced old.journal.disk
      new.journal.disk refl (apart h) new same,
)

-- a step while the slot that rules is the same in every crash state
pub early_step : {D T : Type 0} (disk : Ghosts D) (old new : SlotsState D) {p : Step} {r : Result T DiskFault} →
    old.step ≡ p → KeepsSlots disk old new (Keeps old) r →
    disk.calls new.journal.disk ≡ disk.calls old.journal.disk ++ calls_of p old.may_open → TakesStep disk old new
early_step disk old new is w made = let u = disk.unsynced old.journal.disk in record {
  stands = λ h size s t k taken late. leaves_stands u old size k.0 s k.1 disk.moment disk.crash_states_since
      disk.unsynced old.journal.disk new.journal.disk refl (w.call.apart h) (Keeps old) (LeavesSet old.journal s t)
      (keeps_stands u old size k.0 s k.1 t taken) (w.call.word.any_moment h);
  kept = λ h size s k late. slots_kept disk old new w.call.apart w.same h size s k;
  honest = w.call.word.honest;
  called = called_at disk.calls old new is made;
}

-- ---- such a step, clause by clause
both_ways : {T E : Type 0} (r : Result T E) (P Q : Type 0) → P → Q → OnOk r P × OnErr r Q
both_ways (Ok x) P Q p q = (p, tt)
both_ways (Err e) P Q p q = (tt, q)

pub unmoved : {D T : Type 0} (old new : SlotsState D) (r : Result T DiskFault) → new.left ≡ old.left →
    OnOk r (new.left ≡ old.left) × OnErr r (new.left ≡ old.left)
unmoved old new r same = both_ways r (new.left ≡ old.left) (new.left ≡ old.left) same same

pub part_then : {T E : Type 0} (r : Result T E) (left : ℕ) (q : Step) (P : Type 0) →
    OnOk r ((PART < left → q ≡ Part) × (left ≤ PART → q ≡ Tail)) × OnErr r P → OnOk r (q ≡ next_step Part left) ×
    OnErr r P
part_then (Err e) left q P w = w
part_then (Ok x) left q P w = (
  elim (nat_lt PART left) as (λ t. nat_lt PART left ≡ t → q ≡ (if t then Part else Tail)) [
    | true ↦ λ e. w.0.0 (ltb-true PART left e)
    | false ↦ λ e. w.0.1 (let less = leb-false (PART + 1) left e in omega (arith, less))
  ] refl,
  tt,
)

pub steps_on : {D T : Type 0} (disk : Ghosts D) (old new : SlotsState D) {P : List ℕ → Type 0}
    (r : Result T DiskFault) {p : Step} → old.step ≡ p → p ≢ SyncOpen → TakesStep disk old new →
    KeepsSlots disk old new P r → OnOk r (new.step ≡ next_step p old.left) × OnErr r (new.step ≡ p)
    → OnOk r (new.left ≡ next_left p old.left) × OnErr r (new.left ≡ old.left) → StepsOn disk old new r
steps_on disk old new (Ok x) is other taken w step left = record {
  taken = taken;
  step = (subst (λ (q : Step). new.step ≡ next_step q old.left) (sym is) step.0, tt);
  left = subst (λ (q : Step). new.left ≡ next_left q old.left) (sym is) left.0;
  stays = λ off. record { slots = w.same; phase = w.phase.0 };
  turned = λ at. absurd (other (sym is ∙ at));
  no_failure = w.call.cause.well refl;
  broken = tt;
}
steps_on disk old new (Err e) is other taken w step left = record {
  taken = taken;
  step = (tt, step.1 ∙ sym is);
  left = tt;
  stays = tt;
  turned = tt;
  no_failure = tt;
  broken = record { slots = w.same; left = left.1; failed = w.phase.1; cause = w.call.cause.ill refl };
}

pub early_on : {D T : Type 0} (disk : Ghosts D) (old new : SlotsState D) (r : Result T DiskFault) {p : Step} →
    old.step ≡ p → p ≢ SyncOpen → KeepsSlots disk old new (Keeps old) r →
    disk.calls new.journal.disk ≡ disk.calls old.journal.disk ++ calls_of p old.may_open →
    OnOk r (new.step ≡ next_step p old.left) × OnErr r (new.step ≡ p)
    → OnOk r (new.left ≡ next_left p old.left) × OnErr r (new.left ≡ old.left) → StepsOn disk old new r
early_on disk old new r is other w made step left = steps_on disk old new r is other (early_step disk old new is w made) w step left

-- a call in which either slot may come to rule
pub either_leaves : {D T : Type 0} (disk : Ghosts D) (old new : SlotsState D) {r : Result T DiskFault} →
    KeepsOutside disk old new (KeepsEither old) r → LeavesEither disk old new
either_leaves disk old new w = let u = disk.unsynced old.journal.disk in
    λ h size s k planned. leaves_stands u old size k.0 s k.1 disk.moment disk.crash_states_since disk.unsynced
    old.journal.disk new.journal.disk refl (w.apart h) (KeepsEither old) (λ o. StandsFor o s)
    (either_stands u old size k.0 s k.1 planned) (w.word.any_moment h)

pub late_leaves : {D : Type 0} (disk : Ghosts D) (old new : SlotsState D) {p : Step} → old.step ≡ p → IsLate p →
    LeavesEither disk old new → LeavesStep disk old new
late_leaves disk old new is late either = λ h size s t k taken planned.
    leaves_map disk.moment disk.crash_states_since old.journal.disk new.journal.disk (λ o. StandsFor o s)
    (LeavesSet old.journal s t) (λ c stands. inl stands)
    (either h size s k (planned (is_late old.step _ is late)))

-- the room of the slot that is turned to
pub room_turned : {D : Type 0} (old new : SlotsState D) → new.journal.slot ≡ old.other →
    new.journal.front ≡ old.text → new.journal.sealed ≡ [] →
    room new.journal ≡ old.other.stop - (old.other.start + length old.text)
room_turned old new slot front none =
    let text = ap (λ (l : List (List ℕ)). new.journal.front ++ spell l) none ∙ append-nil new.journal.front ∙ front in
    ap (λ (x : Slot). x.stop - (x.start + length (new.journal.front ++ spell new.journal.sealed))) slot ∙
    ap (λ (l : List ℕ). old.other.stop - (old.other.start + length l)) text

-- no call was made: what is left now is what was left before
pub still_step : {D : Type 0} (disk : Ghosts D) (old new : SlotsState D) →
    ((d : D) (c : List ℕ) → disk.honest d → disk.crash_states_since d (disk.moment d) c →
    IsOutcome (disk.unsynced d) c)
    → old.step ≡ Begin → new.journal ≡ old.journal → new.other ≡ old.other → new.version ≡ old.version →
    (disk.honest old.journal.disk → (c : List ℕ) → IsOutcome (disk.unsynced old.journal.disk) c → Keeps old c) →
    TakesStep disk old new
still_step {D} disk old new only_now is journal other version now =
    let same : new.journal.disk ≡ old.journal.disk = ap (λ (j : JournalState D). j.disk) journal in record {
      stands = λ h size s t k taken late. subst
          (λ (d : D). LeavesOnly disk.moment disk.crash_states_since old.journal.disk d (LeavesSet old.journal s t))
          (sym same)
          (leaves_still disk.moment disk.crash_states_since old.journal.disk (LeavesSet old.journal s t)
          (λ c left. let o = only_now old.journal.disk c h left in
          keeps_stands (disk.unsynced old.journal.disk) old size k.0 s k.1 t taken c
          (firm_outcome (disk.unsynced old.journal.disk) 0 k.1.header c k.1.firm o) (now h c o)));
      kept = λ h size s k late. subst (λ (d : D). IsKeptIn (disk.unsynced d) new size s) (sym same) (kept_still journal other version k);
      honest = subst (λ (d : D). (disk.honest old.journal.disk → disk.honest d) ×
          (disk.honest d → disk.honest old.journal.disk)) (sym same) (λ h. h, λ h. h);
      called = ap disk.calls same ∙ sym (append-nil (disk.calls old.journal.disk)) ∙
          ap (λ (q : Step). disk.calls old.journal.disk ++ calls_of q old.may_open) (sym is);
    }

-- where none runs, the slot that rules keeps what its journal claims
pub begins_now : {D : Type 0} (slots : SlotsState D) (p : Step) → p ≡ Begin → (c : List ℕ) → Leaves p slots c → Keeps slots c
begins_now slots p is c left = subst (λ (q : Step). Leaves q slots c) is left

-- ---- what a crash leaves now, and what a read gives, by the step that is next
module _ {D : Type 0} (disk : Ghosts D) (slots : SlotsState D) where
  left_at : (p : Step) (size : ℕ) (s t : State) → (k : IsKeptIn (disk.unsynced slots.journal.disk) slots size s) →
      IsTaken slots size s t → (IsLate p → IsPlannedFor slots size s) → (c : List ℕ) →
      IsOutcome (disk.unsynced slots.journal.disk) c
      → Leaves p slots c → LeavesSet slots.journal s t c
  left_at p size s t k taken late c out = at p late
    where
      head : Holds c 0 k.1.header
      head = firm_outcome (disk.unsynced slots.journal.disk) 0 k.1.header c k.1.firm out

      keeps : Keeps slots c → LeavesSet slots.journal s t c
      keeps left = keeps_stands (disk.unsynced slots.journal.disk) slots size k.0 s k.1 t taken c head left

      at : (q : Step) → (IsLate q → IsPlannedFor slots size s) → Leaves q slots c → LeavesSet slots.journal s t c
      at Begin late left = keeps left
      at Close late left = keeps left
      at SyncClose late left = keeps left
      at Part late left = keeps left
      at Tail late left = keeps left
      at SyncBody late left = keeps left
      at Open late left = inl (either_stands (disk.unsynced slots.journal.disk) slots size k.0 s k.1 (late tt) c head left)
      at SyncOpen late left = inl (either_stands (disk.unsynced slots.journal.disk) slots size k.0 s k.1 (late tt) c head left)

  pub leaves_now : (p : Step) → p ≡ slots.step →
      (disk.honest slots.journal.disk → (c : List ℕ) → IsOutcome (disk.unsynced slots.journal.disk) c →
      Leaves p slots c) → LeavesNow disk slots
  leaves_now p is now = λ h size s t k taken late c out. left_at p size s t k taken
      (λ l. late (is_late slots.step p (sym is) l)) c out (now h c out)

  rules_at : (p : Step) → IsEarly p → (c : List ℕ) → Leaves p slots c → Rules slots.journal.slot.start slots.other.start c
  rules_at Begin early c left = left.0
  rules_at Close early c left = left.0
  rules_at SyncClose early c left = left.0
  rules_at Part early c left = left.0
  rules_at Tail early c left = left.0
  rules_at SyncBody early c left = absurd early
  rules_at Open early c left = absurd early
  rules_at SyncOpen early c left = absurd early

  pub reads_next : ((d : D) → disk.honest d → IsOutcome (disk.unsynced d) (disk.bytes d)) → (p : Step) →
      p ≡ slots.step → (disk.honest slots.journal.disk → (c : List ℕ) →
      IsOutcome (disk.unsynced slots.journal.disk) c → Leaves p slots c)
      → (disk.honest slots.journal.disk → slots.journal.phase ≡ GateOpened →
      HasChain slots.journal.slot slots.journal.front (slots.journal.sealed ++ slots.journal.staged ∷ [])
      (disk.bytes slots.journal.disk)) → IsEarly slots.step → ReadsNext disk slots
  reads_next present p is now reads early = λ h opened size s t k leads.
      let c : List ℕ = disk.bytes slots.journal.disk in let out = present slots.journal.disk h in
      opened_stands (disk.unsynced slots.journal.disk) slots size k.0 s k.1 t leads c
      (firm_outcome (disk.unsynced slots.journal.disk) 0 k.1.header c k.1.firm out)
      (rules_at p (subst (λ (q : Step). IsEarly q) (sym is) early) c (now h c out)) (reads h opened)

  -- where none runs
  chain_at : (b : Bool) → b ≡ false → (c : List ℕ) →
      HasAmong b slots.journal.slot slots.journal.front slots.journal.sealed slots.journal.staged c →
      HasChain slots.journal.slot slots.journal.front slots.journal.sealed c
  chain_at false is c chain = chain
  chain_at true is c chain = absurd (cc is)

  pub full_now : (p : Step) → p ≡ slots.step →
      (disk.honest slots.journal.disk → (c : List ℕ) → IsOutcome (disk.unsynced slots.journal.disk) c →
      Leaves p slots c)
      → IsFrontOf slots.version slots.generation slots.journal.front → slots.generation < 2 ^ 64 → IsFullNow disk slots
  full_now p is now front small = λ h begins begun size s k group none c out.
      let keeps = begins_now slots p (is ∙ begins) c (now h c out) in
      sealed_full (disk.unsynced slots.journal.disk) slots size k.0 s k.1 front small group none c
      (firm_outcome (disk.unsynced slots.journal.disk) 0 k.1.header c k.1.firm out) keeps.0
      (chain_at (has_begun slots.journal.phase slots.journal.begun) begun c keeps.1)
