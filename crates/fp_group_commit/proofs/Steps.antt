-- A store from call to call.
use Rattle.std.proofs.Common.{◌≡◌, ◌≢◌, ◌⊎◌, ◌<◌, ◌≤◌, ◌+◌, ◌-◌, ◌/◌, ◌^◌, ℕ, Bool, true, false, List, [], ◌∷◌, ◌++◌}
use Rattle.std.proofs.Common.{length, refl, sym, ap, subst, ◌∙◌, inl, inr, ⊎_elim, if◌then◌else◌, arith, append_assoc}
use Rattle.std.proofs.Common.{length-append}
use Rattle.std.specs.Prelude.{Err}
use Rattle.std.proofs.lemmas.List.{append-nil}
use Rattle.fp_disk.specs.Outcomes.{PendingState, IsOutcome, LeavesOnly}
use Rattle.fp_disk.specs.Moments.{leaves_still}
use Rattle.fp_disk.specs.History.{MakesSome}
use Rattle.fp_disk.specs.declared.disk.Disk.{Ghosts}
use Rattle.fp_disk.specs.declared.history.CallKind.{CallKind}
use Rattle.fp_edit.specs.Edits.{Change}
use Rattle.fp_edit.specs.Flags.{State}
use Rattle.fp_pending.specs.Following.{Follows}
use Rattle.fp_edit.specs.Log.{after_all}
use Rattle.fp_gate.specs.declared.gate.TheConstants.{OPEN}
use Rattle.fp_journal.specs.declared.journal.Phase as journal_phases
use Rattle.fp_journal.specs.declared.journal.Phase.TheVariants as at
use Rattle.fp_journal.specs.declared.journal.Phase.TheVariants.{Failed}
use Rattle.fp_journal.specs.declared.slot.Slot.{Slot}
use Rattle.fp_journal.specs.Chain.{with_length, spell}
use Rattle.fp_journal.specs.State.{IsOnWay, JournalState, SameSlot, room}
use Rattle.fp_journal.specs.State as journal
use Rattle.fp_layout.specs.Size.{Side, other_side, slot_of}
use Rattle.fp_layout.specs.Size as sides
use Rattle.fp_recovery.specs.Stands.{StandsFor}
use Rattle.fp_slots.specs.State.{HasBegun, IsEarly, SameCompaction, SamePlan, SlotsState}
use Rattle.fp_slots.specs.declared.slots.Step.{Step}
use Rattle.fp_slots.specs.declared.slots.Step.TheVariants.{Begin, Close, SyncClose, Part, Tail, SyncBody, Open, SyncOpen}
use Rattle.fp_compaction.specs.Batches.{HasRoomFor, LeadsTo, LeavesNext, LeavesSealed, tail_of}
use Rattle.fp_compaction.specs.Sets.{GoesOnKept, IsKeptIn, IsPlaced, IsPlannedFor, IsTaken, LeavesSet}
use Rattle.fp_compaction.proofs.Kept.{kept_still}
use Rattle.fp_compaction.specs.Steps.{IsLate, LeavesNow, ReadsNext, next_step}
use Rattle.fp_group_commit.specs.declared.phase.Phase.{Phase}
use Rattle.fp_group_commit.specs.declared.phase.Phase.TheVariants.{Idle, Staged, BodySynced, GateOpened}
use Rattle.fp_group_commit.specs.Calls.{Breaks, CallsDisk, SameRoom}
use Rattle.fp_group_commit.specs.Inside.{Inside, is_failed, journal_phase, seen}
use Rattle.fp_group_commit.specs.Store.{Compaction, IsAtRest, is_opened, readable_set, reached_at, StoreState, Leaves, sealed_set, coming}
use Rattle.fp_group_commit.specs.Sound.{IsFlight, IsSound}

-- ---- phases
-- whether a call of the device failed
pub is_well : (p : journal_phases.Phase) → p ≢ Failed → is_failed p ≡ false
is_well at.Idle well = refl
is_well at.Staged well = refl
is_well at.BodySynced well = refl
is_well at.GateOpened well = refl
is_well at.Failed well = absurd (well refl)

pub well_is : (p : journal_phases.Phase) → is_failed p ≡ false → p ≢ Failed
well_is p well e = let both : false ≡ true = sym well ∙ ap is_failed e in absurd (cc both)

pub well_at : (p : Phase) → is_failed (journal_phase p) ≡ false
well_at Idle = refl
well_at Staged = refl
well_at BodySynced = refl
well_at GateOpened = refl

pub goes : (p q : journal_phases.Phase) → (p ≡ Failed → ⊥) → (p ≡ q) ⊎ (p ≡ Failed) → p ≡ q
goes p q never (inl e) = e
goes p q never (inr e) = absurd (never e)

-- a batch is on its way
pub not_idle : (p q : Phase) (A B : Type 0) → p ≡ q → (q ≡ Idle → ⊥) → ((p ≡ Idle) × B) ⊎ A → A
not_idle p q A B is never (inl e) = absurd (never (sym is ∙ e.0))
not_idle p q A B is never (inr a) = a

pub way_at : (p : Phase) → p ≢ Idle → IsOnWay (journal_phase p)
way_at Idle off = absurd (off refl)
way_at Staged off = tt
way_at BodySynced off = tt
way_at GateOpened off = tt

-- none is
pub idle_or : (p : Phase) (A B : Type 0) → p ≡ Idle → (A → p ≢ Idle) → (B ⊎ A) → B
idle_or p A B is way (inl b) = b
idle_or p A B is way (inr a) = absurd (way a is)

-- the phase alone tells whether a call began to open the gate
pub opened_at : (p : Phase) (b : Bool) → journal.has_begun (journal_phase p) b ≡ is_opened p
opened_at Idle b = refl
opened_at Staged b = refl
opened_at BodySynced b = refl
opened_at GateOpened b = refl

-- no call began to open a gate
never_begun : (p : journal_phases.Phase) (q : Phase) (b : Bool) → q ≡ Idle → (p ≡ journal_phase q) ⊎ (p ≡ Failed) →
    b ≡ false → journal.has_begun p b ≡ true → ⊥
never_begun p q b idle (inl e) none begun = let no : false ≡ true =
    sym (ap (λ (x : journal_phases.Phase). journal.has_begun x b) (e ∙ ap journal_phase idle)) ∙ begun in
    absurd (cc no)
never_begun p q b idle (inr e) none begun = let no : b ≡ true =
    sym (ap (λ (x : journal_phases.Phase). journal.has_begun x b) e) ∙ begun in absurd (cc (no, none))

pub begun_opened : (p : journal_phases.Phase) (b : Bool) → (p ≡ at.GateOpened) ⊎ ((p ≡ Failed) × (b ≡ true)) → journal.has_begun p b ≡ true
begun_opened p b (inl e) = subst (λ (x : journal_phases.Phase). journal.has_begun x b ≡ true) (sym e) refl
begun_opened p b (inr e) = subst (λ (x : journal_phases.Phase). journal.has_begun x b ≡ true) (sym e.0) e.1

-- no call has begun to open it
pub begun_shut : (p : journal_phases.Phase) (q : Phase) (b : Bool) → is_opened q ≡ false → b ≡ false →
    (p ≡ journal_phase q) ⊎ (p ≡ Failed) → journal.has_begun p b ≡ false
begun_shut p q b off none (inl e) = ap (λ (x : journal_phases.Phase). journal.has_begun x b) e ∙ opened_at q b ∙ off
begun_shut p q b off none (inr e) = ap (λ (x : journal_phases.Phase). journal.has_begun x b) e ∙ none

-- where no call failed, the phase tells it
pub begun_at : (p : journal_phases.Phase) (q : Phase) (b : Bool) → is_failed p ≡ false →
    (p ≡ journal_phase q) ⊎ (p ≡ Failed) → journal.has_begun p b ≡ is_opened q
begun_at p q b well (inl e) = ap (λ (x : journal_phases.Phase). journal.has_begun x b) e ∙ opened_at q b
begun_at p q b well (inr e) = absurd (well_is p well e)

-- it stays so where the device fails
pub begun_stays : (p q : journal_phases.Phase) (b b2 : Bool) → journal.has_begun p b ≡ b → b2 ≡ b → q ≡ Failed →
    journal.has_begun q b2 ≡ journal.has_begun p b
begun_stays p q b b2 told same e = ap (λ (x : journal_phases.Phase). journal.has_begun x b2) e ∙ same ∙ sym told

-- ---- steps
late_begun : (p : Step) → IsLate p → HasBegun p
late_begun Begin l = absurd l
late_begun Close l = absurd l
late_begun SyncClose l = absurd l
late_begun Part l = absurd l
late_begun Tail l = absurd l
late_begun SyncBody l = absurd l
late_begun Open l = tt
late_begun SyncOpen l = tt

pub begun_unless : (p : Step) → (p ≡ Begin → ⊥) → HasBegun p
begun_unless Begin other = absurd (other refl)
begun_unless Close other = tt
begun_unless SyncClose other = tt
begun_unless Part other = tt
begun_unless Tail other = tt
begun_unless SyncBody other = tt
begun_unless Open other = tt
begun_unless SyncOpen other = tt

part_early : (b : Bool) → IsEarly (if b then Part else Tail)
part_early true = tt
part_early false = tt

pub early_next : (p : Step) (left : ℕ) → IsEarly p → (p ≡ Tail → ⊥) → IsEarly (next_step p left)
early_next Begin left e other = tt
early_next Close left e other = tt
early_next SyncClose left e other = tt
early_next Part left e other = part_early _
early_next Tail left e other = absurd (other refl)
early_next SyncBody left e other = absurd e
early_next Open left e other = absurd e
early_next SyncOpen left e other = absurd e

-- the first step, the last, and those between them
pub by_place : (p : Step) (P : Type 0) → (p ≡ Begin → P) → (p ≢ Begin → p ≢ SyncOpen → P) → (p ≡ SyncOpen → P) → P
by_place Begin P a b c = a refl
by_place Close P a b c = b (λ e. absurd (cc e)) (λ e. absurd (cc e))
by_place SyncClose P a b c = b (λ e. absurd (cc e)) (λ e. absurd (cc e))
by_place Part P a b c = b (λ e. absurd (cc e)) (λ e. absurd (cc e))
by_place Tail P a b c = b (λ e. absurd (cc e)) (λ e. absurd (cc e))
by_place SyncBody P a b c = b (λ e. absurd (cc e)) (λ e. absurd (cc e))
by_place Open P a b c = b (λ e. absurd (cc e)) (λ e. absurd (cc e))
by_place SyncOpen P a b c = c refl

-- ---- slots
pub room_same : {D : Type 0} (a b : JournalState D) → b.slot ≡ a.slot → b.front ≡ a.front → b.sealed ≡ a.sealed → room b ≡ room a
room_same a b slot front sealed = ap (λ (p : Slot). p.stop - (p.start + length (b.front ++ spell b.sealed))) slot
    ∙ ap (λ (l : List ℕ). a.slot.stop - (a.slot.start + length (l ++ spell b.sealed))) front ∙
    ap (λ (l : List (List ℕ)). a.slot.stop - (a.slot.start + length (a.front ++ spell l))) sealed

pub most_of : (size : ℕ) (x : Side) (slot : Slot) → slot ≡ slot_of size x → slot.most ≡ size / 8 - 6
most_of size sides.first slot is = ap (λ (p : Slot). p.most) is
most_of size sides.second slot is = ap (λ (p : Slot). p.most) is

pub wide_of : (size : ℕ) (x : Side) (slot : Slot) → slot ≡ slot_of size x → slot.stop ≡ slot.start + size
wide_of size sides.first slot is = let a = ap (λ (p : Slot). p.start) is in let b = ap (λ (p : Slot). p.stop) is in omega (arith, a, b)
wide_of size sides.second slot is = let a = ap (λ (p : Slot). p.start) is in let b = ap (λ (p : Slot). p.stop) is in omega (arith, a, b)

flip : (x : Side) → other_side (other_side x) ≡ x
flip sides.first = refl
flip sides.second = refl

module _ {D : Type 0} (size limit : ℕ) (old new : SlotsState D) (p : IsPlaced size old limit) where
  pub placed_as : new.journal.slot ≡ old.journal.slot → new.other ≡ old.other → IsPlaced size new limit
  placed_as slot other = record { allowed = p.allowed; side = p.side; mine = slot ∙ p.mine; its = other ∙ p.its; half = p.half }

  pub placed_turned : new.journal.slot ≡ old.other → new.other ≡ old.journal.slot → IsPlaced size new limit
  placed_turned slot other = record {
    allowed = p.allowed;
    side = other_side p.side;
    mine = slot ∙ p.its;
    its = other ∙ p.mine ∙
        sym (ap (λ (x : Side). slot_of size x) (flip p.side));
    half = p.half;
  }

-- a body of n bytes has room behind a text of so many
pub fits_other : (size : ℕ) (x : Side) (slot : Slot) (text body : List ℕ) → slot ≡ slot_of size x → 2 ^ 18 ≤ size →
    length text + length body + 5 < size → slot.start + length (text ++ OPEN ∷ with_length body) < slot.stop
fits_other size x slot text body is large less =
    let wide = wide_of size x slot is in let joined = length-append text (OPEN ∷ with_length body) in omega (arith, wide, joined, less)

-- ---- calls of a disk
pub makes_none : (kinds : List CallKind) (old : List CallKind) → MakesSome kinds old old
makes_none [] old = refl
makes_none (k ∷ kinds) old = inl refl

-- ---- what a crash leaves, and what a read gives
module _ {D : Type 0} (disk : Ghosts D) {s : Inside D} {set : State} {first : ℕ} {ahead copies : List Change}
    (i : IsSound disk.honest disk.unsynced s set first ahead copies) where
  pub taken : IsTaken s.slots i.size (sealed_set (seen s)) (coming (seen s))
  taken begun = ⊎_elim
      (λ none. absurd (never_begun s.slots.journal.phase s.phase s.slots.journal.begun none.0 i.going none.1 begun))
      (λ f. let most = most_of i.size i.placed.side s.slots.journal.slot i.placed.mine in let short = f.short in
      (f.takes, omega (arith, most, short))) i.flight

  pub late : IsLate s.slots.step → IsPlannedFor s.slots i.size (sealed_set (seen s))
  late l = (i.planned (late_begun s.slots.step l)).spells

  pub leads : IsFlight s first ahead copies → LeadsTo s.slots i.size (sealed_set (seen s)) (coming (seen s))
  leads f = let most = most_of i.size i.placed.side s.slots.journal.slot i.placed.mine in let short = f.short in
      (f.takes, omega (arith, most, short))

  off_idle : journal.has_begun s.slots.journal.phase s.slots.journal.begun ≡ true → s.phase ≢ Idle
  off_idle begun idle = ⊎_elim
      (λ none. never_begun s.slots.journal.phase s.phase s.slots.journal.begun none.0 i.going none.1 begun)
      (λ f. f.on_way idle) i.flight

  pub leaves_of : (c : List ℕ) → LeavesSet s.slots.journal (sealed_set (seen s)) (coming (seen s)) c → Leaves (seen s) c
  leaves_of c (inl stands) = inl stands
  leaves_of c (inr both) = inr (off_idle both.0, both.0, both.1)

  pub now : LeavesNow disk s.slots → disk.honest s.slots.journal.disk → (c : List ℕ) →
      IsOutcome (disk.unsynced s.slots.journal.disk) c → Leaves (seen s) c
  now leaves h c out = leaves_of c (leaves h i.size (sealed_set (seen s)) (coming (seen s)) (i.kept_is h) taken late c out)

  shut_reads : (p : Phase) (c : List ℕ) → is_opened p ≡ false → s.slots.journal.phase ≡ journal_phase p →
      Leaves (seen s) c → StandsFor c (sealed_set (seen s))
  shut_reads p c shut is (inl stands) = stands
  shut_reads p c shut is (inr both) =
      let b = s.slots.journal.begun in
      let no : false ≡ true = sym (ap (λ (x : journal_phases.Phase). journal.has_begun x b) is ∙ opened_at p b ∙
      shut) ∙ both.1 in absurd (cc no)

  by_phase : (p : Phase) (c : List ℕ) → s.slots.journal.phase ≡ journal_phase p →
      (p ≡ GateOpened → StandsFor c (coming (seen s))) → Leaves (seen s) c →
      StandsFor c (reached_at p (sealed_set (seen s)) (coming (seen s)))
  by_phase Idle c is opened left = shut_reads Idle c refl is left
  by_phase Staged c is opened left = shut_reads Staged c refl is left
  by_phase BodySynced c is opened left = shut_reads BodySynced c refl is left
  by_phase GateOpened c is opened left = opened refl

  pub reads : ((d : D) → disk.honest d → IsOutcome (disk.unsynced d) (disk.bytes d)) → LeavesNow disk s.slots →
      (IsEarly s.slots.step → ReadsNext disk s.slots) → disk.honest s.slots.journal.disk →
      is_failed s.slots.journal.phase ≡ false → StandsFor (disk.bytes s.slots.journal.disk) (readable_set (seen s))
  reads present leaves next h well =
      let is = goes s.slots.journal.phase (journal_phase s.phase) (well_is s.slots.journal.phase well) i.going in
      let c = disk.bytes s.slots.journal.disk in
      by_phase s.phase c is
      (λ opened. let f = not_idle s.phase GateOpened _ _ opened (λ e. absurd (cc e)) i.flight in
      next f.early h (is ∙ ap journal_phase opened) i.size (sealed_set (seen s)) (coming (seen s)) (i.kept_is h)
      (leads f))
      (now leaves h c (present s.slots.journal.disk h))

  pub rests : IsAtRest (seen s) → journal.has_begun s.slots.journal.phase s.slots.journal.begun ≡ false
  rests rest = begun_at s.slots.journal.phase s.phase s.slots.journal.begun rest.1 i.going ∙ ap is_opened rest.0

  -- nothing is done
  pub still : ((d : D) (c : List ℕ) → disk.honest d → disk.crash_states_since d (disk.moment d) c →
      IsOutcome (disk.unsynced d) c) → LeavesNow disk s.slots → disk.honest s.slots.journal.disk
      → LeavesOnly disk.moment disk.crash_states_since s.slots.journal.disk s.slots.journal.disk (Leaves (seen s))
  still only_now leaves h = leaves_still disk.moment disk.crash_states_since s.slots.journal.disk (Leaves (seen s))
      (λ c left. now leaves h c (only_now s.slots.journal.disk c h left))

  pub calls_none : {T E : Type 0} {kinds : List CallKind} {e : E} →
      ((d : D) (c : List ℕ) → disk.honest d → disk.crash_states_since d (disk.moment d) c →
      IsOutcome (disk.unsynced d) c) → LeavesNow disk s.slots →
      CallsDisk {T = T} disk kinds (seen s) (seen s) (Leaves (seen s)) (Err e)
  calls_none {kinds = kinds} only_now leaves =
      record {
        called = makes_none kinds (disk.calls s.slots.journal.disk);
        any_moment =
            λ h. still only_now leaves h;
        exit = now leaves;
        honest = (λ h. h, λ h. h);
      }

-- what is left at the end is left at some moment
pub exit_has : {D : Type 0} (disk : Ghosts D) →
    ((d : D) (t : ℕ) (c : List ℕ) → disk.honest d → t ≤ disk.moment d → IsOutcome (disk.unsynced d) c →
    disk.crash_states_since d t c) → (old new : D) (P Q : List ℕ → Type 0) → ((c : List ℕ) → P c → Q c) →
    (disk.honest new → disk.honest old)
    → (disk.honest old → LeavesOnly disk.moment disk.crash_states_since old new P) → disk.honest new → (c : List ℕ) →
    IsOutcome (disk.unsynced new) c → Q c
exit_has disk counts_now old new P Q shows back l h c out = let left = l (back h) in
    shows c (left.each c (counts_now new (disk.moment old) c h left.later out))

-- ---- what stays of the slots, but for what is kept ready
abbrev pub SameBeside : {D : Type 0} → SlotsState D → SlotsState D → Type 0
SameBeside old new = SameSlot old.journal new.journal × (new.other ≡ old.other) × (new.generation ≡ old.generation) ×
    (new.version ≡ old.version) × (new.may_open ≡ old.may_open) × (new.step ≡ old.step) × (new.text ≡ old.text) ×
    (new.head ≡ old.head) × (new.left ≡ old.left)

pub beside_of : {D : Type 0} (old new : SlotsState D) → SameCompaction old new → SameBeside old new
beside_of old new same = (same.0, same.1, same.2, same.3, same.4, same.5, same.6, same.7, same.8)

module _ {D : Type 0} (old new : SlotsState D) (same : SamePlan old new) where
  pub beside_plan : SameBeside old new
  beside_plan = (
    (
      ap (λ (j : JournalState D). j.name) same.0,
      ap (λ (j : JournalState D). j.slot) same.0,
      ap (λ (j : JournalState D). j.front) same.0,
      ap (λ (j : JournalState D). j.disk_name) same.0,
    ),
    same.1,
    same.2,
    same.3,
    same.4,
    same.5,
    same.6,
    same.7,
    same.8,
  )

  pub room_plan : {n : ℕ} → HasRoomFor old n → HasRoomFor new n
  room_plan {n} has = record {
    short = subst (λ (j : JournalState D). n ≤ j.slot.most) (sym same.0) has.short;
    fits = subst (λ (j : JournalState D). n + 6 ≤ room j) (sym same.0) has.fits;
    early = subst (λ (x : Step). IsEarly x) (sym same.5) has.early;
    tail = λ begins. (let tail = has.tail (subst (λ (x : Step). HasBegun x) same.5 begins) in
        let text = ap length same.6 in let head = same.7 in
        let start = ap (λ (x : Slot). x.start) same.1 in let stop = ap (λ (x : Slot). x.stop) same.1 in
        omega (arith, tail, text, head, start, stop));
  }

  pub kept_plan_now : (honest : D → Type 0) (unsynced : D → PendingState) {size : ℕ} {s : State} →
      (honest old.journal.disk → IsKeptIn (unsynced old.journal.disk) old size s) → honest new.journal.disk →
      IsKeptIn (unsynced new.journal.disk) new size s
  kept_plan_now honest unsynced {size} {s} k =
      subst (λ (j : JournalState D). honest j.disk → IsKeptIn (unsynced j.disk) new size s) (sym same.0)
      (λ h. kept_still same.0 same.1 same.3 (k h))

-- ---- a store as it begins
pub sound_new : {D : Type 0} (honest : D → Type 0) (unsynced : D → PendingState) (n : Inside D) (set : State) →
    n.store.start ≡ set → n.sealed ≡ [] → n.phase ≡ Idle → n.slots.journal.phase ≡ at.Idle →
    n.slots.journal.begun ≡ false → n.slots.step ≡ Begin
    → (k : (size : ℕ) × IsPlaced size n.slots set.limit ×
    (honest n.slots.journal.disk → IsKeptIn (unsynced n.slots.journal.disk) n.slots size set)) → (own : State) →
    own ≡ set → (first : ℕ) (ahead copies : List Change) → ahead ≡ [] →
    IsSound honest unsynced n own first ahead copies
sound_new honest unsynced n set start none step phase begun rests k own own_is first ahead copies left =
    let kept_is : sealed_set (seen n) ≡ set = ap (λ (l : List Change). after_all n.store.start l) none ∙ start in
    record {
      set_is = ap (λ (l : List Change). after_all own l) left ∙ own_is ∙ sym kept_is;
      follows = subst (λ (l : List Change). Follows own l) (sym left) tt;
      going = inl (phase ∙ sym (ap journal_phase step));
      flight = inl (step, begun);
      size = k.0;
      placed = subst (λ (x : State). IsPlaced k.0 n.slots x.limit) (sym start) k.1;
      kept_is = λ h. subst (λ (t : State). IsKeptIn (unsynced n.slots.journal.disk) n.slots k.0 t) (sym kept_is) (k.2 h);
      planned = λ begins. absurd (subst (λ (x : Step). HasBegun x) rests begins);
    }

-- ---- calls that leave a compaction where it is
pub compaction_as : (a b : Compaction) → b.next ≡ a.next → b.head ≡ a.head → b.left ≡ a.left → b.tail ≡ a.tail →
    b.generation ≡ a.generation → b.version ≡ a.version → b ≡ a
compaction_as a b next head left tail generation version =
    ap (λ (x : Step). record { next = x; head = b.head; left = b.left; tail = b.tail; generation = b.generation; version = b.version }) next
    ∙ ap (λ (n : ℕ). record { next = a.next; head = n; left = b.left; tail = b.tail; generation = b.generation; version = b.version }) head
    ∙ ap (λ (n : ℕ). record { next = a.next; head = a.head; left = n; tail = b.tail; generation = b.generation; version = b.version }) left
    ∙ ap (λ (n : ℕ). record { next = a.next; head = a.head; left = a.left; tail = n; generation = b.generation; version = b.version }) tail
    ∙ ap (λ (n : ℕ). record { next = a.next; head = a.head; left = a.left; tail = a.tail; generation = n; version = b.version }) generation
    ∙ ap (λ (n : ℕ). record { next = a.next; head = a.head; left = a.left; tail = a.tail; generation = a.generation; version = n }) version

pub same_room : {D : Type 0} (old new : Inside D) → SameBeside old.slots new.slots →
    new.slots.journal.sealed ≡ old.slots.journal.sealed → SameRoom (seen old) (seen new)
same_room old new same bodies =
    let text = ap length same.6 in let head = same.7 in record {
      most = ap (λ (x : Slot). x.most) same.0.1;
      room = room_same old.slots.journal new.slots.journal same.0.1 same.0.2 bodies;
      compaction = compaction_as (seen old).compaction (seen new).compaction same.5 head same.8 (omega (arith, text, head)) same.2 same.3;
      other = same.1;
      may_open = same.4;
    }

-- the device failed in a call
pub breaks : {D : Type 0} (faults : D → ℕ) (old new : Inside D) → old.slots.journal.phase ≢ Failed →
    new.slots.journal.phase ≡ Failed → faults old.slots.journal.disk < faults new.slots.journal.disk →
    new.phase ≡ old.phase → SameBeside old.slots new.slots
    → new.slots.journal.sealed ≡ old.slots.journal.sealed → Breaks faults (seen old) (seen new)
breaks faults old new well failed cause phase same bodies = record {
  well_before = is_well old.slots.journal.phase well;
  failed = ap is_failed failed;
  cause = cause;
  phase = phase;
  room = same_room old new same bodies;
}

module _ {D : Type 0} (disk : Ghosts D) {s : Inside D} {set : State} {first : ℕ} {ahead copies : List Change}
    (i : IsSound disk.honest disk.unsynced s set first ahead copies) (t : SlotsState D) where
  pub sealed_leaves : LeavesSealed disk s.slots t → disk.honest s.slots.journal.disk →
      LeavesOnly disk.moment disk.crash_states_since s.slots.journal.disk t.journal.disk
      (λ c. StandsFor c (sealed_set (seen s)))
  sealed_leaves l h = l h i.size (sealed_set (seen s)) (i.kept_is h)

  pub next_leaves : IsFlight s first ahead copies → LeavesNext disk s.slots t → disk.honest s.slots.journal.disk →
      LeavesOnly disk.moment disk.crash_states_since s.slots.journal.disk t.journal.disk
      (λ c. StandsFor c (sealed_set (seen s)) ⊎ StandsFor c (coming (seen s)))
  next_leaves f l h = l h i.size (sealed_set (seen s)) (coming (seen s)) (i.kept_is h) (leads disk i f)

  pub kept_on : GoesOnKept disk s.slots t → (disk.honest t.journal.disk → disk.honest s.slots.journal.disk) →
      disk.honest t.journal.disk → IsKeptIn (disk.unsynced t.journal.disk) t i.size (sealed_set (seen s))
  kept_on k back h = k (back h) i.size (sealed_set (seen s)) (i.kept_is (back h))

-- of two sets that are left the second only where a gate began to open
pub open_leaves : {D : Type 0} (s : StoreState D) → s.phase ≢ Idle → s.begun ≡ true → (c : List ℕ) →
    StandsFor c (sealed_set s) ⊎ StandsFor c (coming s) → Leaves s c
open_leaves s off begun c (inl stands) = inl stands
open_leaves s off begun c (inr stands) = inr (off, begun, stands)

pub tail_stays : {D : Type 0} (old new : SlotsState D) → new.head ≡ old.head → new.text ≡ old.text → tail_of new ≡ tail_of old
tail_stays old new head text = let len = ap length text in omega (arith, head, len)

-- ---- a call behind one that kept a body ready
pub beside_then : {D : Type 0} (old mid new : SlotsState D) → SamePlan old mid → SameCompaction mid new → SameBeside old new
beside_then old mid new plan same =
    let a = beside_plan old mid plan in (
      (same.0.0 ∙ a.0.0, same.0.1 ∙ a.0.1, same.0.2 ∙ a.0.2, same.0.3 ∙ a.0.3),
      same.1 ∙ a.1,
      same.2 ∙ a.2,
      same.3 ∙
          a.3,
      same.4 ∙ a.4,
      same.5 ∙ a.5,
      same.6 ∙ a.6,
      same.7 ∙ a.7,
      same.8 ∙ a.8,
    )

-- all calls of a step that failed
pub makes_all : (kinds old new : List CallKind) → new ≡ old ++ kinds → MakesSome kinds old new
makes_all [] old new is = is ∙ append-nil old
makes_all (k ∷ kinds) old new is = inr (makes_all kinds (old ++ k ∷ []) new (is ∙ sym (append_assoc old (k ∷ []) kinds)))
