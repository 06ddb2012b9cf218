-- What each call does to the invariant, and what it leaves at each moment.
use Rattle.std.proofs.Common.{◌≡◌, ◌≢◌, ◌⊎◌, inl, inr, ⊎_elim, ℕ, ◌+◌, ◌-◌, ◌<◌, ◌≤◌, ◌^◌, List, [], ◌∷◌, ◌++◌, length}
use Rattle.std.proofs.Common.{drop, refl, sym, ◌∙◌, ap, subst, arith}
use Rattle.std.specs.Prelude.{Bool, true, false, Result, Ok, Err, OnOk, OnErr, slice_index, slice_range}
use Rattle.std.specs.Int.{w64, to_be_bytes}
use Rattle.fp_disk.specs.Crashes.{EachCrash}
use Rattle.fp_disk.specs.Outcomes.{IsOutcome, LeavesOnly, PendingState, Written, all_synced}
use Rattle.fp_disk.specs.Moments.{leaves_both, leaves_map, leaves_still}
use Rattle.fp_disk.specs.Word.{OnlyNow, word_now, word_still}
use Rattle.fp_disk.specs.declared.disk.Disk.{Ghosts}
use Rattle.fp_disk.specs.declared.disk.DiskFault.{DiskFault}
use Rattle.fp_journal.specs.Calls.{KeepsApart, KeepsAround}
use Rattle.fp_journal.specs.Holds.{Holds, IsSynced, Apart}
use Rattle.fp_journal.specs.Moments.{KeepsFirm, KeepsSynced}
use Rattle.fp_journal.specs.State.{JournalState, ClaimsAt, CrashStates, HasAmong, Outside, EndsClosed, SameSlot, has_begun}
use Rattle.fp_journal.specs.declared.slot.Slot.{Slot}
use Rattle.fp_journal.specs.declared.journal.Phase.{Phase}
use Rattle.fp_journal.specs.declared.journal.Phase.TheVariants.{Idle, Failed}
use Rattle.fp_journal.proofs.Holds.{byte_held, holds_written, firm_outcome, firm_settled}
use Rattle.fp_journal.proofs.Stays.{by_phase}
use Rattle.fp_gate.specs.Gates as gates
use Rattle.fp_gate.specs.declared.gate.TheConstants.{OPEN}
use Rattle.fp_slots.specs.Calls.{KeepsSlots}
use Rattle.fp_slots.specs.Rules.{Rules}
use Rattle.fp_slots.specs.declared.held.Held.{Held}
use Rattle.fp_slots.specs.declared.held.Held.TheVariants as held
use Rattle.fp_slots.specs.declared.places.TheConstants.{VERSION}
use Rattle.fp_slots.specs.declared.slots.Step.{Step}
use Rattle.fp_slots.specs.declared.slots.Step.TheVariants.{Begin, Close, SyncClose, Part, Tail, SyncBody, Open, SyncOpen}
use Rattle.fp_slots.specs.State.{SlotsState, Keeps, KeepsEither, Leaves, IsShut, IsOlder, IsBeaten, IsCopied, IsPlan}
use Rattle.fp_slots.specs.State.{IsPart, OutsideBoth, sealed_text, IsPlanned, IsBeside, IsFrontOf, IsStill, IsEarly}
use Rattle.fp_slots.specs.State.{HasBegun, IsGrowing, IsHeld, IsKept, step_of}
use Rattle.fp_slots.proofs.Exits.{answers_still, keeps_err, keeps_ok}
use Rattle.fp_slots.proofs.Ruling.{claims_front, front_generation, rules_shut, rules_older}
use Rattle.fp_slots.proofs.Beside.{copied_none, copied_more, copied_all, plan_long, plan_within, either_tells, opened_ends}

-- ---- a fact of each step, of each that is early, and of each while the plan can grow
pub by_step : (P : Step → Type 0) → P Begin → P Close → P SyncClose → P Part → P Tail → P SyncBody → P Open → P SyncOpen → (p : Step) → P p
by_step P a b c d e f g h Begin = a
by_step P a b c d e f g h Close = b
by_step P a b c d e f g h SyncClose = c
by_step P a b c d e f g h Part = d
by_step P a b c d e f g h Tail = e
by_step P a b c d e f g h SyncBody = f
by_step P a b c d e f g h Open = g
by_step P a b c d e f g h SyncOpen = h

pub by_early : (P : Step → Type 0) → P Begin → P Close → P SyncClose → P Part → P Tail → (p : Step) → IsEarly p → P p
by_early P a b c d e = by_step (λ p. IsEarly p → P p) (λ _. a) (λ _. b) (λ _. c) (λ _. d) (λ _. e) (λ no. absurd no)
    (λ no. absurd no) (λ no. absurd no)

pub by_growing : (P : Step → Type 0) → P Close → P SyncClose → P Part → P Tail → (p : Step) → IsGrowing p → P p
by_growing P b c d e p g = by_early (λ q. HasBegun q → P q) (λ no. absurd no) (λ _. b) (λ _. c) (λ _. d) (λ _. e) p g.1 g.0

-- ---- where a call failed
-- a claim at a phase that says of the gate what `begun` does is one of a failed journal
module _ {D : Type 0} (s : SlotsState D) (j : JournalState D) (same : SameSlot s.journal j)
    (bodies : (j.sealed ≡ s.journal.sealed) × (j.staged ≡ s.journal.staged))
    (told : has_begun s.journal.phase s.journal.begun ≡ s.journal.begun) (begun : j.begun ≡ s.journal.begun)
    (broken : j.phase ≡ Failed) (c : List ℕ) where
  keeps_broken : Keeps s c → Keeps (record s { journal = j }) c
  keeps_broken p = rw (same.1, same.2, bodies.0, bodies.1, broken) (
    p.0,
    subst (λ (x : Bool). HasAmong x s.journal.slot s.journal.front s.journal.sealed s.journal.staged c)
        (told ∙ sym begun) p.1,
  )

  either_broken : KeepsEither s c → KeepsEither (record s { journal = j }) c
  either_broken p = rw (same.1, same.2, bodies.0) p

  leaves_broken : (step : Step) → Leaves step s c → Leaves step (record s { journal = j }) c
  leaves_broken = by_step (λ q. Leaves q s c → Leaves q (record s { journal = j }) c) keeps_broken keeps_broken
      keeps_broken keeps_broken keeps_broken keeps_broken either_broken either_broken

pub same_slot : {D : Type 0} (j : JournalState D) → SameSlot j j
same_slot j = (refl, refl, refl, refl)

-- ---- the other slot's gate
pub shut_gate : (u : PendingState) (slot : ℕ) → IsShut slot u → gates.IsShut u slot
shut_gate u slot x = λ c o. let h = firm_outcome u slot (x.gate ∷ []) c x.firm o in let long = h.long in
    (omega (arith, long), λ e. x.shut (sym (byte_held c slot x.gate [] h) ∙ e))

pub firm_open : (u : PendingState) (slot : ℕ) → IsSynced u slot (OPEN ∷ []) → gates.IsOpen u slot
firm_open u slot x = λ c o. let h = firm_outcome u slot (OPEN ∷ []) c x o in let long = h.long in
    (omega (arith, long), byte_held c slot OPEN [] h)

pub firm_stays : (u : PendingState) (b : List ℕ) (at to : ℕ) (text : List ℕ) → IsSynced u at text → IsOutcome u b →
    to ≡ at + length text → gates.StaysAsRead u b at to
firm_stays u b at to text f p is = λ c o k low high.
    let h = firm_outcome u at text c f o in let q = firm_outcome u at text b f p in let long = h.long in
    let there : at + (k - at) ≡ k = omega (arith, low) in
    let lt : k - at < length text = omega (arith, low, high, is) in (
      omega (arith, long, high, is),
      ap (λ (n : ℕ). slice_index c n) (sym there) ∙ h.same (k - at) lt ∙
          sym (q.same (k - at) lt) ∙ ap (λ (n : ℕ). slice_index b n) there,
    )

-- ---- what is kept for the next call
pub held_on : {D : Type 0} (disk : Ghosts D) (old new : JournalState D) (slot : ℕ) (held : Held D) →
    (step_of held ≡ Open → ⊥) → IsHeld disk.honest disk.moment old slot held →
    IsHeld disk.honest disk.moment new slot held
held_on disk old new slot held.Begin never is = tt
held_on disk old new slot held.Close never is = tt
held_on disk old new slot held.SyncClose never is = tt
held_on disk old new slot held.Part never is = tt
held_on disk old new slot held.Tail never is = tt
held_on disk old new slot held.SyncBody never is = tt
held_on disk old new slot (held.Open synced) never is = absurd (never refl)
held_on disk old new slot held.Opening never is = absurd (never refl)
held_on disk old new slot (held.SyncOpen gate) never is = is

pub early_not_open : (p : Step) → IsEarly p → p ≡ Open → ⊥
early_not_open = by_early (λ p. p ≡ Open → ⊥) (λ is. absurd (cc is)) (λ is. absurd (cc is)) (λ is. absurd (cc is))
    (λ is. absurd (cc is)) (λ is. absurd (cc is))

-- ---- what a crash leaves now
phase_cases : (p : Phase) → (p ≡ Failed) ⊎ (p ≢ Failed)
phase_cases = by_phase (λ p. (p ≡ Failed) ⊎ (p ≢ Failed)) (inr (λ e. absurd (cc e))) (inr (λ e. absurd (cc e)))
    (inr (λ e. absurd (cc e))) (inr (λ e. absurd (cc e))) (inl refl)

module _ {D : Type 0} (s : SlotsState D) (front : IsFrontOf s.version s.generation s.journal.front)
    (small : s.generation < 2 ^ 64) (c : List ℕ) (says : CrashStates s.journal c) (u : PendingState)
    (o : IsOutcome u c) where
  there : Holds c s.journal.slot.start s.journal.front
  there = claims_front s.journal.phase s.journal.begun s.journal.slot s.journal.front s.journal.sealed s.journal.staged c says

  shut_now : IsShut s.other.start u → Keeps s c
  shut_now x = (
    rules_shut s.journal.slot.start s.generation s.journal.front c front there s.other.start x.gate
        x.shut (firm_outcome u s.other.start (x.gate ∷ []) c x.firm o),
    says,
  )

  older_now : IsOlder s.other.start s.generation u → Keeps s c
  older_now x = (
    rules_older s.journal.slot.start s.generation s.journal.front c front there s.other.start x.its
        small x.small x.less (firm_outcome u (s.other.start + 1) (to_be_bytes w64 x.its) c x.firm o),
    says,
  )

  beaten_now : (may_open : Bool) → IsBeaten may_open s.other.start s.generation u → Keeps s c
  beaten_now true x = older_now x
  beaten_now false x = shut_now x

  either_now : (planned : List ℕ) → IsPlan s.other s.generation s.text planned → s.journal.phase ≡ Idle →
      IsSynced u (s.other.start + 1) (drop 1 planned) → KeepsEither s c
  either_now planned plan idle x =
      either_tells s.other s.generation s.text planned plan s.journal.slot s.journal.front (sealed_text s.journal) c
      front small there
      (subst (λ (q : Phase). ClaimsAt q s.journal.begun s.journal.slot s.journal.front s.journal.sealed
      s.journal.staged c) idle says) (firm_outcome u (s.other.start + 1) (drop 1 planned) c x o)

  module _ (may_open : Bool) (planned : List ℕ) (done : ℕ) (b : List ℕ) (alive : s.journal.phase ≢ Failed) where
    idle_now : (s.journal.phase ≡ Idle) ⊎ (s.journal.phase ≡ Failed) → s.journal.phase ≡ Idle
    idle_now x = ⊎_elim (λ idle. idle) (λ no. absurd (alive no)) x

    leaves_now : (p : Step) → IsPlanned p s.other s.generation s.text planned done → IsStill p s.journal.phase →
        IsBeside p s.other.start s.generation may_open planned done u b → Leaves p s c
    leaves_now = by_step (λ p. IsPlanned p s.other s.generation s.text planned done → IsStill p s.journal.phase →
        IsBeside p s.other.start s.generation may_open planned done u b → Leaves p s c)
        (λ _ _ x. beaten_now may_open x) (λ _ _ x. beaten_now may_open x)
        (λ _ _ x. ⊎_elim shut_now (λ y. older_now y.0) x) (λ _ _ x. shut_now x.0) (λ _ _ x. shut_now x.0)
        (λ _ _ x. shut_now x.0)
        (λ plan still x. either_now planned plan (idle_now still) x.1) (λ plan still x. either_now planned plan (idle_now still) x.0)

abbrev pub Kept : {D : Type 0} → Ghosts D → SlotsState D → Bool → List ℕ → ℕ → Type 0
Kept disk s may_open planned done = IsKept disk.honest disk.bytes disk.unsynced s may_open planned done

pub kept_now : {D : Type 0} (disk : Ghosts D) {s : SlotsState D} {may_open : Bool} {planned : List ℕ} {done : ℕ} →
    Kept disk s may_open planned done → EachCrash disk s.journal.disk (CrashStates s.journal) →
    EachCrash disk s.journal.disk (Leaves s.step s)
kept_now disk {s} {may_open} {planned} {done} kept says h c o = ⊎_elim (λ failed. kept.failed h failed c o)
    (λ alive. leaves_now s kept.front kept.small c (says h c o) (disk.unsynced s.journal.disk) o may_open planned
    done (disk.bytes s.journal.disk) alive s.step kept.plan kept.still (kept.live h alive))
    (phase_cases s.journal.phase)

-- ---- in front of a call
-- this step is next, and no call failed
pub record AtStep {D : Type 0} (disk : Ghosts D) (s : SlotsState D) (may_open : Bool) (planned : List ℕ) (done : ℕ)
    (p : Step) : Type 0 where
  pub kept : IsKept disk.honest disk.bytes disk.unsynced s may_open planned done
  pub alive : s.journal.phase ≢ Failed
  pub is : s.step ≡ p
  pub counts_now : (d : D) (t : ℕ) (c : List ℕ) → disk.honest d → t ≤ disk.moment d → IsOutcome (disk.unsynced d) c →
      disk.crash_states_since d t c
  pub present : (d : D) → disk.honest d → IsOutcome (disk.unsynced d) (disk.bytes d)

-- the same where a batch may be on its way, which is at this phase
pub record AtEarly {D : Type 0} (disk : Ghosts D) (s : SlotsState D) (may_open : Bool) (planned : List ℕ) (done : ℕ)
    (q : Phase) : Type 0 where
  pub at : AtStep disk s may_open planned done s.step
  pub early : IsEarly s.step
  pub phase : s.journal.phase ≡ q

module _ {D : Type 0} (disk : Ghosts D)
    (counts_now : (d : D) (t : ℕ) (c : List ℕ) → disk.honest d → t ≤ disk.moment d → IsOutcome (disk.unsynced d) c →
    disk.crash_states_since d t c) (present : (d : D) → disk.honest d → IsOutcome (disk.unsynced d) (disk.bytes d))
    {s v : SlotsState D} {may_open : Bool} {planned : List ℕ} {done : ℕ} (seen : s ≡ v)
    (kept : IsKept disk.honest disk.bytes disk.unsynced s may_open planned done) where
  pub at_step : {p : Step} → v.journal.phase ≢ Failed → v.step ≡ p → AtStep disk s may_open planned done p
  at_step alive is = record {
    kept = kept;
    alive =
        λ e. alive (sym (ap (λ (k : SlotsState D). k.journal.phase) seen) ∙ e);
    is =
        ap (λ (k : SlotsState D). k.step) seen ∙ is;
    counts_now = counts_now;
    present = present;
  }

  pub at_early : {q : Phase} → q ≢ Failed → IsEarly v.step → v.journal.phase ≡ q → AtEarly disk s may_open planned done q
  at_early fine early is = record {
    at = at_step (λ e. fine (sym is ∙ e)) (sym (ap (λ (k : SlotsState D). k.step) seen));
    early =
        subst (λ (k : SlotsState D). IsEarly k.step) (sym seen) early;
    phase =
        ap (λ (k : SlotsState D). k.journal.phase) seen ∙ is;
  }

module _ {D : Type 0} {disk : Ghosts D} {s : SlotsState D} {may_open : Bool} {planned : List ℕ} {done : ℕ} {p : Step}
    (a : AtStep disk s may_open planned done p) where
  pub beside_is : disk.honest s.journal.disk →
      IsBeside p s.other.start s.generation may_open planned done (disk.unsynced s.journal.disk)
      (disk.bytes s.journal.disk)
  beside_is h = subst (λ (q : Step). IsBeside q s.other.start s.generation may_open planned done
      (disk.unsynced s.journal.disk) (disk.bytes s.journal.disk)) a.is (a.kept.live h a.alive)

  pub plan_is : IsPlanned p s.other s.generation s.text planned done
  plan_is = subst (λ (q : Step). IsPlanned q s.other s.generation s.text planned done) a.is a.kept.plan

  -- no batch is on its way
  idle_is : (IsStill p s.journal.phase → (s.journal.phase ≡ Idle) ⊎ (s.journal.phase ≡ Failed)) → s.journal.phase ≡ Idle
  idle_is from = ⊎_elim (λ idle. idle) (λ no. absurd (a.alive no))
      (from (subst (λ (q : Step). IsStill q s.journal.phase) a.is a.kept.still))

  pub not_open : (p ≡ Open → ⊥) → s.step ≡ Open → ⊥
  not_open never is = never (sym a.is ∙ is)

  pub front_of : (c : List ℕ) → CrashStates s.journal c → Holds c s.journal.slot.start s.journal.front
  front_of c x = claims_front s.journal.phase s.journal.begun s.journal.slot s.journal.front s.journal.sealed s.journal.staged c x

  pub within_other : (from n : ℕ) → s.other.start ≤ from → from + n ≤ s.other.stop → Outside s.journal.slot from n
  within_other from n low high =
      ⊎_elim (λ behind. inr (omega (arith, behind, low))) (λ before. inl (omega (arith, before, high))) a.kept.apart

  pub gate_outside : Outside s.journal.slot s.other.start 1
  gate_outside = let w = a.kept.wide in within_other s.other.start 1 (omega arith) (omega (arith, w))

  module _ (j : JournalState D) (same : SameSlot s.journal j) where
    abbrev pub Leave : (List ℕ → Type 0) → Type 0
    Leave P = LeavesOnly disk.moment disk.crash_states_since s.journal.disk j.disk P

    abbrev pub Frame : (ℕ → ℕ → Type 0) → Type 0
    Frame Out = KeepsFirm disk.moment disk.crash_states_since disk.unsynced s.journal.disk j.disk Out

    -- the invariant over what the journal became
    pub moved : has_begun j.phase j.begun ≡ j.begun → (step : Step) (to left : ℕ) → IsStill step j.phase →
        IsPlanned step s.other s.generation s.text planned to
        → (disk.honest j.disk → j.phase ≢ Failed →
        IsBeside step s.other.start s.generation may_open planned to (disk.unsynced j.disk) (disk.bytes j.disk))
        → (disk.honest j.disk → j.phase ≡ Failed → (c : List ℕ) → IsOutcome (disk.unsynced j.disk) c →
        Leaves step (record s { journal = j; step = step; left = left }) c)
        → Kept disk (record s { journal = j; step = step; left = left }) may_open planned to
    moved told step to left still plan live failed = record {
      apart = rw same.1 a.kept.apart;
      wide = a.kept.wide;
      wide_too = rw same.1 a.kept.wide_too;
      front = rw same.2 a.kept.front;
      known = a.kept.known;
      small = a.kept.small;
      told = told;
      plan = plan;
      still = still;
      live = live;
      failed = failed;
    }

    -- what is firm stays so where the call doesn't reach it
    module _ (Out : ℕ → ℕ → Type 0) (frame : Frame Out) where
      pub shut_on : Out s.other.start 1 → IsShut s.other.start (disk.unsynced s.journal.disk) → IsShut s.other.start (disk.unsynced j.disk)
      shut_on out x = record { gate = x.gate; shut = x.shut; firm = (frame s.other.start (x.gate ∷ []) out x.firm).0 }

      pub older_on : Out (s.other.start + 1) 8 → IsOlder s.other.start s.generation (disk.unsynced s.journal.disk) →
          IsOlder s.other.start s.generation (disk.unsynced j.disk)
      older_on out x = record {
        its = x.its;
        small = x.small;
        less = x.less;
        firm =
            (frame (s.other.start + 1) (to_be_bytes w64 x.its) out x.firm).0;
      }

      -- and so the journal's slot rules at each moment, whatever else is left of it
      module _ (P : List ℕ → Type 0) (there : (c : List ℕ) → P c → Holds c s.journal.slot.start s.journal.front) (leave : Leave P) where
        pub shut_rules : Out s.other.start 1 → IsShut s.other.start (disk.unsynced s.journal.disk) →
            Leave (λ c. Rules s.journal.slot.start s.other.start c × P c)
        shut_rules out x =
            let Gate : List ℕ → Type 0 = λ c. Holds c s.other.start (x.gate ∷ []) in
            leaves_map disk.moment disk.crash_states_since s.journal.disk j.disk (λ c. P c × Gate c)
            (λ c. Rules s.journal.slot.start s.other.start c × P c)
            (λ c q. (
              rules_shut s.journal.slot.start s.generation s.journal.front c a.kept.front (there c q.0)
                  s.other.start x.gate x.shut q.1,
              q.0,
            ))
            (leaves_both disk.moment disk.crash_states_since s.journal.disk j.disk P Gate leave
            (frame s.other.start (x.gate ∷ []) out x.firm).1)

        pub older_rules : Out (s.other.start + 1) 8 →
            IsOlder s.other.start s.generation (disk.unsynced s.journal.disk) →
            Leave (λ c. Rules s.journal.slot.start s.other.start c × P c)
        older_rules out x =
            let Text : List ℕ → Type 0 = λ c. Holds c (s.other.start + 1) (to_be_bytes w64 x.its) in
            leaves_map disk.moment disk.crash_states_since s.journal.disk j.disk (λ c. P c × Text c)
            (λ c. Rules s.journal.slot.start s.other.start c × P c)
            (λ c q. (
              rules_older s.journal.slot.start s.generation s.journal.front c a.kept.front (there c q.0)
                  s.other.start x.its a.kept.small x.small x.less q.1,
              q.0,
            ))
            (leaves_both disk.moment disk.crash_states_since s.journal.disk j.disk P Text leave
            (frame (s.other.start + 1) (to_be_bytes w64 x.its) out x.firm).1)

-- ---- a call beside a compaction
-- what the journal's call keeps of it, and how it ended
pub record Called {D S : Type 0} (disk : Ghosts D) (s : SlotsState D) (may_open : Bool) (planned : List ℕ) (done : ℕ)
    (p : Step) (j : JournalState D) (Out : ℕ → ℕ → Type 0) (result : Result S DiskFault) : Type 0 where
  pub at : AtStep disk s may_open planned done p
  pub kept : KeepsAround disk s.journal j (CrashStates s.journal) Out result
  pub bodies : (j.sealed ≡ s.journal.sealed) × (j.staged ≡ s.journal.staged)
  pub phase : OnOk result (j.phase ≡ s.journal.phase) × OnErr result (j.phase ≡ Failed)
  pub begun : j.begun ≡ s.journal.begun

-- what a crash leaves at each moment of it, and that text outside both slots stays firm
abbrev pub Moves : {D S : Type 0} → Ghosts D → SlotsState D → JournalState D → (List ℕ → Type 0) → Result S DiskFault → Type 0
Moves disk s j P r = KeepsApart disk s.journal.disk j.disk P (OutsideBoth s) r

abbrev pub Always : ℕ → ℕ → Type 0
Always at n = Unit {0}

-- where no call is made
pub still : {D : Type 0} {disk : Ghosts D} {s : SlotsState D} {may_open : Bool} {planned : List ℕ} {done : ℕ}
    {p : Step} → AtStep disk s may_open planned done p → OnlyNow disk →
    EachCrash disk s.journal.disk (CrashStates s.journal) →
    Called {S = ℕ} disk s may_open planned done p s.journal Always (Ok 0)
still {disk = disk} {s = s} at only_now now = record {
  at = at;
  kept = record {
    same = same_slot s.journal;
    call = record {
      word = word_still disk only_now now;
      apart = λ h at t out firm. (
        firm,
        leaves_still disk.moment disk.crash_states_since s.journal.disk (λ c. Holds c at t)
            (λ c left. firm_outcome (disk.unsynced s.journal.disk) at t c firm (only_now s.journal.disk c h left)),
      );
      cause = answers_still;
    };
    beside = λ h at t out there. there;
  };
  bodies = (refl, refl);
  phase = (refl, tt);
  begun = refl;
}

module _ {D S : Type 0} {disk : Ghosts D} {s : SlotsState D} {may_open : Bool} {planned : List ℕ} {done : ℕ} {p : Step} where
  pub called : AtStep disk s may_open planned done p →
      {j : JournalState D} {Out : ℕ → ℕ → Type 0} {r : Result S DiskFault} →
      KeepsAround disk s.journal j (CrashStates s.journal) Out r → (j.sealed ≡ s.journal.sealed) ×
      (j.staged ≡ s.journal.staged)
      → OnOk r (j.phase ≡ s.journal.phase) × OnErr r (j.phase ≡ Failed) → j.begun ≡ s.journal.begun →
      Called disk s may_open planned done p j Out r
  called at kept bodies phase begun = record { at = at; kept = kept; bodies = bodies; phase = phase; begun = begun }

  -- one that reaches the gate at this place alone
  pub opening_call : AtStep disk s may_open planned done p → (at : ℕ) → at ≡ s.other.start →
      {j : JournalState D} {r : Result S DiskFault} →
      KeepsAround disk s.journal j (CrashStates s.journal) (Apart at 1) r → (j.sealed ≡ s.journal.sealed) ×
      (j.staged ≡ s.journal.staged)
      → OnOk r (j.phase ≡ s.journal.phase) × OnErr r (j.phase ≡ Failed) → j.begun ≡ s.journal.begun →
      Called disk s may_open planned done p j (Apart s.other.start 1) r
  opening_call a at is {j} {r} kept bodies phase begun =
      called a (subst (λ (k : ℕ). KeepsAround disk s.journal j (CrashStates s.journal) (Apart k 1) r) is kept) bodies
      phase begun

  module _ {j : JournalState D} {Out : ℕ → ℕ → Type 0} where
    -- one that failed
    module _ {e : DiskFault} (t : Called {S = S} disk s may_open planned done p j Out (Err e)) where
      pub broke : Moves {S = S} disk s j (Leaves p s) (Err e) → Kept disk (record s { journal = j }) may_open planned done
      broke m = moved t.at j t.kept.same (let failed = t.phase.1 in rw failed refl) s.step done s.left
          (by_step (λ q. IsStill q j.phase) tt tt tt tt tt (inr t.phase.1) (inr t.phase.1) (inr t.phase.1) s.step)
          t.at.kept.plan (λ h no. absurd (no t.phase.1))
          (λ h no c o. subst (λ (q : Step). Leaves q (record s { journal = j }) c) (sym t.at.is)
          (leaves_broken s j t.kept.same t.bodies t.at.kept.told t.begun t.phase.1 c p
          (word_now disk t.at.counts_now m.word h c o)))

      pub broke_at : Moves {S = S} disk s j (Leaves p s) (Err e) → Kept disk (record s { journal = j; step = p }) may_open planned done
      broke_at m = subst (λ (q : Step). Kept disk (record s { journal = j; step = q }) may_open planned done) t.at.is (broke m)

      pub kept_err : {T : Type 0} {f : DiskFault} {P : List ℕ → Type 0} {step : Step} →
          Moves {S = S} disk s j P (Err e) →
          KeepsSlots {T = T} disk s (record s { journal = j; step = step }) P (Err f)
      kept_err m = record {
        same = (
          t.kept.same,
          t.bodies.0,
          t.bodies.1,
          refl,
          refl,
          refl,
          refl,
          refl,
          refl,
          refl,
          t.begun,
        );
        phase = (tt, t.phase.1);
        call = keeps_err m;
      }

    -- one that succeeded
    module _ {x : S} (t : Called {S = S} disk s may_open planned done p j Out (Ok x)) where
      went : (step : Step) (to left : ℕ) → (j.phase ≡ s.journal.phase → IsStill step j.phase) →
          IsPlanned step s.other s.generation s.text planned to
          → (disk.honest j.disk → IsBeside step s.other.start s.generation may_open planned to (disk.unsynced j.disk)
          (disk.bytes j.disk)) → Kept disk (record s { journal = j; step = step; left = left }) may_open planned
          to
      went step to left fits plan beside =
          moved t.at j t.kept.same (let ok = t.phase.0 in let begun = t.begun in rw (ok, begun) t.at.kept.told) step
          to left (fits t.phase.0) plan (λ h _. beside h) (λ h is. absurd (t.at.alive (sym t.phase.0 ∙ is)))

      pub kept_ok : {T : Type 0} {y : T} {P : List ℕ → Type 0} {step : Step} {left : ℕ} →
          Moves {S = S} disk s j P (Ok x) →
          KeepsSlots {T = T} disk s (record s { journal = j; step = step; left = left }) P (Ok y)
      kept_ok m = record {
        same = (
          t.kept.same,
          t.bodies.0,
          t.bodies.1,
          refl,
          refl,
          refl,
          refl,
          refl,
          refl,
          refl,
          t.begun,
        );
        phase = (t.phase.0, tt);
        call = keeps_ok m;
      }

-- ---- what each step leaves at each moment
module _ {D S : Type 0} {disk : Ghosts D} {s : SlotsState D} {may_open : Bool} {planned : List ℕ} {done : ℕ}
    {j : JournalState D} {r : Result S DiskFault} where
  -- the other's gate is closed all the time, or its generation stands there
  module _ {p : Step} {Out : ℕ → ℕ → Type 0} (t : Called disk s may_open planned done p j Out r) where
    shut_leaves : Out s.other.start 1 →
        (disk.honest s.journal.disk → IsShut s.other.start (disk.unsynced s.journal.disk)) →
        disk.honest s.journal.disk → Leave t.at j t.kept.same (Keeps s)
    shut_leaves out x h = shut_rules t.at j t.kept.same Out (t.kept.call.apart h) (CrashStates s.journal)
        (front_of t.at) (t.kept.call.word.any_moment h) out (x h)

    older_leaves : Out (s.other.start + 1) 8 →
        (disk.honest s.journal.disk → IsOlder s.other.start s.generation (disk.unsynced s.journal.disk)) →
        disk.honest s.journal.disk → Leave t.at j t.kept.same (Keeps s)
    older_leaves out x h = older_rules t.at j t.kept.same Out (t.kept.call.apart h) (CrashStates s.journal)
        (front_of t.at) (t.kept.call.word.any_moment h) out (x h)

    -- all behind the gate stands there all the time, and no batch is on its way
    open_leaves : s.journal.phase ≡ Idle → IsPlan s.other s.generation s.text planned →
        Out (s.other.start + 1) (length (drop 1 planned)) →
        (disk.honest s.journal.disk → IsSynced (disk.unsynced s.journal.disk) (s.other.start + 1) (drop 1 planned)) →
        disk.honest s.journal.disk → Leave t.at j t.kept.same (KeepsEither s)
    open_leaves idle plan out x h =
        let Text : List ℕ → Type 0 = λ c. Holds c (s.other.start + 1) (drop 1 planned) in
        let f = t.kept.call.apart h (s.other.start + 1) (drop 1 planned) out (x h) in
        leaves_map disk.moment disk.crash_states_since s.journal.disk j.disk (λ c. CrashStates s.journal c × Text c) (KeepsEither s)
        (λ c q. either_tells s.other s.generation s.text planned plan s.journal.slot s.journal.front
        (sealed_text s.journal) c t.at.kept.front t.at.kept.small (front_of t.at c q.0)
        (subst (λ (w : Phase). ClaimsAt w s.journal.begun s.journal.slot s.journal.front s.journal.sealed s.journal.staged c) idle q.0) q.1)
        (leaves_both disk.moment disk.crash_states_since s.journal.disk j.disk (CrashStates s.journal) Text
        (t.kept.call.word.any_moment h) f.1)

    -- the word and the cause are those of the journal's call
    moves : {P : List ℕ → Type 0} → (disk.honest s.journal.disk → Leave t.at j t.kept.same P) →
        KeepsSynced disk s.journal.disk j.disk (OutsideBoth s) → Moves disk s j P r
    moves leaves frame = record {
      word = record { any_moment = leaves; honest = t.kept.call.word.honest };
      apart =
          frame;
      cause = t.kept.call.cause;
    }

  -- a sync
  sync_frame : {p : Step} → Called disk s may_open planned done p j Always r → KeepsSynced disk s.journal.disk j.disk (OutsideBoth s)
  sync_frame t h at text out firm = t.kept.call.apart h at text tt firm

  pub shutting : Called disk s may_open planned done SyncClose j Always r → Moves disk s j (Keeps s) r
  shutting t = moves t (λ h. ⊎_elim (λ shut. shut_leaves t tt (λ _. shut) h)
      (λ older. older_leaves t tt (λ _. older.0) h) (beside_is t.at h)) (sync_frame t)

  pub filled : Called disk s may_open planned done SyncBody j Always r → Moves disk s j (Keeps s) r
  filled t = moves t (shut_leaves t tt (λ h. (beside_is t.at h).0)) (sync_frame t)

  pub switching : Called disk s may_open planned done SyncOpen j Always r → Moves disk s j (KeepsEither s) r
  switching t = moves t (open_leaves t (idle_is t.at (λ x. x)) (plan_is t.at) tt (λ h. (beside_is t.at h).0)) (sync_frame t)

  -- the write of the gate, closed or open
  gate_frame : {p : Step} → Called disk s may_open planned done p j (Apart s.other.start 1) r →
      KeepsSynced disk s.journal.disk j.disk (OutsideBoth s)
  gate_frame t h at text out firm = let w = t.at.kept.wide in
      t.kept.call.apart h at text (⊎_elim (λ before. inr (omega (arith, before)))
      (λ behind. inl (omega (arith, behind, w))) out.1) firm

  older : {Out : ℕ → ℕ → Type 0} → Called disk s may_open planned done Close j Out r → may_open ≡ true →
      disk.honest s.journal.disk → IsOlder s.other.start s.generation (disk.unsynced s.journal.disk)
  older t may h = subst (λ (b : Bool). IsBeaten b s.other.start s.generation (disk.unsynced s.journal.disk)) may (beside_is t.at h)

  pub closing : Called disk s may_open planned done Close j (Apart s.other.start 1) r → may_open ≡ true → Moves disk s j (Keeps s) r
  closing t may = moves t (older_leaves t (inl (omega arith)) (older t may)) (gate_frame t)

  pub opening : Called disk s may_open planned done Open j (Apart s.other.start 1) r → Moves disk s j (KeepsEither s) r
  opening t = moves t (open_leaves t (idle_is t.at (λ x. x)) (plan_is t.at) (inl (omega arith)) (λ h. (beside_is t.at h).1)) (gate_frame t)

  -- a gate that is closed already, where nothing is done
  still_shut : {Out : ℕ → ℕ → Type 0} → Called disk s may_open planned done Close j Out r → may_open ≡ false →
      disk.honest s.journal.disk → IsShut s.other.start (disk.unsynced s.journal.disk)
  still_shut t not h = subst (λ (b : Bool). IsBeaten b s.other.start s.generation (disk.unsynced s.journal.disk)) not (beside_is t.at h)

  pub resting : Called disk s may_open planned done Close j Always r → may_open ≡ false → Moves disk s j (Keeps s) r
  resting t not = moves t (shut_leaves t tt (still_shut t not)) (sync_frame t)

  -- ---- a part, or the last one
  module _ {p : Step} (n : ℕ) (t : Called disk s may_open planned done p j (Apart (s.other.start + done) n) r)
      (plan : IsPlan s.other s.generation s.text planned × IsPart planned done)
      (now : disk.honest s.journal.disk → IsShut s.other.start (disk.unsynced s.journal.disk) ×
      IsCopied s.other.start planned done (disk.bytes s.journal.disk)) where
    apart_gate : Apart (s.other.start + done) n s.other.start 1
    apart_gate = let some = plan.1.some in inr (omega (arith, some))

    part : n + done ≤ length planned → Moves disk s j (Keeps s) r
    part within = let w = plan_within s.other s.generation s.text planned plan.0 s.other.start refl in
        moves t (shut_leaves t apart_gate (λ h. (now h).0))
        (λ h at text out firm. t.kept.call.apart h at text
        (⊎_elim (λ before. inr (omega (arith, before))) (λ behind. inl (omega (arith, behind, within, w))) out.1)
        firm)

    part_done : (to : ℕ) → done ≤ to → to ≤ length planned →
        (disk.honest s.journal.disk → Written (disk.bytes s.journal.disk) (s.other.start + done)
        (slice_range planned done to) (disk.bytes j.disk)) → disk.honest j.disk →
        IsShut s.other.start (disk.unsynced j.disk) × IsCopied s.other.start planned to (disk.bytes j.disk)
    part_done to le within written h1 = let h = t.kept.call.word.honest.1 h1 in (
      shut_on t.at j t.kept.same (Apart (s.other.start + done) n) (t.kept.call.apart h) apart_gate (now h).0,
      copied_more s.other.start planned (disk.bytes s.journal.disk) (disk.bytes j.disk) done to le within (now h).1
          (written h),
    )

  pub next_part : (n : ℕ) → Called disk s may_open planned done Part j (Apart (s.other.start + done) n) r →
      n + done ≤ length planned → Moves disk s j (Keeps s) r
  next_part n t = part n t (plan_is t.at) (beside_is t.at)

  pub tail : (n : ℕ) → Called disk s may_open planned done Tail j (Apart (s.other.start + done) n) r →
      n + done ≤ length planned → Moves disk s j (Keeps s) r
  tail n t = part n t (plan_is t.at) (beside_is t.at)

pub part_outside : {D : Type 0} {disk : Ghosts D} {s : SlotsState D} {may_open : Bool} {planned : List ℕ} {done : ℕ}
    {p : Step} → AtStep disk s may_open planned done p → IsPlan s.other s.generation s.text planned → (n : ℕ) →
    n + done ≤ length planned → Outside s.journal.slot (s.other.start + done) n
part_outside {s = s} {planned = planned} {done = done} a plan n within = let w =
    plan_within s.other s.generation s.text planned plan s.other.start refl in
    within_other a (s.other.start + done) n (omega arith) (omega (arith, w, within))

-- ---- the invariant after each step
module _ {D S : Type 0} {disk : Ghosts D} {s : SlotsState D} {may_open : Bool} {planned : List ℕ} {done : ℕ}
    {j : JournalState D} {x : S} where
  pub closed : (t : Called disk s may_open planned done Close j (Apart s.other.start 1) (Ok x)) → may_open ≡ true →
      (disk.honest s.journal.disk → Written (disk.bytes s.journal.disk) s.other.start (0 ∷ []) (disk.bytes j.disk)) →
      Kept disk (record s { journal = j; step = SyncClose }) may_open planned done
  closed t may written = went t SyncClose done s.left (λ _. tt) (plan_is t.at) (λ h1. let h = t.kept.call.word.honest.1 h1 in
      inr (
        older_on t.at j t.kept.same (Apart s.other.start 1) (t.kept.call.apart h) (inl (omega arith))
            (older t may h),
        holds_written (disk.bytes s.journal.disk) (0 ∷ []) (disk.bytes j.disk) s.other.start
            (written h),
      ))

  pub rested : (t : Called disk s may_open planned done Close j Always (Ok x)) → may_open ≡ false →
      Kept disk (record s { journal = j; step = SyncClose }) may_open planned done
  rested t not = went t SyncClose done s.left (λ _. tt) (plan_is t.at) (λ h1. let h = t.kept.call.word.honest.1 h1 in
      inl (shut_on t.at j t.kept.same Always (t.kept.call.apart h) tt (still_shut t not h)))

  -- the write of the gate, open
  pub opened : (t : Called disk s may_open planned done Open j (Apart s.other.start 1) (Ok x)) →
      (disk.honest s.journal.disk → Written (disk.bytes s.journal.disk) s.other.start (OPEN ∷ [])
      (disk.bytes j.disk)) → Kept disk (record s { journal = j; step = SyncOpen }) may_open planned done
  opened t written = went t SyncOpen done s.left (λ e. inl (e ∙ idle_is t.at (λ x. x))) (plan_is t.at)
      (λ h1. let h = t.kept.call.word.honest.1 h1 in (
        (t.kept.call.apart h (s.other.start + 1) (drop 1 planned) (inl (omega arith)) (beside_is t.at h).1).0,
        holds_written (disk.bytes s.journal.disk) (OPEN ∷ []) (disk.bytes j.disk) s.other.start (written h),
      ))

  -- a part, and the last one
  module _ (n to : ℕ) (le : done ≤ to) (within : to ≤ length planned)
      (written : disk.honest s.journal.disk →
      Written (disk.bytes s.journal.disk) (s.other.start + done) (slice_range planned done to) (disk.bytes j.disk))
    where
      pub next_written : Called disk s may_open planned done Part j (Apart (s.other.start + done) n) (Ok x) →
          (step : Step) (left : ℕ) → (step ≡ Part) ⊎ (step ≡ Tail) → to < length planned →
          Kept disk (record s { journal = j; step = step; left = left }) may_open planned to
      next_written t step left either short =
          let plan = plan_is t.at in let some = plan.1.some in
          let more : IsPart planned to = record { some = omega (arith, some, le); part = short } in
          let at = part_done n t plan (beside_is t.at) to le within written in
          ⊎_elim (λ e. subst (λ (q : Step). Kept disk (record s { journal = j; step = q; left = left }) may_open
          planned to) (sym e) (went t Part to left (λ _. tt) (plan.0, more) at))
          (λ e. subst (λ (q : Step). Kept disk (record s { journal = j; step = q; left = left }) may_open planned to)
          (sym e) (went t Tail to left (λ _. tt) (plan.0, more) at)) either

      pub tail_written : Called disk s may_open planned done Tail j (Apart (s.other.start + done) n) (Ok x) →
          to ≡ length planned → s.journal.phase ≡ Idle →
          Kept disk (record s { journal = j; step = SyncBody }) may_open planned done
      tail_written t all idle =
          let plan = plan_is t.at in let few = plan.1.part in
          went t SyncBody done s.left (λ e. inl (e ∙ idle)) plan.0
          (λ h. let y = part_done n t plan (beside_is t.at) to le within written h in (
            y.0,
            copied_all s.other.start planned (disk.bytes j.disk) (omega (arith, few))
                (subst (λ (k : ℕ). IsCopied s.other.start planned k (disk.bytes j.disk)) all y.1),
          ))

  -- what a sync makes sure of
  module _ {p : Step} (t : Called disk s may_open planned done p j Always (Ok x))
      (durable : disk.honest s.journal.disk → (disk.bytes j.disk ≡ disk.bytes s.journal.disk) ×
      (disk.unsynced j.disk ≡ all_synced (disk.bytes s.journal.disk))) where
    sure : disk.honest s.journal.disk → (at : ℕ) (text : List ℕ) → Holds (disk.bytes s.journal.disk) at text →
        IsSynced (disk.unsynced j.disk) at text
    sure h at text held = subst (λ (u : PendingState). IsSynced u at text) (sym (durable h).1)
        (firm_settled (disk.bytes s.journal.disk) at text held)

  pub close_synced : (t : Called disk s may_open planned done SyncClose j Always (Ok x)) →
      (disk.honest s.journal.disk → (disk.bytes j.disk ≡ disk.bytes s.journal.disk) ×
      (disk.unsynced j.disk ≡ all_synced (disk.bytes s.journal.disk))) →
      Kept disk (record s { journal = j; step = Part }) may_open planned done
  close_synced t durable = let plan = (plan_is t.at).0 in let one = (plan_is t.at).1 in
      let l = plan_long s.other s.generation s.text planned plan in let more = l.0 in let some = l.1 in
      went t Part done s.left (λ _. tt)
      (plan, record { some = omega (arith, one); part = omega (arith, more, some, one) })
      (λ h1. let h = t.kept.call.word.honest.1 h1 in
      let shut : IsShut s.other.start (disk.unsynced j.disk) =
      ⊎_elim (shut_on t.at j t.kept.same Always (t.kept.call.apart h) tt)
      (λ y. record {
        gate = 0;
        shut = λ e. omega (arith, e);
        firm =
            sure t durable h s.other.start (0 ∷ []) y.1;
      }) (beside_is t.at h) in (
        shut,
        subst (λ (k : ℕ). IsCopied s.other.start planned k (disk.bytes j.disk)) (sym one)
            (copied_none s.other.start planned (disk.bytes j.disk) (disk.unsynced j.disk) shut
            (t.at.present j.disk h1)),
      ))

  pub body_synced : (t : Called disk s may_open planned done SyncBody j Always (Ok x)) →
      (disk.honest s.journal.disk → (disk.bytes j.disk ≡ disk.bytes s.journal.disk) ×
      (disk.unsynced j.disk ≡ all_synced (disk.bytes s.journal.disk))) →
      Kept disk (record s { journal = j; step = Open }) may_open planned done
  body_synced t durable = went t Open done s.left (λ e. inl (e ∙ idle_is t.at (λ x. x))) (plan_is t.at)
      (λ h1. let h = t.kept.call.word.honest.1 h1 in let y = beside_is t.at h in
      (shut_on t.at j t.kept.same Always (t.kept.call.apart h) tt y.0, sure t durable h (s.other.start + 1) (drop 1 planned) y.1))

  -- the new slot is quiet, and the old one older
  module _ (t : Called disk s may_open planned done SyncOpen j Always (Ok x))
      (durable : disk.honest s.journal.disk → (disk.bytes j.disk ≡ disk.bytes s.journal.disk) ×
      (disk.unsynced j.disk ≡ all_synced (disk.bytes s.journal.disk))) where
    pub new_quiet : disk.honest j.disk → EndsClosed s.other.start s.other.stop s.text (disk.unsynced j.disk)
    new_quiet h1 =
        let h = t.kept.call.word.honest.1 h1 in let y = beside_is t.at h in let b : List ℕ = disk.bytes s.journal.disk in
        let e = opened_ends s.other s.generation s.text planned (plan_is t.at) b
        (byte_held b s.other.start OPEN [] y.1)
        (firm_outcome (disk.unsynced s.journal.disk) (s.other.start + 1) (drop 1 planned) b y.0
        (t.at.present s.journal.disk h)) in
        record { gate = e.gate; shut = e.shut; firm = sure t durable h s.other.start (s.text ++ e.gate ∷ []) e.holds; within = e.within }

    pub gate_sure : disk.honest j.disk → IsSynced (disk.unsynced j.disk) s.other.start (OPEN ∷ [])
    gate_sure h1 = let h = t.kept.call.word.honest.1 h1 in sure t durable h s.other.start (OPEN ∷ []) (beside_is t.at h).1

    old_older : disk.honest j.disk → IsOlder s.journal.slot.start (s.generation + 1) (disk.unsynced j.disk)
    old_older h1 =
        let h = t.kept.call.word.honest.1 h1 in
        let says = word_now disk t.at.counts_now t.kept.call.word h1 (disk.bytes j.disk) (t.at.present j.disk h1) in
        let there = (front_generation s.journal.slot.start s.generation s.journal.front (disk.bytes j.disk)
        t.at.kept.front (front_of t.at (disk.bytes j.disk) says) t.at.kept.small).text in
        record {
          its = s.generation;
          small = t.at.kept.small;
          less = omega arith;
          firm =
              sure t durable h (s.journal.slot.start + 1) (to_be_bytes w64 s.generation)
              (subst (λ (b : List ℕ). Holds b (s.journal.slot.start + 1) (to_be_bytes w64 s.generation)) (durable h).0
              there);
        }

    pub switched : (k : JournalState D) (other : Slot) → other ≡ s.journal.slot → k.slot ≡ s.other →
        k.front ≡ s.text → (k.phase ≡ Idle) × (k.begun ≡ false) → k.disk ≡ j.disk
        → Kept disk (record {
          journal = k;
          other = other;
          generation = s.generation + 1;
          version =
              VERSION;
          may_open = true;
          step = Begin;
          text = s.text;
          head = s.head;
          left = s.left;
          coming = s.coming;
        })
        true planned done
    switched k other other_is slot_is front_is idle disk_is = let plan = plan_is t.at in record {
      apart = rw (other_is, slot_is) (⊎_elim (λ before. inr before) (λ behind. inl behind) t.at.kept.apart);
      wide = rw other_is t.at.kept.wide_too;
      wide_too = rw slot_is t.at.kept.wide;
      front = rw front_is (record { rest = plan.rest; front_is = plan.text_is });
      known = record { least = omega arith; greatest = omega arith };
      small = plan.next;
      told = rw (idle.0, idle.1) refl;
      plan = tt;
      still = tt;
      live = λ h alive. rw (other_is, disk_is) (old_older (subst disk.honest disk_is h));
      failed = λ h no. absurd (let e : Idle ≡ Failed = sym idle.0 ∙ no in cc e);
    }
