-- What a disk in memory does, in the words that hold of every disk.
use Rattle.std.proofs.Common.{◌≡◌, ◌↔◌, ◌⊎◌, ◌<◌, ◌+◌, ◌++◌, ◌∷◌, [], ℕ, List, length, refl, arith, sym, ap, ◌∙◌, subst}
use Rattle.std.proofs.Common.{inl, inr, Result, Ok, Err, IsErr, OnOk}
use Rattle.fp_disk.specs.declared.disk.DiskFault.{DiskFault}
use Rattle.fp_disk.specs.declared.call.Call.{Call}
use Rattle.fp_disk.specs.declared.call.Progress.{Progress}
use Rattle.fp_disk.specs.declared.call.Progress.TheVariants.{Whole, Half, Nothing}
use Rattle.fp_disk.specs.declared.call.Request.{Request}
use Rattle.fp_disk.specs.declared.call.Request.TheVariants.{Write, Sync}
use Rattle.fp_disk.specs.Outcomes.{PendingState, IsOutcome, Elapses, CountsFaults, all_synced, with_write, Written, ChangesWithin}
use Rattle.fp_disk.specs.Memory.{State, Memory, state, after_request, at_first, unsynced_of, LeftSince}
use Rattle.fp_disk.specs.Memory.{after_failed_call, after_unrecorded_call, kind_of, Answered, BringsBytes, HoldsBytes}
use Rattle.fp_disk.specs.MemoryLaws.{replay_more, holds_more, elapses_call, synced_fits, written_changes}

pub answers_of : {T : Type 0} (old new : Memory) (request : Request) (p : Progress) (result : Result T DiskFault) →
    Answered old new request p result → CountsFaults old.faults new.faults result
answers_of old new request p (Ok x) a = record { well = λ ok. ap (λ (m : Memory). m.faults) (a.ok.1); ill = λ err. absurd (cc err) }
answers_of old new request p (Err e) a = record {
  well = λ ok. absurd (cc ok);
  ill = λ err. elim a.err [
    | inl fails ↦ rose (after_failed_call old (record { request = request; progress = p })) fails.1 refl
    | inr none ↦ rose (after_unrecorded_call old request) none refl
  ];
}
  where
    rose : (there : Memory) → new ≡ there → there.faults ≡ old.faults + 1 → old.faults < new.faults
    rose there is one = let e : new.faults ≡ there.faults = ap (λ (m : Memory). m.faults) is in omega (arith, e, one)

pub called_of : {T : Type 0} (old new : Memory) (request : Request) (p : Progress) (result : Result T DiskFault) →
    Answered old new request p result → new.made ≡ old.made ++ kind_of request ∷ []
called_of old new request p (Ok x) a = ap (λ (m : Memory). m.made) a.ok.1
called_of old new request p (Err e) a =
    elim a.err [ inl fails ↦ ap (λ (m : Memory). m.made) fails.1 | inr none ↦ ap (λ (m : Memory). m.made) none ]

-- a disk holds bytes after a call exactly where it did before
pub honest_of : {T : Type 0} (old new : Memory) (request : Request) (p : Progress) (result : Result T DiskFault) →
    BringsBytes request → Answered old new request p result →
    HoldsBytes old.first old.calls ↔ HoldsBytes new.first new.calls
honest_of old new request p (Ok x) b a =
    subst (λ (m : Memory). HoldsBytes old.first old.calls ↔ HoldsBytes m.first m.calls) (sym a.ok.1)
    (holds_more old.first old.calls (record { request = request; progress = Whole }) b)
honest_of old new request p (Err e) b a = elim a.err [
  | inl fails ↦ subst (λ (m : Memory). HoldsBytes old.first old.calls ↔ HoldsBytes m.first m.calls) (sym fails.1)
      (holds_more old.first old.calls (record { request = request; progress = p }) b)
  | inr none ↦ subst (λ (m : Memory). HoldsBytes old.first old.calls ↔ HoldsBytes m.first m.calls) (sym none) (λ h. h, λ h. h)
]

elapses_none : (first : List ℕ) (calls : List Call) (u : PendingState) →
    Elapses (length calls) (length calls) (LeftSince first calls) (LeftSince first calls) (IsOutcome u)
elapses_none first calls u = record { later = omega arith; nothing_else = λ t o le left. inl left; keeps = λ t o le left. left }

-- the outcomes that a call adds are among these, however far it came
pub elapses_of : {T : Type 0} (old new : Memory) (request : Request) (p : Progress) (u : PendingState) →
    ((q : Progress) (o : List ℕ) → IsOutcome (unsynced_of (after_request request q (state old))) o → IsOutcome u o)
    → (result : Result T DiskFault) → Answered old new request p result →
    Elapses (length old.calls) (length new.calls) (LeftSince old.first old.calls) (LeftSince new.first new.calls)
    (IsOutcome u)
elapses_of old new request p u fits (Ok x) a =
    subst (λ (m : Memory). Elapses (length old.calls) (length m.calls) (LeftSince old.first old.calls)
    (LeftSince m.first m.calls) (IsOutcome u)) (sym a.ok.1)
    (elapses_call old.first old.calls (record { request = request; progress = Whole }) u (fits Whole))
elapses_of old new request p u fits (Err e) a = elim a.err [
  | inl fails ↦ subst (λ (m : Memory). Elapses (length old.calls) (length m.calls) (LeftSince old.first old.calls)
      (LeftSince m.first m.calls) (IsOutcome u)) (sym fails.1)
      (elapses_call old.first old.calls (record { request = request; progress = p }) u (fits p))
  | inr none ↦ subst (λ (m : Memory). Elapses (length old.calls) (length m.calls) (LeftSince old.first old.calls)
      (LeftSince m.first m.calls) (IsOutcome u)) (sym none) (elapses_none old.first old.calls u)
]

-- the state after a call that succeeded, and after one that failed

pub state_ok : {T : Type 0} (old new : Memory) (request : Request) (p : Progress) (result : Result T DiskFault) →
    Answered old new request p result → OnOk result (state new ≡ after_request request Whole (state old))
state_ok old new request p (Ok x) a = ap state a.ok.1 ∙
    replay_more (at_first old.first) old.calls (record { request = request; progress = Whole })
state_ok old new request p (Err e) a = tt

pub state_err : {T : Type 0} (old new : Memory) (request : Request) (p : Progress) (result : Result T DiskFault) →
    Answered old new request p result → IsErr result →
    (state new ≡ after_request request p (state old)) ⊎ (state new ≡ state old)
state_err old new request p (Ok x) a err = absurd (cc err)
state_err old new request p (Err e) a err = elim a.err [
  | inl fails ↦ inl (ap state fails.1 ∙ replay_more (at_first old.first) old.calls (record { request = request; progress = p }))
  | inr none ↦ inr (ap state none)
]

-- a call that reads changes nothing
pub state_same : {T : Type 0} (old new : Memory) (request : Request) (p : Progress) →
    ((q : Progress) → after_request request q (state old) ≡ state old) → (result : Result T DiskFault) →
    Answered old new request p result → state new ≡ state old
state_same old new request p quiet (Ok x) a = state_ok old new request p (Ok x) a ∙ quiet Whole
state_same old new request p quiet (Err e) a = elim (state_err old new request p (Err e) a refl) [
  | inl there ↦ there ∙ quiet p
  | inr same ↦ same
]

-- a write

pub written_ok : {T : Type 0} (old new : Memory) (at : ℕ) (more : List ℕ) (p : Progress)
    (result : Result T DiskFault) → Answered old new (Write at more) p result →
    OnOk result (Written (state old).bytes at more (state new).bytes)
written_ok old new at more p (Ok x) a = ap (λ (s : State). s.bytes) (state_ok old new (Write at more) p (Ok x) a)
written_ok old new at more p (Err e) a = tt

pub touched_ok : {T : Type 0} (old new : Memory) (at : ℕ) (more : List ℕ) (p : Progress)
    (result : Result T DiskFault) → Answered old new (Write at more) p result →
    OnOk result (unsynced_of (state new) ≡ with_write (unsynced_of (state old)) at (length more))
touched_ok old new at more p (Ok x) a = ap unsynced_of (state_ok old new (Write at more) p (Ok x) a)
touched_ok old new at more p (Err e) a = tt

pub touched_err : {T : Type 0} (old new : Memory) (at : ℕ) (more : List ℕ) (p : Progress)
    (result : Result T DiskFault) → Answered old new (Write at more) p result
    → IsErr result → (unsynced_of (state new) ≡ unsynced_of (state old)) ⊎
    (unsynced_of (state new) ≡ with_write (unsynced_of (state old)) at (length more))
touched_err old new at more p result a err = elim (state_err old new (Write at more) p result a err) [
  | inl there ↦ inr (ap unsynced_of there)
  | inr same ↦ inl (ap unsynced_of same)
]

pub written_partly : {T : Type 0} (old new : Memory) (at : ℕ) (more : List ℕ) (p : Progress)
    (result : Result T DiskFault) → Answered old new (Write at more) p result → IsErr result →
    ChangesWithin (state old).bytes at (length more) (state new).bytes
written_partly old new at more p result a err = elim (state_err old new (Write at more) p result a err) [
  | inl there ↦ subst (λ (s : State). ChangesWithin (state old).bytes at (length more) s.bytes) (sym there)
      (written_changes p (state old).bytes more at)
  | inr same ↦ subst (λ (s : State). ChangesWithin (state old).bytes at (length more) s.bytes) (sym same)
      (record { no_shorter = omega arith; no_longer = omega arith; outside = λ k lt out. refl })
]

-- a sync

pub settled_ok : {T : Type 0} (old new : Memory) (p : Progress) (result : Result T DiskFault) →
    Answered old new Sync p result → OnOk result (unsynced_of (state new) ≡ all_synced (state old).bytes)
settled_ok old new p (Ok x) a = ap unsynced_of (state_ok old new Sync p (Ok x) a)
settled_ok old new p (Err e) a = tt

pub settled_err : {T : Type 0} (old new : Memory) (result : Result T DiskFault) →
    Answered old new Sync Nothing result → IsErr result → state new ≡ state old
settled_err old new result a err = elim (state_err old new Sync Nothing result a err) [
  | inl there ↦ there
  | inr same ↦ same
]

pub bytes_stay : {T : Type 0} (old new : Memory) (result : Result T DiskFault) →
    Answered old new Sync Nothing result → (state new).bytes ≡ (state old).bytes
bytes_stay old new (Ok x) a = ap (λ (s : State). s.bytes) (state_ok old new Sync Nothing (Ok x) a)
bytes_stay old new (Err e) a = ap (λ (s : State). s.bytes) (settled_err old new (Err e) a refl)

pub sync_fits : (old : Memory) → HoldsBytes old.first old.calls → (q : Progress) (o : List ℕ) →
    IsOutcome (unsynced_of (after_request Sync q (state old))) o → IsOutcome (unsynced_of (state old)) o
sync_fits old h Whole o out = synced_fits old o h out
sync_fits old h Half o out = out
sync_fits old h Nothing o out = out
