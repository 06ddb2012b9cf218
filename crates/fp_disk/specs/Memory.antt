-- A disk in memory, by what it held at first and the calls that it recorded since.
use Rattle.std.specs.Prelude.{◌≡◌, ◌⊎◌, ◌≤◌, ◌+◌, ◌-◌, ◌/◌, ℕ, max, Bool, true, nat_lt}
use Rattle.std.specs.Prelude.{if◌then◌else◌, List, [], ◌∷◌, ◌++◌, length, take, drop, Result}
use Rattle.std.specs.Prelude.{IsTrue, OnOk, OnErr}
use Rattle.std.specs.List.{AllByRecursion}
use Rattle.fp_disk.specs.Outcomes.{PendingState, IsOutcome, AreBytes, with_bytes_at}
use Rattle.fp_disk.specs.declared.history.CallKind.{CallKind}
use Rattle.fp_disk.specs.declared.history.CallKind.TheVariants as kind
use Rattle.fp_disk.specs.declared.disk.DiskFault.{DiskFault}
use Rattle.fp_disk.specs.declared.failing.Failing.{Failing}
use Rattle.fp_disk.specs.declared.failing.Failing.TheVariants.{Never, From, At}
use Rattle.fp_disk.specs.declared.failing.FailedWrite.{FailedWrite}
use Rattle.fp_disk.specs.declared.failing.FailedWrite.TheVariants as Failed
use Rattle.fp_disk.specs.declared.call.Progress.{Progress}
use Rattle.fp_disk.specs.declared.call.Progress.TheVariants.{Whole, Half, Nothing}
use Rattle.fp_disk.specs.declared.call.Request.{Request}
use Rattle.fp_disk.specs.declared.call.Request.TheVariants.{Len, Read, Write, Sync}
use Rattle.fp_disk.specs.declared.call.Call.{Call}

-- does the next call pass
abbrev pub passes : Failing → Bool
passes Never = true
passes (From left) = nat_lt 0 left
passes (At left) = nat_lt 0 left

-- which calls fail, counted from after this one
abbrev pub after_call : Failing → Failing
after_call Never = Never
after_call (From left) = From (left - 1)
after_call (At left) = (if nat_lt 0 left then At (left - 1) else Never)

-- how much the next call does, if it is a write
abbrev pub write_progress : FailedWrite → Failing → Progress
write_progress Failed.Nothing failing = (if passes failing then Whole else Nothing)
write_progress Failed.Half failing = (if passes failing then Whole else Half)

-- the same of any other call
abbrev pub call_progress : Failing → Progress
call_progress failing = (if passes failing then Whole else Nothing)

-- what a read gives, what the last sync made sure of, and the writes since, the last of them first
pub record State : Type 0 where
  pub bytes : List ℕ
  pub synced : List ℕ
  pub writes : List (ℕ × List ℕ)

-- these bytes after so much of a write
abbrev pub bytes_after_write : Progress → List ℕ → ℕ → List ℕ → List ℕ
bytes_after_write Whole old at more = with_bytes_at old at more
bytes_after_write Half old at more = with_bytes_at old at (take (length more / 2) more)
bytes_after_write Nothing old at more = old

abbrev pub synced_after : Progress → State → State
synced_after Whole s = record { bytes = s.bytes; synced = s.bytes; writes = [] }
synced_after Half s = s
synced_after Nothing s = s

-- the state after a call; a write that failed is one that a crash may show all the same
abbrev pub after_request : Request → Progress → State → State
after_request Len p s = s
after_request (Read at n) p s = s
after_request (Write at more) p s =
    record {
      bytes = bytes_after_write p s.bytes at more;
      synced = s.synced;
      writes = (at, more) ∷ s.writes;
    }
after_request Sync p s = synced_after p s

abbrev pub after : State → Call → State
after s c = after_request c.request c.progress s

abbrev pub replay : State → List Call → State
replay s [] = s
replay s (c ∷ cs) = replay (after s c) cs

abbrev pub at_first : List ℕ → State
at_first bytes = record { bytes = bytes; synced = bytes; writes = [] }

-- where was written
abbrev pub ranges_of : List (ℕ × List ℕ) → List (ℕ × ℕ)
ranges_of [] = []
ranges_of (w ∷ ws) = (w.0, length w.1) ∷ ranges_of ws

-- how far the writes reach, or so far
abbrev pub reach_of : ℕ → List (ℕ × List ℕ) → ℕ
reach_of n [] = n
reach_of n (w ∷ ws) = max (reach_of n ws) (w.0 + length w.1)

abbrev pub unsynced_of : State → PendingState
unsynced_of s = record {
  synced = s.synced;
  ranges = ranges_of s.writes;
  reach = reach_of (length s.synced) s.writes;
}

-- the state after the first k calls
abbrev pub state_at : List ℕ → List Call → ℕ → State
state_at first calls k = replay (at_first first) (take k calls)

-- a crash after one of the calls since the t-th might have left this
abbrev pub LeftSince : List ℕ → List Call → ℕ → List ℕ → Type 0
LeftSince first calls t c = (k : ℕ) × (t ≤ k) × (k ≤ length calls)
    × IsOutcome (unsynced_of (state_at first calls k)) c

-- what a request asks for
abbrev pub kind_of : Request → CallKind
kind_of Len = kind.Length
kind_of (Read at n) = kind.Read
kind_of (Write at more) = kind.Write
kind_of Sync = kind.Sync

-- what is to be put is bytes
abbrev pub BringsBytes : Request → Type 0
BringsBytes Len = Unit {0}
BringsBytes (Read at n) = Unit {0}
BringsBytes (Write at more) = AreBytes more
BringsBytes Sync = Unit {0}

-- bytes at first, and each call brought none but bytes
pub record HoldsBytes (first : List ℕ) (calls : List Call) : Type 0 where
  pub at_first : AreBytes first
  pub brought : AllByRecursion (λ (c : Call). BringsBytes c.request) calls

-- a disk in memory, as contracts see it; `made` has the calls without a record too
pub record Memory : Type 0 where
  pub first : List ℕ
  pub calls : List Call
  pub failing : Failing
  pub failed_writes : FailedWrite
  pub made : List CallKind
  pub faults : ℕ

abbrev pub state : Memory → State
state m = replay (at_first m.first) m.calls

-- a disk that holds this, with nothing pending and no call made
abbrev pub fresh : List ℕ → Memory
fresh bytes = record {
  first = bytes;
  calls = [];
  failing = Never;
  failed_writes = Failed.Nothing;
  made = [];
  faults = 0;
}

-- a call that was recorded
abbrev pub after_recorded_call : Memory → Call → Memory
after_recorded_call m c = record {
  first = m.first;
  calls = m.calls ++ c ∷ [];
  failing = after_call m.failing;
  failed_writes = m.failed_writes;
  made = m.made ++ kind_of c.request ∷ [];
  faults = m.faults;
}

-- a call that failed as it was told to
abbrev pub after_failed_call : Memory → Call → Memory
after_failed_call m c = record {
  first = m.first;
  calls = m.calls ++ c ∷ [];
  failing = after_call m.failing;
  failed_writes = m.failed_writes;
  made = m.made ++ kind_of c.request ∷ [];
  faults = m.faults + 1;
}

-- a call that failed since there was no memory to record it
abbrev pub after_unrecorded_call : Memory → Request → Memory
after_unrecorded_call m request = record {
  first = m.first;
  calls = m.calls;
  failing = after_call m.failing;
  failed_writes = m.failed_writes;
  made = m.made ++ kind_of request ∷ [];
  faults = m.faults + 1;
}

-- What a call did. It succeeds only if it passes; one that is to fail, fails;
-- and one that leaves no record found no memory for it.
pub record Answered {T : Type 0} (old new : Memory) (request : Request) (progress : Progress)
    (result : Result T DiskFault) : Type 0 where
  pub ok : OnOk result (IsTrue (passes old.failing)
      × (new ≡ after_recorded_call old (record { request = request; progress = Whole })))
  pub err : OnErr result ((((IsTrue (passes old.failing)) → ⊥)
      × (new ≡ after_failed_call old (record { request = request; progress = progress })))
      ⊎ (new ≡ after_unrecorded_call old request))

-- the writes with one more, if this is a write
abbrev pub with_request : List (ℕ × List ℕ) → Request → List (ℕ × List ℕ)
with_request ws Len = ws
with_request ws (Read at n) = ws
with_request ws (Write at more) = (at, more) ∷ ws
with_request ws Sync = ws

-- the writes of these calls, the last first, before these
abbrev pub writes_after : List (ℕ × List ℕ) → List Call → List (ℕ × List ℕ)
writes_after ws [] = ws
writes_after ws (c ∷ cs) = writes_after (with_request ws c.request) cs

-- the fields of a disk in memory are those of its state,
-- the calls from the settled ones on made its pending writes, and all is bytes
pub record Keeps (first bytes synced : List ℕ) (calls : List Call)
    (all_synced reach : ℕ) : Type 0 where
  pub bytes_are : bytes ≡ (replay (at_first first) calls).bytes
  pub synced_are : synced ≡ (replay (at_first first) calls).synced
  pub pending : writes_after [] (drop all_synced calls) ≡ (replay (at_first first) calls).writes
  pub within : all_synced ≤ length calls
  pub reach_is : reach ≡ reach_of (length synced) (replay (at_first first) calls).writes
  pub holds : HoldsBytes first calls
