-- What a crash may leave of a disk that keeps its word; of another nothing is said.
use Rattle.std.specs.Prelude.{◌≡◌, ◌↔◌, ℕ, List}
use Rattle.fp_disk.specs.Outcomes.{IsOutcome, LeavesOnly}
use Rattle.fp_disk.specs.declared.disk.Disk.{Ghosts}

-- whatever a crash leaves now has P
abbrev pub EachCrash : {D : Type 0} → Ghosts D → D → (List ℕ → Type 0) → Type 0
EachCrash disk now P = disk.honest now → (c : List ℕ) → IsOutcome (disk.unsynced now) c → P c

-- whatever a crash leaves at any moment from `old` to `new` has P
abbrev pub AtAnyMoment : {D : Type 0} → Ghosts D → D → D → (List ℕ → Type 0) → Type 0
AtAnyMoment disk old new P =
    disk.honest old → LeavesOnly disk.moment disk.crash_states_since old new P

-- it keeps its word afterwards exactly where it did before
abbrev pub SameHonesty : {D : Type 0} → Ghosts D → D → D → Type 0
SameHonesty disk old new = disk.honest old ↔ disk.honest new

-- its bytes stay, and a crash at any moment from `old` to `new` leaves what one might have left
-- before; that it keeps its word is a premise where this is cited
pub record StaysAsItWas {D : Type 0} (disk : Ghosts D) (old new : D) : Type 0 where
  pub bytes : disk.bytes new ≡ disk.bytes old
  pub any_moment : LeavesOnly disk.moment disk.crash_states_since old new
      (IsOutcome (disk.unsynced old))

-- and what the next sync is to make sure of stays too
pub record IsUntouched {D : Type 0} (disk : Ghosts D) (old new : D) : Type 0 where
  pub stays : StaysAsItWas disk old new
  pub unsynced : disk.unsynced new ≡ disk.unsynced old
