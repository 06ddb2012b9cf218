-- A disk as it is made.
use Rattle.std.specs.Prelude.{◌≡◌, ◌⊎◌, ◌+◌, ℕ, List, [], ◌∷◌, ◌++◌, length, replicate}
use Rattle.std.specs.Prelude.{slice_index}
use Rattle.std.specs.Int.{w32, w64, to_be_bytes}
use Rattle.fp_disk.specs.declared.history.CallKind.{CallKind}
use Rattle.fp_disk.specs.declared.history.CallKind.TheVariants.{Sync, Write}
use Rattle.fp_journal.specs.Holds.{Holds}
use Rattle.fp_layout.specs.Layout.{magic, AreZeros, IsFormatted}
use Rattle.fp_layout.specs.Numbers.{FIRST_GATE}
use Rattle.fp_layout.specs.Numbers.{HEADER, HEADER_VERSION, ZEROS}
use Rattle.fp_slots.specs.Head.{head_text, slot_text}
use Rattle.fp_slots.specs.Numbers.{VERSION}
use Rattle.fp_gate.specs.Numbers.{OPEN}

-- ---- the text behind the header's gate
abbrev pub header_text : ℕ → List ℕ
header_text size = magic ++ HEADER_VERSION ∷ (to_be_bytes w64 size ++ replicate ZEROS 0)

-- an image of no flags
abbrev pub empty_image : List ℕ
empty_image = to_be_bytes w32 0

-- what stands in a new slot in front of the first batch's gate
abbrev pub new_front : List ℕ
new_front = head_text VERSION 1 0 empty_image

-- the bytes up to that gate, it included, as they are while all gates are closed
abbrev pub closed_bytes : ℕ → List ℕ
closed_bytes size = 0 ∷ (header_text size ++ 0 ∷ (slot_text VERSION 1 0 empty_image ++ 0 ∷ []))

-- the calls that write it: the header's closed gate, and a sync; the text behind it, the second
-- slot's closed gate, and a sync; the first slot's gate, and a sync; the header's, and a sync
abbrev pub format_calls : List CallKind
format_calls = Write ∷ Sync ∷ Write ∷ Write ∷ Sync ∷ Write ∷ Sync ∷ Write ∷ Sync ∷ []

-- ---- the whole disk, but for the header's gate
pub record IsMade (size : ℕ) (c : List ℕ) : Type 0 where
  pub long : length c ≡ HEADER + 1 + size
  pub text : Holds c 1 (header_text size ++ new_front)
  pub zeros : AreZeros c FIRST_GATE (HEADER + 1 + size)

-- and with it
pub record IsNewDisk (size : ℕ) (c : List ℕ) : Type 0 where
  pub gate : slice_index c 0 ≡ OPEN
  pub made : IsMade size c

-- what a crash may leave of a disk in the making
abbrev pub IsNewOrNone : ℕ → List ℕ → Type 0
IsNewOrNone size c = (IsFormatted c → ⊥) ⊎ IsNewDisk size c
