-- Which of its outcomes a crash leaves, as it was chosen.
use Rattle.std.specs.Prelude.{◌≡◌, ◌<◌, ◌+◌, ◌-◌, ◌*◌, ◌/◌, ◌%◌, ◌^◌, ◌&&◌, nat_le, nat_lt, ℕ, min}
use Rattle.std.specs.Prelude.{max, Bool, if◌then◌else◌, List, [], ◌∷◌, length, slice_index}
use Rattle.std.specs.Prelude.{slice_index_or, slice_get, unwrap_or}
use Rattle.fp_disk.specs.declared.choice.Fill.{Fill}
use Rattle.fp_disk.specs.declared.choice.Fill.TheVariants.{Old, New, Byte, Seed}
use Rattle.fp_disk.specs.Memory.{State, unsynced_of}

-- a byte that this seed gives for this place
unfoldable pub byte_of_seed : ℕ → ℕ → ℕ
byte_of_seed seed place =
    let spread = (place * 0x9e37_79b9_7f4a_7c15 % 2 ^ 64 + seed) % 2 ^ 64 in
    let folded = (spread + spread / 2 ^ 32) % 2 ^ 64 in
    folded * 0xd6e8_feb8_6659_fd93 % 2 ^ 64 / 2 ^ 56

-- the byte at this place, which was `old` and was written as `new`
abbrev pub byte_of_fill : Fill → ℕ → ℕ → ℕ → ℕ
byte_of_fill Old k old new = old
byte_of_fill New k old new = new
byte_of_fill (Byte b) k old new = b
byte_of_fill (Seed seed) k old new = byte_of_seed seed k

-- what becomes of the n-th write
abbrev pub fill_of : List Fill → Fill → ℕ → Fill
fill_of fills rest n = unwrap_or (slice_get fills n) rest

-- is the place within the write
abbrev pub reaches : ℕ × List ℕ → ℕ → Bool
reaches w k = nat_le w.0 k && nat_lt k (w.0 + length w.1)

-- the byte at place k, which was this before these writes, the last of them first,
-- came out as they were chosen
abbrev pub byte_after_writes : List Fill → Fill → List (ℕ × List ℕ) → ℕ → ℕ → ℕ
byte_after_writes fills rest [] k byte = byte
byte_after_writes fills rest (w ∷ ws) k byte =
    (if reaches w k
    then byte_of_fill (fill_of fills rest (length ws)) k (byte_after_writes fills rest ws k byte)
    (slice_index w.1 (k - w.0))
    else byte_after_writes fills rest ws k byte)

-- a crash in this state leaves this, by this choice
pub record IsLeft (wanted : ℕ) (fills : List Fill) (rest : Fill) (s : State)
    (c : List ℕ) : Type 0 where
  pub length_is : length c ≡ max (length s.synced) (min wanted (unsynced_of s).reach)
  pub places : (k : ℕ) → k < length c →
      slice_index c k ≡ byte_after_writes fills rest s.writes k
      (slice_index_or s.synced k (byte_of_fill rest k 0 0))
