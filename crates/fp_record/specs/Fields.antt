-- Fields from an offset on: the value and the offset behind it, or the offset of the first field
-- that can't stand there.
use Rattle.std.specs.Prelude.{ℕ, ◌+◌, List, length, nat_lt, nat_le, ◌&&◌, Result, Ok, Err}
use Rattle.std.specs.Prelude.{if◌then◌else◌, slice_range}
use Rattle.std.specs.Int.{Width, w16, w32, byte_len, from_be_bytes}
use Rattle.std.specs.Str.{is_utf8}
use Rattle.fp_base.specs.Steps.{◌>>=◌}
use Rattle.fp_definition.specs.Valid.{is_definition_text}
use Rattle.fp_definition.specs.Numbers.{LONGEST_DEFINITION}
use Rattle.fp_definition.specs.Numbers.{LONGEST_KEY}
use Rattle.fp_record.specs.declared.fault.RecordFault.{RecordFault}
use Rattle.fp_record.specs.declared.fault.RecordFault.TheVariants as fault

-- a fault tells where the bytes are wrong; want of memory tells nothing
abbrev pub Tells : RecordFault → (ℕ → Type 0) → Type 0
Tells fault.Memory Has = Unit {0}
Tells (fault.BadRecord at) Has = Has at

-- a number of that width
abbrev pub number_at : Width → List ℕ → ℕ → Result (ℕ × ℕ) ℕ
number_at w bytes at = if nat_lt (length bytes) (at + byte_len w) then Err at
    else Ok (from_be_bytes w (slice_range bytes at (at + byte_len w)), at + byte_len w)

-- that many bytes
abbrev pub bytes_at : ℕ → List ℕ → ℕ → Result (List ℕ × ℕ) ℕ
bytes_at len bytes at = if nat_lt (length bytes) (at + len) then Err at
    else Ok (slice_range bytes at (at + len), at + len)

-- a key: bytes of UTF-8, not too few and not too many
unfoldable pub key_at : List ℕ → ℕ → Result (List ℕ × ℕ) ℕ
key_at bytes at = do
  len ← number_at w16 bytes at
  key ← if nat_le 1 len.0 && nat_le len.0 LONGEST_KEY then bytes_at len.0 bytes len.1 else Err at
  if is_utf8 key.0 then Ok key else Err len.1

-- the canonical text of a valid definition
unfoldable pub definition_at : List ℕ → ℕ → Result (List ℕ × ℕ) ℕ
definition_at bytes at = do
  len ← number_at w32 bytes at
  text ← if nat_le len.0 LONGEST_DEFINITION then bytes_at len.0 bytes len.1 else Err at
  if is_definition_text text.0 then Ok text else Err len.1
