-- Keys of flags.
use Rattle.std.specs.Prelude.{ℕ, List, length, Bool, ◌&&◌, nat_le, string_bytes}
use Rattle.std.specs.declared.cmp.Ordering.{Ordering}
use Rattle.fp_base.specs.Bytes.{bytes_cmp}
use Rattle.fp_definition.specs.declared.key.FlagKey.{FlagKey}
use Rattle.fp_definition.specs.Numbers.{LONGEST_KEY}

-- the bytes that a key is
abbrev pub key_bytes : FlagKey → List ℕ
key_bytes k = string_bytes k.text

-- keys have some bytes, and not too many
abbrev pub is_key : List ℕ → Bool
is_key text = nat_le 1 (length text) && nat_le (length text) LONGEST_KEY

-- the order of keys
abbrev pub flag_cmp : FlagKey → FlagKey → Ordering
flag_cmp a b = bytes_cmp (key_bytes a) (key_bytes b)
