-- What a contract sees of a text of data.
use Rattle.std.specs.Prelude.{◌≡◌, ℕ, List, String, string_bytes}
use Rattle.std.specs.String.{string_capacity}
use Rattle.std.specs.declared.alloc.Global.{Global}
use Rattle.fp_operators.specs.declared.kept_text.Kept.{Kept}
use Rattle.fp_operators.specs.declared.kept_text.Kept.TheVariants.{Short, Long}
use Rattle.fp_operators.specs.declared.kept_text.TheConstants.{SHORT_TEXT}

-- its bytes, and how many it has room for without more memory
pub record TextState : Type 0 where
  pub bytes : List ℕ
  pub room : ℕ

abbrev pub state_of : Kept → TextState
state_of (Short t) = record { bytes = t.bytes; room = SHORT_TEXT }
state_of (Long s) = record { bytes = string_bytes s; room = string_capacity s }

-- a text that a string became has its bytes and its room
abbrev pub IsOfString : String Global → TextState → Type 0
IsOfString s t = t ≡ record { bytes = string_bytes s; room = string_capacity s }
