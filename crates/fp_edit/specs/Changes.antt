-- Changes that are made together: how many there may be, of which keys, and how long.
use Rattle.std.specs.Prelude.{ℕ, ◌+◌, List, [], ◌∷◌, length, map, Bool, true, false, not, ◌&&◌}
use Rattle.std.specs.Prelude.{◌||◌, nat_le, bytes_eq, Option}
use Rattle.std.specs.List.{sum_by}
use Rattle.fp_base.specs.Tests.{first_failed}
use Rattle.fp_edit.specs.Parts.{Part, put, delete, part_key}
use Rattle.fp_edit.specs.Numbers.{MOST_CHANGES, LONGEST_EDIT}
use Rattle.fp_edit.specs.Numbers.{PUT_FRAME, DELETE_FRAME, SET_FRAME}
use Rattle.fp_edit.specs.declared.changes.SetFault.{SetFault}
use Rattle.fp_edit.specs.declared.changes.SetFault.TheVariants.{BadCount, RepeatedKey, TooLong}

-- as many as may be made together
abbrev pub is_count : ℕ → Bool
is_count n = nat_le 1 n && nat_le n MOST_CHANGES

-- a key is one of these
abbrev pub is_among : List ℕ → List (List ℕ) → Bool
is_among k [] = false
is_among k (l ∷ ls) = bytes_eq k l || is_among k ls

-- no key is there twice
abbrev pub are_distinct : List (List ℕ) → Bool
are_distinct [] = true
are_distinct (k ∷ ks) = not (is_among k ks) && are_distinct ks

-- the bytes that a change to one flag takes in a batch, and those that a set takes
abbrev pub part_len : Part → ℕ
part_len (put k text) = PUT_FRAME + length k + length text
part_len (delete k) = DELETE_FRAME + length k

abbrev pub set_len : List Part → ℕ
set_len ps = SET_FRAME + sum_by part_len ps

-- what a set owes, each with the fault where it doesn't hold
abbrev pub set_tests : List Part → List (Bool × SetFault)
set_tests ps = (is_count (length ps), BadCount)
    ∷ (are_distinct (map part_key ps), RepeatedKey)
    ∷ (nat_le (set_len ps) LONGEST_EDIT, TooLong)
    ∷ []

-- the first that it lacks
abbrev pub set_fault : List Part → Option SetFault
set_fault ps = first_failed (set_tests ps)
