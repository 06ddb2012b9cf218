-- The data of rules: what JSON writes, with whole numbers only. Members ascend by their names'
-- bytes.
use Rattle.std.specs.Prelude.{ℕ, ℤ, List, Bool}
use Rattle.std.specs.Ordering.{nat_cmp, match_ordering}
use Rattle.std.specs.Cmp.Lexicographic.{slice_cmp}

mutual
  pub data Data : Type 0 where
    null : Data
    boolean : Bool → Data
    whole : ℤ → Data
    text : List ℕ → Data
    list : Items → Data
    object : Members → Data

  pub data Items : Type 0 where
    no_items : Items
    item : Data → Items → Items

  pub data Members : Type 0 where
    no_members : Members
    member : List ℕ → Data → Members → Members

-- the members, with d under the name k
abbrev pub put : List ℕ → Data → Members → Members
put k d no_members = member k d no_members
put k d (member l e ms) =
    match_ordering (slice_cmp nat_cmp k l) (member k d (member l e ms)) (member l d ms)
    (member l e (put k d ms))
