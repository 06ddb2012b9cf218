-- Texts that begin with the canonical text of data.
use Rattle.std.specs.Prelude.{◌≡◌, ◌≤◌, ◌<◌, ℕ, List, [], ◌∷◌, ◌++◌, Bool, true, false, ⊤}
use Rattle.serde_json.specs.Data.{Data, depth, Items, items_depth, Members, members_depth}
use Rattle.serde_json.specs.Written.{compact_text, items_text, members_text}
use Rattle.fp_base.specs.Ordered.{IsOrdered, AreOrdered, MembersAreOrdered}
use Rattle.fp_base.specs.Whole.{is_whole, items_whole, members_whole}

abbrev pub is_some_there : {A : Type 0} → List A → Bool
is_some_there [] = false
is_some_there (x ∷ xs) = true

-- what is left doesn't begin with a digit, so that a number before it has ended
abbrev pub Ends : List ℕ → Type 0
Ends [] = ⊤
Ends (x ∷ xs) = 48 ≤ x → 57 < x

-- the text is the canonical one of the data, with what is left behind it; these are as they are
-- read, their numbers are whole, and they nest within the limit
pub record Reads (limit : ℕ) (d : Data) (text left : List ℕ) : Type 0 where
  pub spelled : text ≡ compact_text d ++ left
  pub ordered : IsOrdered d
  pub whole : is_whole d ≡ true
  pub flat : depth d ≤ limit

-- the same of items, behind others or not, with the bracket that ends them
pub record ReadsItems (limit : ℕ) (later : Bool) (ds : Items) (text left : List ℕ) : Type 0 where
  pub spelled : text ≡ items_text later ds ++ left
  pub ordered : AreOrdered ds
  pub whole : items_whole ds ≡ true
  pub flat : items_depth ds ≤ limit

-- the same of members
pub record ReadsMembers (limit : ℕ) (later : Bool) (ms : Members) (text left : List ℕ)
    : Type 0 where
  pub spelled : text ≡ members_text later ms ++ left
  pub ordered : MembersAreOrdered ms
  pub whole : members_whole ms ≡ true
  pub flat : members_depth ms ≤ limit
