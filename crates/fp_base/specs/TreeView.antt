-- The data that a tree stands for.
use Rattle.std.specs.Prelude.{ℕ, List, [], ◌∷◌, map}
use Rattle.std.specs.Borrow.{Bor}
use Rattle.serde_json.specs.Data.{Data, null, boolean, number, string, array, object, Items}
use Rattle.serde_json.specs.Data.{Members, no_members, member}
use Rattle.serde_json.specs.View.{number_view, items_of}
use Rattle.fp_base.specs.declared.tree.Tree.{Tree, fold-Tree}
use Rattle.fp_base.specs.declared.tree.Tree.TheOpen.{Tree-F}

abbrev pub members_of : List (Bor (List ℕ) × Data) → Members
members_of [] = no_members
members_of (m ∷ ms) = member m.0.now m.1 (members_of ms)

-- one level, with each tree inside already seen as its data
abbrev pub tree_step : Tree-F Data → Data
tree_step Tree-F.Null = null
tree_step (Tree-F.Bool b) = boolean b
tree_step (Tree-F.Number x) = number (number_view x)
tree_step (Tree-F.String s) = string s.now
tree_step (Tree-F.Array v) = array (items_of v.now)
tree_step (Tree-F.Object v) = object (members_of v.now)

abbrev pub tree_view : Tree → Data
tree_view = fold-Tree Data tree_step

abbrev pub tree_items : List Tree → Items
tree_items ts = items_of (map tree_view ts)

-- a member of an object: its name, and its tree
abbrev pub Entry : Type 0
Entry = Bor (List ℕ) × Tree

abbrev pub tree_members : List Entry → Members
tree_members ms = members_of (map (λ m. (m.0, tree_view m.1)) ms)
