-- The members of an object, as far as they were gathered.
use Rattle.std.specs.Prelude.{◌≡◌, List, [], ◌∷◌, length, reverse}
use Rattle.serde_json.specs.Data.{Members, put}
use Rattle.fp_base.specs.Sorted.{IsSorted}
use Rattle.fp_base.specs.TreeView.{Entry, tree_view, tree_members}
use Rattle.fp_base.specs.declared.gathering.Gathered.{Gathered}

-- members, with each of a list put among them in turn
abbrev pub laid : Members → List Entry → Members
laid ms [] = ms
laid ms (e ∷ es) = laid (put e.0.now (tree_view e.1) ms) es

abbrev pub gathered : Gathered → Members
gathered g = laid (tree_members g.ordered.items) g.waiting.items

-- in descending order of their names
abbrev pub IsFalling : List Entry → Type 0
IsFalling es = IsSorted (tree_members (reverse es))

-- those in order ascend, and those that wait alone descend
abbrev pub IsGathered : Gathered → Type 0
IsGathered g = IsSorted (tree_members g.ordered.items) × (length g.ordered.items ≡ 0 → IsFalling g.waiting.items)
