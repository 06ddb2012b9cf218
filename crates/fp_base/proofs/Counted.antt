-- How many values data have, and how many members a tree's object.
use Rattle.std.proofs.Common.{◌≡◌, ◌<◌, List, [], ◌∷◌, suc, length, refl, ap, arith}
use Rattle.serde_json.specs.Data.{Data, null, boolean, number, string, array, object}
use Rattle.serde_json.specs.Events.{members_len}
use Rattle.fp_base.specs.Count.{count}
use Rattle.fp_base.specs.TreeView.{Entry, tree_members}

pub counted : (ms : List Entry) → members_len (tree_members ms) ≡ length ms
counted [] = refl
counted (m ∷ ms) = ap suc (counted ms)

pub count_some : (d : Data) → 0 < count d
count_some null = omega arith
count_some (boolean b) = omega arith
count_some (number n) = omega arith
count_some (string s) = omega arith
count_some (array ds) = omega arith
count_some (object ms) = omega arith
