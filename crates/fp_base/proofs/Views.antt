-- What a list and an object are seen as.
use Rattle.std.proofs.Common.{◌≡◌, List, rules}
use Rattle.std.specs.Borrow.{Bor}
use Rattle.json.proofs.Grammar.{value_is}
use Rattle.serde_json.specs.Data.{array, object}
use Rattle.fp_base.specs.TreeView.{Entry, tree_view, tree_items, tree_members}
use Rattle.fp_base.specs.declared.tree.Tree.{Tree, Array, Object, the_lemmas}

pub view-Array : (v : Bor (List Tree)) → tree_view (Array v) ≡ array (tree_items v.now)
view-Array v = search (rules, the_lemmas)

pub view-Object : (v : Bor (List Entry)) → tree_view (Object v) ≡ object (tree_members v.now)
view-Object v = search (rules, the_lemmas)

-- what a token alone reads as
pub ruleset scalars = (value_is, the_lemmas)
