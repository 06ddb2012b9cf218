-- Trees that are read, one after another.
use Rattle.std.proofs.Common.{◌≡◌, ℕ, List, [], ◌∷◌, ◌++◌, Option, Some, None, nat_cmp, refl, ap}
use Rattle.std.specs.Cmp.Lexicographic.{slice_cmp}
use Rattle.json.specs.Json.{parse_map}
use Rattle.json.specs.Token.{Token}
use Rattle.serde_json.specs.Data.{Data, Items, no_items, item, Members, no_members, member, put}
use Rattle.fp_base.specs.Ordered.{IsOrdered, MembersAreOrdered}
use Rattle.fp_base.specs.TreeView.{tree_view, tree_items}
use Rattle.fp_base.specs.declared.tree.Tree.{Tree}
use Rattle.fp_base.proofs.Sorted.{by-order}

-- ---- items

abbrev pub items_before : List Tree → Items → Items
items_before [] rest = rest
items_before (t ∷ ts) rest = item (tree_view t) (items_before ts rest)

pub items_before-no_items : (ts : List Tree) → items_before ts no_items ≡ tree_items ts
items_before-no_items [] = refl
items_before-no_items (t ∷ ts) = ap (item (tree_view t)) (items_before-no_items ts)

items_push : (ts : List Tree) (t : Tree) (rest : Items) → items_before ts (item (tree_view t) rest) ≡ items_before (ts ++ t ∷ []) rest
items_push [] t rest = refl
items_push (u ∷ ts) t rest = ap (item (tree_view u)) (items_push ts t rest)

pub one_more_item : (ts : List Tree) (t : Tree) (r : Option (Items × List Token)) →
    parse_map (items_before ts) (parse_map (item (tree_view t)) r) ≡ parse_map (items_before (ts ++ t ∷ [])) r
one_more_item ts t None = refl
one_more_item ts t (Some p) = ap (λ ds. Some (ds, p.1)) (items_push ts t p.0)

pub none_before : (r : Option (Items × List Token)) → r ≡ parse_map (items_before []) r
none_before None = refl
none_before (Some p) = refl

-- ---- members that are put among others

pub ordered-put : (k : List ℕ) (d : Data) (ms : Members) → IsOrdered d → MembersAreOrdered ms → MembersAreOrdered (put k d ms)
ordered-put k d no_members o h = (o, tt)
ordered-put k d (member l e ms) o h =
    by-order MembersAreOrdered (slice_cmp nat_cmp k l) (member k d (member l e ms)) (member l d ms)
    (member l e (put k d ms)) (o, h) (o, h.1) (h.0, ordered-put k d ms o h.1)

pub ruleset items_read = (none_before, items_before-no_items)
