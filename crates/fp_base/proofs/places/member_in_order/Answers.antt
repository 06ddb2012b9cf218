use Rattle.std.proofs.Common.{◌≡◌, ◌+◌, ◌<◌, ◌∷◌, ◌++◌, drop, take, length, get_or, true, bytes_eq, sym, ap, subst, ◌∙◌}
use Rattle.std.proofs.lemmas.List.{drop_more, take-append-drop}
use Rattle.serde_json.specs.Find.{get_member}
use Rattle.fp_base.specs.Places.{first_is_named}
use Rattle.fp_base.specs.Sorted.{IsSorted}
use Rattle.fp_base.specs.TreeView.{Entry, tree_view, tree_members}
use Rattle.fp_base.proofs.Halves.{get-behind, get-none, named-within, sorted-behind}
use Rattle.fp_base.proofs.Named.{found-here}
use Rattle.fp_base.proofs.places.member_in_order.Goals as goal

pub returns-then-is_named : goal.returns-then-is_named
returns-then-is_named c =
    let ms = c.args.members.now in
    let at = c.place_of-at.result in
    let name = c.args.name.now in
    let m : Entry = get_or ms at c.index-members-at.result in
    let within : at < length ms = named-within name ms at (sym c.is_named.ensures ∙ c.if-is_named.true) in
    let here : drop at ms ≡ m ∷ drop (at + 1) ms = drop_more ms at c.index-members-at.result within in
    let named : bytes_eq m.0.now name ≡ true = ap (first_is_named name) (sym here) ∙ sym c.is_named.ensures ∙ c.if-is_named.true in
    sym (found-here name m.0.now (tree_view m.1) (tree_members (drop (at + 1) ms)) named)
    ∙ ap (λ ys. get_member name (tree_members ys)) (sym here)
    ∙ sym (get-behind name (take at ms) (drop at ms) c.place_of-at.ensures.before)
    ∙ ap (λ ys. get_member name (tree_members ys)) (take-append-drop at ms)

pub returns-else-is_named : goal.returns-else-is_named
returns-else-is_named c =
    let ms = c.args.members.now in
    let at = c.place_of-at.result in
    let name = c.args.name.now in
    let all : take at ms ++ drop at ms ≡ ms = take-append-drop at ms in
    let sorted = sorted-behind (take at ms) (drop at ms) (subst (λ ys. IsSorted (tree_members ys)) (sym all) c.requires) in
    sym (get-none name (drop at ms) sorted c.place_of-at.ensures.behind (sym c.is_named.ensures ∙ c.if-is_named.false))
    ∙ sym (get-behind name (take at ms) (drop at ms) c.place_of-at.ensures.before)
    ∙ ap (λ ys. get_member name (tree_members ys)) all
