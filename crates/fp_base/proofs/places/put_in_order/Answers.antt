use Rattle.std.proofs.Common.{◌≡◌, ◌+◌, ◌<◌, ◌∷◌, drop, take, length, true, false, sym, ap, subst, ◌∙◌}
use Rattle.std.proofs.lemmas.List.{take-append-drop}
use Rattle.std.proofs.lemmas.Slice.Eq.{bytes_eq-Decides}
use Rattle.serde_json.specs.Data.{put}
use Rattle.fp_base.specs.Places.{AreBefore, IsNotBefore, first_is_named}
use Rattle.fp_base.specs.TreeView.{Entry, tree_view, tree_members}
use Rattle.fp_base.proofs.Halves.{named-within, put-behind, put-first, put-there}
use Rattle.fp_base.proofs.Turns.{drop-here, set-here}
use Rattle.fp_base.proofs.places.put_in_order.Goals as goal

pub returns-then-is_named : goal.returns-then-is_named
returns-then-is_named c =
    let ms = c.args.members.now.items in
    let at = c.place_of-at.result in
    let name = c.args.name.now in
    let t = c.args.tree in
    let m : Entry = c.index_mut.result.now in
    let lent = c.deref.ensures.value in
    let before : AreBefore name (take at ms) = subst (λ ys. AreBefore name (take at ys)) lent c.place_of-at.ensures.before in
    let is : first_is_named name (drop at ms) ≡ true =
    ap (λ ys. first_is_named name (drop at ys)) (sym c.deref-2.ensures.value) ∙ sym c.is_named.ensures ∙
    c.if-is_named.true in
    let within : at < length ms = named-within name ms at is in
    let here : drop at ms ≡ m ∷ drop (at + 1) ms = drop-here ms at m within c.index_mut.ensures.value in
    let named : m.0.now ≡ name = (bytes_eq-Decides m.0.now name).0 (ap (first_is_named name) (sym here) ∙ is) in
    ap tree_members (set-here ms at (m.0, t) within)
    ∙ sym (put-behind name (tree_view t) (take at ms) (drop at ms) ((m.0, t) ∷ drop (at + 1) ms) before
    (ap (λ ys. put name (tree_view t) (tree_members ys)) here ∙ put-there m t name (drop (at + 1) ms) named))
    ∙ ap (λ ys. put name (tree_view t) (tree_members ys)) (take-append-drop at ms)

pub returns-in_ok-insert : goal.returns-in_ok-insert
returns-in_ok-insert c =
    let ms = c.args.members.now.items in
    let at = c.place_of-at.result in
    let name = c.args.name.now in
    let m : Entry = (c.args.name, c.args.tree) in
    let lent = c.deref.ensures.value in
    let before : AreBefore name (take at ms) = subst (λ ys. AreBefore name (take at ys)) lent c.place_of-at.ensures.before in
    let behind : IsNotBefore name (drop at ms) = subst (λ ys. IsNotBefore name (drop at ys)) lent c.place_of-at.ensures.behind in
    let other : first_is_named name (drop at ms) ≡ false =
    ap (λ ys. first_is_named name (drop at ys)) (sym c.deref-2.ensures.value) ∙ sym c.is_named.ensures ∙
    c.if-is_named.false in
    ap tree_members c.in_ok-insert.ensures.items
    ∙ sym (put-behind name (tree_view m.1) (take at ms) (drop at ms) (m ∷ drop at ms) before (put-first m (drop at ms) behind other))
    ∙ ap (λ ys. put name (tree_view m.1) (tree_members ys)) (take-append-drop at ms)
