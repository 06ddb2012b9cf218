use Rattle.std.proofs.Common.{◌≡◌, [], ◌∷◌, ◌++◌, map, take, sym, ap, subst, ◌∙◌, arith, rules, append_assoc}
use Rattle.std.proofs.lemmas.List.{map-append}
use Rattle.serde_json.specs.View.{view, members_view}
use Rattle.serde_json.proofs.Views as values
use Rattle.fp_base.specs.Ordered.{AreOrdered, MembersAreOrdered}
use Rattle.fp_base.specs.Sorted.{IsSorted}
use Rattle.fp_base.specs.TreeView.{Entry, tree_view, tree_items, tree_members}
use Rattle.fp_base.proofs.Entries.{items_ordered-more, members_ordered-more, same-more, sorted-keys}
use Rattle.fp_base.proofs.Turns.{take-here}
use Rattle.fp_base.proofs.values.+lends.Goals as goal

pub lent_items-loop-item-preserved : goal.lent_items-loop-item-preserved
lent_items-loop-item-preserved t c =
    let xs = c.deref-item-items.result.now in
    let i = c.loop-item.item-index in
    let t = c.in_ok-lent.field-0 in
    let pushed = c.in_ok-push.ensures.items in (
      ap (map tree_view) pushed ∙ map-append tree_view c.loop-item.found.items (t ∷ [])
          ∙ rw (c.loop-item.invariant.0, c.in_ok-lent.ensures.same) (sym (map-append view (take i xs) (c.item-item.result ∷ [])))
          ∙ ap (map view) (sym (take-here xs i c.item-item.result (omega arith) c.item-item.is)),
      subst (λ ts. AreOrdered (tree_items ts)) (sym pushed)
          (items_ordered-more c.loop-item.found.items t c.loop-item.invariant.1 c.in_ok-lent.ensures.ordered),
    )

pub lent_members-loop-name-preserved : goal.lent_members-loop-name-preserved
lent_members-loop-name-preserved t c =
    let l = c.loop-name in
    let done = l.invariant.0 in
    let e : values.Entry = (c.in-Some.name.now, c.in-Some.member.now) in
    let left = c.next.new.self in
    let m : Entry = (c.as_str.result, c.in_ok-lent.field-0) in
    let all : c.args.members.now.entries ≡ done ++ e ∷ left = l.invariant.1 ∙ ap (λ es. done ++ es) c.in-Some.ensures.steps in
    let pushed = c.in_ok-push.ensures.items in (
      done ++ e ∷ [],
      all ∙ sym (append_assoc done (e ∷ []) left),
      ap tree_members pushed ∙ same-more l.found.items m done e l.invariant.2 c.as_str.ensures.value c.in_ok-lent.ensures.same,
      subst (λ ms. MembersAreOrdered (tree_members ms)) (sym pushed)
          (members_ordered-more l.found.items m l.invariant.3 c.in_ok-lent.ensures.ordered),
    )

pub lent_members-returns-clause-sorted : goal.lent_members-returns-clause-sorted
lent_members-returns-clause-sorted t c =
    let all : tree_members c.loop-name.found.items ≡ members_view c.args.members.now.entries = search rules in
    subst (λ ms. IsSorted (tree_members ms)) (sym c.into_bump_slice.ensures)
    (subst IsSorted (sym all) (sorted-keys c.args.members.now.entries c.iter-name-items.ensures.ordered))
