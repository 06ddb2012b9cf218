use Rattle.std.proofs.Common.{◌≡◌, ◌+◌, [], ◌∷◌, take, take_all, drop, map, string_bytes, sym, ap, ◌∙◌, subst, refl, arith, rules}
use Rattle.std.specs.BTreeMap.{IsFromIterResult}
use Rattle.std.specs.String.{string_cmp}
use Rattle.std.proofs.lemmas.Grind.{common_steps}
use Rattle.std.proofs.lemmas.List.{drop_all, map-append}
use Rattle.fp_base.specs.Ordered.{MembersAreOrdered}
use Rattle.fp_base.specs.TreeView.{tree_view, tree_members}
use Rattle.fp_base.proofs.Turns.{drop-here, take-here}
use Rattle.fp_operators.specs.Data.{put}
use Rattle.fp_operators.specs.View.{view, items_of, members_view}
use Rattle.fp_operators.specs.FromJson.{data_of}
use Rattle.fp_operators.proofs.Views.{Entry, IsFilledTo, seen_entry, read_entry, collected, filled-none, filled-more}
use Rattle.fp_operators.proofs.Views.{filled-whole, members_view-insert_entry, items_from-tree_items}
use Rattle.fp_operators.proofs.datum.+from_tree.Goals as goal

pub from_items-returns : goal.from_items-returns
from_items-returns t c =
    let all : map view c.loop-item.found.items ≡ map (λ v. data_of (tree_view v)) c.args.items.now = grind (arith, common_steps) in
    ap items_of all ∙ items_from-tree_items c.args.items.now

pub from_few-loop-member-init : goal.from_few-loop-member-init
from_few-loop-member-init t c =
    rw (c.new-found.ensures.empty)
    (filled-none (tree_members c.args.members.now) c.requires.sorted, c.requires.ordered)

pub from_few-loop-member-preserved : goal.from_few-loop-member-preserved
from_few-loop-member-preserved t c =
    let xs = c.args.members.now in
    let i = c.loop-member.member-index in
    let m = c.member-item.result in
    let here : drop i xs ≡ m ∷ drop (i + 1) xs = drop-here xs i m (omega arith) c.member-item.is in
    let left = tree_members (drop (i + 1) xs) in
    let found = c.loop-member.found.entries in
    let put_in : members_view c.insert.new.self.entries ≡ put m.0.now (data_of (tree_view m.1)) (members_view found) =
    ap members_view c.in_ok-insert.ensures.entries ∙
    members_view-insert_entry found c.in_ok-name.name c.in_ok-from_tree.field-0 ∙
    rw (c.in_ok-name.ensures.ok, c.in_ok-from_tree.ensures) refl in (
      subst (λ ms. IsFilledTo ms left (tree_members xs)) (sym put_in)
          (filled-more (members_view found) m.0.now (tree_view m.1) left (tree_members xs)
          (subst (λ ys. IsFilledTo (members_view found) (tree_members ys) (tree_members xs)) here c.loop-member.invariant.0)),
      (subst (λ ys. MembersAreOrdered (tree_members ys)) here c.loop-member.invariant.1).1,
    )

pub from_few-returns : goal.from_few-returns
from_few-returns t c =
    let xs = c.args.members.now in
    let none : drop c.loop-member.member-index xs ≡ [] = drop_all c.loop-member.member-index xs (omega arith) in
    filled-whole (members_view c.loop-member.found.entries) (tree_members xs)
    (subst (λ ys. IsFilledTo (members_view c.loop-member.found.entries) (tree_members ys) (tree_members xs)) none c.loop-member.invariant.0)

pub from_many-loop-member-preserved : goal.from_many-loop-member-preserved
from_many-loop-member-preserved t c =
    let l = c.loop-member in
    let xs = c.args.members.now in
    let i = l.member-index in
    let m = c.member-item.result in
    let e : Entry = (c.in_ok-name.name, c.in_ok-from_tree.field-0) in
    let here : drop i xs ≡ m ∷ drop (i + 1) xs = drop-here xs i m (omega arith) c.member-item.is in
    let named : string_bytes e.0 ≡ m.0.now = c.in_ok-name.ensures.ok in
    let one : seen_entry e ≡ read_entry m = rw (named, c.in_ok-from_tree.ensures) refl in (
      ap (map seen_entry) c.in_ok-push.ensures.items ∙ map-append seen_entry l.found.items (e ∷ [])
          ∙ rw (l.invariant.0, one) (sym (map-append read_entry (take i xs) (m ∷ [])))
          ∙ ap (map read_entry) (sym (take-here xs i m (omega arith) c.member-item.is)),
      (subst (λ ys. MembersAreOrdered (tree_members ys)) here l.invariant.1).1,
    )

pub from_many-returns : goal.from_many-returns
from_many-returns t c =
    let ms = c.args.members.now in
    let xs = c.loop-member.found.items in
    let n = c.in_ok-collect.field-0 in
    let made : IsFromIterResult string_cmp xs n = search rules in
    let all : map seen_entry xs ≡ map read_entry ms =
    c.loop-member.invariant.0 ∙ ap (map read_entry) (take_all c.loop-member.member-index ms (omega arith)) in
    collected xs ms n made all c.requires.sorted
