use Rattle.std.proofs.Common.{◌+◌, ◌++◌, drop, sym, ap, subst, ◌∙◌, true, false, arith}
use Rattle.std.proofs.lemmas.Bool.{and_parts}
use Rattle.std.proofs.lemmas.List.{drop_all}
use Rattle.json.specs.Print.{quoted}
use Rattle.serde_json.specs.Written.{comma_if, compact_text, items_text, members_text}
use Rattle.fp_base.specs.Printed.{AreItemsPrinted, AreMembersPrinted}
use Rattle.fp_base.specs.TreeView.{Entry, tree_view, tree_items, tree_members}
use Rattle.fp_base.specs.Whole.{is_whole, items_whole, members_whole}
use Rattle.fp_base.specs.declared.tree.Tree.{Tree}
use Rattle.fp_base.proofs.Printed.{behind_comma, behind_name, brace_before, bracket_before, item_printed}
use Rattle.fp_base.proofs.Printed.{member_printed, no_items_printed, no_members_printed}
use Rattle.fp_base.proofs.Turns.{drop-here}
use Rattle.fp_base.proofs.writing.+puts.Goals as goal

pub put_items-loop-item-preserved : goal.put_items-loop-item-preserved
put_items-loop-item-preserved t c =
    let xs = c.args.items.now in
    let i = c.loop-item.item-index in
    let x : Tree = c.item-item.result in
    let l = c.loop-item in
    let rest = tree_items (drop (i + 1) xs) in
    let here = ap tree_items (drop-here xs i x (omega arith) c.item-item.is) in (
      (and_parts (is_whole (tree_view x)) (items_whole rest) (ap items_whole (sym here) ∙ l.invariant.0)).1,
      behind_comma l.out.items _ _ (comma_if l.later) (compact_text (tree_view x)) (items_text true rest)
          c.in_ok-put_comma.ensures c.in_ok-put_tree.ensures.text
          ∙ ap (λ ds. l.out.items ++ items_text l.later ds) (sym here) ∙ l.invariant.1,
      λ h. l.invariant.2 (subst (AreItemsPrinted l.later) (sym here)
          (item_printed l.later (tree_view x) rest c.in_ok-put_tree.ensures.printed h)),
    )

pub put_items-returns-clause-printed : goal.put_items-returns-clause-printed
put_items-returns-clause-printed t c =
    let l = c.loop-item in
    let none = drop_all l.item-index c.args.items.now (omega arith) in
    let all : AreItemsPrinted false (tree_items c.args.items.now) =
    l.invariant.2 (subst (λ xs. AreItemsPrinted l.later (tree_items xs)) (sym none) (no_items_printed l.later)) in
    (bracket_before _ all.0, all.1)

pub put_members-loop-member-preserved : goal.put_members-loop-member-preserved
put_members-loop-member-preserved t c =
    let xs = c.args.members.now in
    let i = c.loop-member.member-index in
    let m : Entry = c.member-item.result in
    let l = c.loop-member in
    let rest = tree_members (drop (i + 1) xs) in
    let here = ap tree_members (drop-here xs i m (omega arith) c.member-item.is) in (
      (and_parts (is_whole (tree_view m.1)) (members_whole rest) (ap members_whole (sym here) ∙ l.invariant.0)).1,
      behind_name l.out.items _ _ (comma_if l.later) (quoted m.0.now) (compact_text (tree_view m.1))
          (members_text true rest) c.in_ok-put_name.ensures.text c.in_ok-put_tree.ensures.text
          ∙ ap (λ ds. l.out.items ++ members_text l.later ds) (sym here) ∙ l.invariant.1,
      λ h. l.invariant.2 (subst (AreMembersPrinted l.later) (sym here)
          (member_printed l.later m.0.now (tree_view m.1) rest c.in_ok-put_name.ensures.utf8
          c.in_ok-put_tree.ensures.printed h)),
    )

pub put_members-returns-clause-printed : goal.put_members-returns-clause-printed
put_members-returns-clause-printed t c =
    let l = c.loop-member in
    let none = drop_all l.member-index c.args.members.now (omega arith) in
    let all : AreMembersPrinted false (tree_members c.args.members.now) =
    l.invariant.2 (subst (λ xs. AreMembersPrinted l.later (tree_members xs)) (sym none) (no_members_printed l.later)) in
    (brace_before _ all.0, all.1)
