use Rattle.std.proofs.Common.{◌≡◌, List, Some, None, codes, map, sym, ap, ap₂, subst, ◌∙◌}
use Rattle.std.specs.Borrow.{Bor}
use Rattle.serde_json.specs.Data.{no_members, object}
use Rattle.serde_json.specs.Find.{get_member}
use Rattle.fp_base.specs.Answer.{Gives}
use Rattle.fp_base.specs.Ordered.{IsOrdered}
use Rattle.fp_base.specs.TreeView.{Entry, tree_view, tree_members}
use Rattle.fp_imports.specs.Document.{document, evaluators_in, flags_in, flags_of, flags_of_parts}
use Rattle.fp_imports.specs.Faults.{Tells, seen_flag}
use Rattle.fp_base.proofs.Inside.{ordered_get}
use Rattle.fp_base.proofs.Views.{view-Object}
use Rattle.fp_imports.proofs.document.expand_tree.Goals as goal

pub flags_of-requires-clause-flags : goal.flags_of-requires-clause-flags
flags_of-requires-clause-flags c =
    let v = c.in-Object.members in
    let found = c.in-Some-Object in
    let ordered = subst IsOrdered (ap tree_view c.in-Object.is ∙ view-Object v) c.requires in
    let seen = ap tree_view found.field-0-is ∙ view-Object found.flags in
    subst (λ w. IsOrdered (object (tree_members w.now))) (sym found.flags-is)
    (subst IsOrdered seen
    (ordered_get (codes "flags") (object (tree_members v.now)) (tree_view found.field-0.now) ordered (sym found.ensures)))

pub flags_of-requires-in-Some-Object-member_in_order-clause-evaluators :
    goal.flags_of-requires-in-Some-Object-member_in_order-clause-evaluators
flags_of-requires-in-Some-Object-member_in_order-clause-evaluators c =
    let v = c.in-Object.members in
    let found = c.in-Some-Object-member_in_order in
    let ordered = subst IsOrdered (ap tree_view c.in-Object.is ∙ view-Object v) c.requires in
    let seen = ap tree_view found.field-0-is ∙ view-Object found.evaluators in
    subst (λ w. IsOrdered (object (tree_members w.now))) (sym found.evaluators-is)
    (subst IsOrdered seen (ordered_get (codes "$evaluators") (object (tree_members v.now)) (tree_view found.field-0.now) ordered
    (sym found.ensures)))

pub flags_of-requires-in-Some-Object-member_in_order-clause-flags :
    goal.flags_of-requires-in-Some-Object-member_in_order-clause-flags
flags_of-requires-in-Some-Object-member_in_order-clause-flags c =
    let v = c.in-Object.members in
    let found = c.in-Some-Object in
    let ordered = subst IsOrdered (ap tree_view c.in-Object.is ∙ view-Object v) c.requires in
    let seen = ap tree_view found.field-0-is ∙ view-Object found.flags in
    subst (λ w. IsOrdered (object (tree_members w.now))) (sym found.flags-is)
    (subst IsOrdered seen
    (ordered_get (codes "flags") (object (tree_members v.now)) (tree_view found.field-0.now) ordered (sym found.ensures)))

pub returns-in-None-clause-flags : goal.returns-in-None-clause-flags
returns-in-None-clause-flags c =
    let v = c.in-Object.members in
    let found = c.in-Some-Object in
    let shape : tree_view c.args.document.now ≡ object (tree_members v.now) = ap tree_view c.in-Object.is ∙ view-Object v in
    let seen : tree_view found.field-0.now ≡ object (tree_members found.flags.now) =
    ap tree_view found.field-0-is ∙ view-Object found.flags in
    let none : get_member (codes "$evaluators") (tree_members v.now) ≡ None = sym c.in-None.ensures in
    subst (Gives (λ w. map seen_flag w.items) Tells c.flags_of.result)
    (sym (ap document shape ∙ ap₂ flags_of_parts (ap evaluators_in none) (ap flags_in (sym found.ensures ∙ ap Some seen))))
    (subst (λ w. Gives (λ vs. map seen_flag vs.items) Tells c.flags_of.result (flags_of no_members (tree_members w.now)))
    found.flags-is c.flags_of.ensures.flags)

pub returns-in-Some-Object-member_in_order-clause-flags :
    goal.returns-in-Some-Object-member_in_order-clause-flags
returns-in-Some-Object-member_in_order-clause-flags c =
    let v = c.in-Object.members in
    let found = c.in-Some-Object in
    let others = c.in-Some-Object-member_in_order in
    let shape : tree_view c.args.document.now ≡ object (tree_members v.now) = ap tree_view c.in-Object.is ∙ view-Object v in
    let seen : tree_view found.field-0.now ≡ object (tree_members found.flags.now) =
    ap tree_view found.field-0-is ∙ view-Object found.flags in
    let named : tree_view others.field-0.now ≡ object (tree_members others.evaluators.now) =
    ap tree_view others.field-0-is ∙ view-Object others.evaluators in
    let result = c.flags_of-in-Some-Object-member_in_order.result in
    subst (Gives (λ w. map seen_flag w.items) Tells result)
    (sym (ap document shape ∙ ap₂ flags_of_parts (ap evaluators_in (sym others.ensures ∙ ap Some named))
    (ap flags_in (sym found.ensures ∙ ap Some seen))))
    (subst (λ (w : Bor (List Entry) × Bor (List Entry)).
    Gives (λ vs. map seen_flag vs.items) Tells result (flags_of (tree_members w.0.now) (tree_members w.1.now)))
    (ap₂ (λ x y. (x, y)) others.evaluators-is found.flags-is) c.flags_of-in-Some-Object-member_in_order.ensures.flags)
