use Rattle.std.proofs.Common.{◌≡◌, ◌+◌, ◌∷◌, ◌++◌, [], drop, length, sym, ap, subst, ◌∙◌, true, arith, rules}
use Rattle.std.proofs.lemmas.Bool.{and_parts}
use Rattle.std.proofs.lemmas.List.{drop_all}
use Rattle.json.specs.Print.{quoted}
use Rattle.serde_json.specs.Data.{no_members}
use Rattle.serde_json.specs.Written.{comma_if, compact_text, members_text}
use Rattle.fp_base.specs.Printed.{AreMembersPrinted}
use Rattle.fp_base.specs.TreeView.{Entry, tree_view, tree_members}
use Rattle.fp_base.specs.Whole.{is_whole, members_whole}
use Rattle.fp_base.proofs.Printed.{behind_name, brace_before, member_printed, no_members_printed}
use Rattle.fp_base.proofs.Turns.{drop-here}
use Rattle.fp_definition.specs.Spelled.{AreWithin, spelled, texts}
use Rattle.fp_definition.specs.declared.spelling.Variant.{Variant}
use Rattle.fp_definition.proofs.Spelled.{all_more, at_new, noted_spelled, noted_within, spelled_more}
use Rattle.fp_definition.proofs.spelling.put_noting.Goals as goal

pub loop-member-preserved : goal.loop-member-preserved
loop-member-preserved c =
    let xs = c.args.members.now in
    let i = c.loop-member.member-index in
    let m : Entry = c.member-item.result in
    let l = c.loop-member in
    let rest = tree_members (drop (i + 1) xs) in
    let here = ap tree_members (drop-here xs i m (omega arith) c.member-item.is) in
    let v : Variant = record { name = c.in_ok-name.name; value = record { start = c.len-start.result; end = c.len-end.result } } in
    let name = comma_if l.later ++ (quoted m.0.now ++ 58 ∷ []) in
    let bytes = compact_text (tree_view m.1) in
    let new = c.put_text.new.out.items in
    let grown = c.in_ok-put_text.ensures.text ∙ ap (λ ys. ys ++ bytes) c.in_ok-put_name.ensures.text in
    let start : v.value.start ≡ length c.put_name.new.out.items = omega (arith, c.len-start.ensures, c.put_name.new.out.ok) in
    let end : v.value.end ≡ length new = omega (arith, c.len-end.ensures, c.put_text.new.out.ok) in
    let there = at_new c.put_name.new.out.items new bytes v.value c.in_ok-put_text.ensures.text start end in
    let named : v.name.bytes ≡ m.0.now = search rules in
    let pushed = c.in_ok-push-2.ensures.items in (
      (and_parts (is_whole (tree_view m.1)) (members_whole rest) (ap members_whole (sym here) ∙ l.invariant.0)).1,
      behind_name l.text.items _ new (comma_if l.later) (quoted m.0.now) bytes (members_text true rest)
          c.in_ok-put_name.ensures.text c.in_ok-put_text.ensures.text
          ∙ ap (λ ds. l.text.items ++ members_text l.later ds) (sym here) ∙ l.invariant.1,
      λ h. l.invariant.2 (subst (AreMembersPrinted l.later) (sym here)
          (member_printed l.later m.0.now (tree_view m.1) rest c.in_ok-put_name.ensures.utf8
          c.in_ok-put_text.ensures.printed h)),
      ap (λ vs. spelled new vs (texts rest)) pushed
          ∙ noted_spelled l.text.items name new bytes l.variants.items v m.0.now (texts rest) grown l.invariant.4 named there.0
          ∙ ap (λ ms. spelled l.text.items l.variants.items (texts ms)) (sym here) ∙ l.invariant.3,
      subst (AreWithin new) (sym pushed)
          (noted_within l.text.items name new bytes l.variants.items v m.0.now (texts rest) grown l.invariant.4
          there.1),
    )

pub returns-clause-printed : goal.returns-clause-printed
returns-clause-printed c =
    let l = c.loop-member in
    let none = drop_all l.member-index c.args.members.now (omega arith) in
    let all = l.invariant.2 (subst (λ xs. AreMembersPrinted l.later (tree_members xs)) (sym none) (no_members_printed l.later)) in
    (brace_before _ all.0, all.1)

pub returns-clause-noted : goal.returns-clause-noted
returns-clause-noted c =
    let l = c.loop-member in
    let none = drop_all l.member-index c.args.members.now (omega arith) in
    let grown = c.in_ok-push-3.ensures.items in record {
      spelled =
          ap (λ xs. spelled xs l.variants.items no_members) grown ∙
          spelled_more l.text.items (125 ∷ []) l.variants.items no_members l.invariant.4
          ∙ ap (λ xs. spelled l.text.items l.variants.items (texts (tree_members xs))) (sym none) ∙ l.invariant.3;
      within = subst (λ xs. AreWithin xs l.variants.items) (sym grown) (all_more l.text.items (125 ∷ []) l.variants.items l.invariant.4);
    }
