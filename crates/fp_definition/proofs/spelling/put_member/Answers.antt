use Rattle.std.proofs.Common.{◌≡◌, Some, codes, length, option_map, sym, ap, subst, ◌∙◌, arith, rules}
use Rattle.std.proofs.lemmas.Bool.{and_parts}
use Rattle.std.specs.Prelude.{◌&&◌, is_some, not}
use Rattle.std.specs.Str.{bytes_eq}
use Rattle.serde_json.specs.Written.{compact_text}
use Rattle.fp_base.specs.TreeView.{tree_view}
use Rattle.fp_definition.specs.Spelled.{at, AreIn, AreNoted, IsWithin}
use Rattle.fp_definition.specs.declared.spelling.Place.{Place}
use Rattle.fp_definition.proofs.Spelled.{at_new, is_noted, none_noted, noted_places, noted_variants}
use Rattle.fp_definition.proofs.spelling.put_member.Goals as goal

pub returns-then-is_first-clause-noted : goal.returns-then-is_first-clause-noted
returns-then-is_first-clause-noted c = λ left all h.
    let name = c.args.name.now in let d = tree_view c.args.value.now in let old = c.args.spelled.now in
    let vs = c.in_ok-variants.variants.items in
    let new : c.is_none.result ≡ not (is_some old.variants) = search rules in
    let both = and_parts (bytes_eq name (codes "variants")) c.is_none.result (sym c.is_first.ensures ∙ c.if-is_first.true) in
    let text = c.in_ok-variants.ensures.text in
    subst (λ xs. AreNoted xs (Some vs) old.places left all) (sym text)
    (noted_variants old.text.items (compact_text d) (option_map (λ v. v.items) old.variants) old.places name d left all vs
    both.0 (none_noted old.variants (sym new ∙ both.1)) (subst (λ xs. AreIn xs vs (Some d)) text c.in_ok-variants.ensures.noted) h)

pub returns-clause-noted : goal.returns-clause-noted
returns-clause-noted c = λ left all h.
    let name = c.args.name.now in let d = tree_view c.args.value.now in let old = c.args.spelled.now in
    let vs = option_map (λ v. v.items) old.variants in
    let new : c.is_none.result ≡ not (is_some old.variants) = search rules in
    let p : Place = record { start = c.len-start.result; end = c.len-end.result } in
    let text = c.in_ok-put_text.ensures.text in
    let start : p.start ≡ length old.text.items = omega (arith, c.len-start.ensures, old.text.ok) in
    let end : p.end ≡ length c.put_text.new.out.items = omega (arith, c.len-end.ensures, c.put_text.new.out.ok) in
    let there = at_new old.text.items _ (compact_text d) p text start end in
    subst (λ xs. AreNoted xs vs c.note.new.self left all) (sym text)
    (noted_places old.text.items (compact_text d) vs old.places name d left all c.note.new.self p
    (is_noted name (codes "variants") old.variants
    (ap (λ b. bytes_eq name (codes "variants") && b) (sym new) ∙ sym c.is_first.ensures ∙ c.if-is_first.false))
    c.note.ensures.metadata c.note.ensures.targeting (subst (λ xs. at xs p ≡ compact_text d) text there.0)
    (subst (λ xs. IsWithin xs p) text there.1) h)
