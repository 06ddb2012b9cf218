use Rattle.std.proofs.Common.{◌≡◌, ◌-◌, ◌++◌, ℕ, List, Some, codes, true, false, option_map, refl, sym, ap, subst, ◌∙◌, rules}
use Rattle.std.proofs.lemmas.Bool.{and_parts}
use Rattle.std.proofs.lemmas.Slice.Eq.{bytes_eq-Decides}
use Rattle.std.specs.Prelude.{◌&&◌, is_some, not}
use Rattle.std.specs.Str.{bytes_eq}
use Rattle.serde_json.specs.Written.{compact_text}
use Rattle.fp_base.specs.TreeView.{tree_view}
use Rattle.fp_canonical.specs.Reads.{Reads}
use Rattle.fp_definition.specs.Beside.{in_place, targeting_in}
use Rattle.fp_definition.specs.Numbers.{DEEPEST_DEFINITION}
use Rattle.fp_definition.specs.Spelled.{AreIn}
use Rattle.fp_definition.specs.declared.spelling.Place.{Place}
use Rattle.fp_definition.proofs.Beside.{in_place-other}
use Rattle.fp_definition.proofs.Passed.{past, passed_len}
use Rattle.fp_definition.proofs.Spelled.{at_new, is_noted, none_noted, noted_places, noted_variants}
use Rattle.fp_definition.proofs.reading.read_member.Goals as goal

-- the variants are no `targeting`
other_name : (name : List ℕ) → bytes_eq name (codes "variants") ≡ true → bytes_eq name (codes "targeting") ≡ false
other_name name is = ap (λ n. bytes_eq n (codes "targeting")) ((bytes_eq-Decides name (codes "variants")).0 is)

pub returns-then-is_first-clause-read : goal.returns-then-is_first-clause-read
returns-then-is_first-clause-read c =
    let name = c.args.name.now in
    let is = (and_parts (bytes_eq name (codes "variants")) c.is_none.result (sym c.is_first.ensures ∙ c.if-is_first.true)).0 in
    subst (λ d. Reads (DEEPEST_DEFINITION - 1) d c.args.cursor.now c.read_variants.new.cursor)
    (sym (in_place-other (targeting_in c.args.noted.now.other) name (tree_view c.in_ok-value.value) (other_name name is)))
    c.in_ok-value.ensures.read

pub returns-then-is_first-clause-noted : goal.returns-then-is_first-clause-noted
returns-then-is_first-clause-noted c = λ passed len left all h.
    let name = c.args.name.now in let old = c.args.noted.now in
    let e = tree_view c.in_ok-value.value in
    let new : c.is_none.result ≡ not (is_some old.variants) = search rules in
    let both = and_parts (bytes_eq name (codes "variants")) c.is_none.result (sym c.is_first.ensures ∙ c.if-is_first.true) in
    let d = in_place (targeting_in old.other) name e in
    let same : d ≡ e = in_place-other (targeting_in old.other) name e (other_name name both.0) in
    let vs = c.in_ok-value.variants.items in
    noted_variants passed (compact_text d) (option_map (λ v. v.items) old.variants) old.places name d left all
    vs both.0 (none_noted old.variants (sym new ∙ both.1))
    (subst (λ x. AreIn (passed ++ compact_text x) vs (Some x)) (sym same) (c.in_ok-value.ensures.noted passed len)) h

pub returns-clause-noted : goal.returns-clause-noted
returns-clause-noted c = λ passed len left all h.
    let name = c.args.name.now in let old = c.args.noted.now in
    let d = in_place (targeting_in c.read_or_pass.new.told) name (tree_view c.in_ok-value-2.value) in
    let new : c.is_none.result ≡ not (is_some old.variants) = search rules in
    let p : Place = record { start = c.args.len - c.left.result; end = c.args.len - c.left-2.result } in
    let one = c.args.cursor.now in let two = c.read_or_pass.new.cursor in
    let behind = past (passed ++ one) passed one (compact_text d) two refl c.in_ok-value-2.ensures.read.spelled in
    let there = at_new passed (passed ++ compact_text d) (compact_text d) p refl
    (passed_len (passed ++ one) passed one c.args.len c.left.result len refl c.left.ensures)
    (passed_len (passed ++ one) (passed ++ compact_text d) two c.args.len c.left-2.result len behind c.left-2.ensures) in
    noted_places passed (compact_text d) (option_map (λ v. v.items) old.variants) old.places name d left all c.note.new.self p
    (is_noted name (codes "variants") old.variants
    (ap (λ b. bytes_eq name (codes "variants") && b) (sym new) ∙ sym c.is_first.ensures ∙ c.if-is_first.false))
    c.note.ensures.metadata c.note.ensures.targeting there.0 there.1 h
