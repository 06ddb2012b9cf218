use Rattle.std.proofs.Common.{◌≡◌, ◌+◌, ◌∷◌, drop, sym, ap, subst, ◌∙◌, arith}
use Rattle.std.specs.Str.{bytes_eq}
use Rattle.serde_json.specs.Data.{no_members, string}
use Rattle.serde_json.specs.Find.{get_member}
use Rattle.fp_base.proofs.Named.{found-here, found-later}
use Rattle.fp_base.proofs.Turns.{drop-here}
use Rattle.fp_definition.specs.Spelled.{at, spelled, AreWithin}
use Rattle.fp_definition.specs.declared.spelling.Variant.{Variant}
use Rattle.fp_definition.proofs.variants.variant_among.Goals as goal

pub returns-then-is_same-clause-value : goal.returns-then-is_same-clause-value
returns-then-is_same-clause-value c =
    let xs = c.args.variants.now in
    let i = c.loop-variant.variant-index in
    let m : Variant = c.variant-item.result in
    let name = c.args.name.now in
    let text = c.args.text.now in
    let here : drop i xs ≡ m ∷ drop (i + 1) xs = drop-here xs i m (omega arith) c.variant-item.is in
    sym (found-here name m.name.bytes (string (at text m.value)) (spelled text (drop (i + 1) xs) no_members)
    (ap (λ n. bytes_eq n name) (sym c.as_str.ensures) ∙ sym c.is_same.ensures ∙ c.if-is_same.true))
    ∙ ap (λ ys. get_member name (spelled text ys no_members)) (sym here)
    ∙ c.loop-variant.invariant.0

pub returns-then-is_same-clause-within : goal.returns-then-is_same-clause-within
returns-then-is_same-clause-within c =
    let xs = c.args.variants.now in
    let i = c.loop-variant.variant-index in
    let m : Variant = c.variant-item.result in
    (subst (AreWithin c.args.text.now) (drop-here xs i m (omega arith) c.variant-item.is) c.loop-variant.invariant.1).0

pub loop-variant-preserved : goal.loop-variant-preserved
loop-variant-preserved c =
    let xs = c.args.variants.now in
    let i = c.loop-variant.variant-index in
    let m : Variant = c.variant-item.result in
    let name = c.args.name.now in
    let text = c.args.text.now in
    let here : drop i xs ≡ m ∷ drop (i + 1) xs = drop-here xs i m (omega arith) c.variant-item.is in (
      sym (found-later name m.name.bytes (string (at text m.value))
          (spelled text (drop (i + 1) xs) no_members)
          (ap (λ n. bytes_eq n name) (sym c.as_str.ensures) ∙ sym c.is_same.ensures ∙ c.if-is_same.false))
          ∙ ap (λ ys. get_member name (spelled text ys no_members)) (sym here)
          ∙ c.loop-variant.invariant.0,
      (subst (AreWithin text) here c.loop-variant.invariant.1).1,
    )
