use Rattle.std.proofs.Common.{◌≡◌, ◌<◌, List, ◌∷◌, ◌++◌, drop, length, Greater, nat_cmp, sym, ap, subst, ◌∙◌, arith}
use Rattle.std.specs.Cmp.Lexicographic.{slice_cmp}
use Rattle.serde_json.specs.Data.{no_members}
use Rattle.serde_json.specs.Find.{get_member}
use Rattle.fp_base.specs.Sorted.{IsSorted}
use Rattle.fp_base.proofs.Turns.{drop-here}
use Rattle.fp_definition.proofs.Parted.{get-behind, get-front, greater, not_greater, sorted-behind, sorted-front}
use Rattle.fp_definition.proofs.Parted.{within-behind, within-front}
use Rattle.fp_definition.specs.Spelled.{spelled, AreWithin}
use Rattle.fp_definition.specs.declared.spelling.Variant.{Variant}
use Rattle.fp_definition.proofs.variants.narrowed.Goals as goal

pub loop-left-preserved-then-is_gt : goal.loop-left-preserved-then-is_gt
loop-left-preserved-then-is_gt c =
    let front : List Variant = c.split_at.result.0.now in
    let behind : List Variant = c.split_at.result.1.now in
    let m : Variant = c.index-behind-0.result in
    let name = c.args.name.now in
    let text = c.args.text.now in
    let some : 0 < length behind = omega arith in
    let here : behind ≡ m ∷ drop 1 behind = drop-here behind 0 m some c.index-behind-0.is in
    let all : c.loop-left.left.now ≡ front ++ m ∷ drop 1 behind = c.split_at.ensures.by_index.0 ∙ ap (λ ys. front ++ ys) here in
    let sorted : IsSorted (spelled text (front ++ m ∷ drop 1 behind) no_members) =
    subst (λ ys. IsSorted (spelled text ys no_members)) all c.loop-left.invariant.0 in
    let order : slice_cmp nat_cmp m.name.bytes name ≡ Greater =
    ap (λ (x : Variant). slice_cmp nat_cmp x.name.bytes name) c.index-behind-0.is ∙
    ap (λ n. slice_cmp nat_cmp n name) (sym c.as_str.ensures)
    ∙ sym c.cmp.ensures ∙ greater c.cmp.result (sym c.is_gt.ensures ∙ c.if-is_gt.true) in (
      sorted-front text front (m ∷ drop 1 behind) sorted,
      get-front text name front m (drop 1 behind) sorted order ∙
          ap (λ ys. get_member name (spelled text ys no_members)) (sym all) ∙ c.loop-left.invariant.1,
      within-front text front (m ∷ drop 1 behind) (subst (AreWithin text) all c.loop-left.invariant.2),
    )

pub loop-left-preserved : goal.loop-left-preserved
loop-left-preserved c =
    let front : List Variant = c.split_at.result.0.now in
    let behind : List Variant = c.split_at.result.1.now in
    let m : Variant = c.index-behind-0.result in
    let name = c.args.name.now in
    let text = c.args.text.now in
    let some : 0 < length behind = omega arith in
    let here : behind ≡ m ∷ drop 1 behind = drop-here behind 0 m some c.index-behind-0.is in
    let all : c.loop-left.left.now ≡ front ++ m ∷ drop 1 behind = c.split_at.ensures.by_index.0 ∙ ap (λ ys. front ++ ys) here in
    let sorted : IsSorted (spelled text (front ++ m ∷ drop 1 behind) no_members) =
    subst (λ ys. IsSorted (spelled text ys no_members)) all c.loop-left.invariant.0 in
    let order : slice_cmp nat_cmp m.name.bytes name ≡ Greater → ⊥ =
    λ h. not_greater c.cmp.result (sym c.is_gt.ensures ∙ c.if-is_gt.false)
    (c.cmp.ensures ∙ ap (λ n. slice_cmp nat_cmp n name) c.as_str.ensures
    ∙ ap (λ (x : Variant). slice_cmp nat_cmp x.name.bytes name) (sym c.index-behind-0.is) ∙ h) in (
      subst (λ ys. IsSorted (spelled text ys no_members)) (sym here) (sorted-behind text front (m ∷ drop 1 behind) sorted),
      ap (λ ys. get_member name (spelled text ys no_members)) here ∙
          get-behind text name front m (drop 1 behind) sorted order ∙
          ap (λ ys. get_member name (spelled text ys no_members)) (sym all) ∙ c.loop-left.invariant.1,
      subst (AreWithin text) (sym here) (within-behind text front (m ∷ drop 1 behind) (subst (AreWithin text) all c.loop-left.invariant.2)),
    )
