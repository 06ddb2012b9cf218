-- Parts between commas, one byte further.
use Rattle.std.proofs.Common.{◌≡◌, ℕ, suc, ◌+◌, ◌-◌, ◌≤◌, ◌<◌, List, [], ◌∷◌, ◌++◌, length, get_or, take, drop, true}
use Rattle.std.proofs.Common.{false, None, ◌==◌, ◌||◌, cond, refl, sym, ap, ◌∙◌, arith, rules}
use Rattle.std.specs.Prelude.{slice_range}
use Rattle.std.proofs.lemmas.List.{drop_more, get_or-drop, length-drop}
use Rattle.std.proofs.Math.Seq.{take-suc}
use Rattle.fp_ofrep.specs.Route.{behind}
use Rattle.fp_ofrep.specs.Tag.{has_tag, is_tag}

range_snoc : (xs : List ℕ) (a b : ℕ) → a ≤ b → b < length xs → slice_range xs a (b + 1) ≡ slice_range xs a b ++ get_or xs b 0 ∷ []
range_snoc xs a b w h =
    let e : (b + 1) - a ≡ suc (b - a) = omega arith in
    let at : a + (b - a) ≡ b = omega arith in
    ap (λ n. take n (drop a xs)) e ∙ take-suc (drop a xs) (b - a) 0 (omega (arith, length-drop a xs)) ∙
    ap (λ y. slice_range xs a b ++ y ∷ []) (get_or-drop a xs (b - a) 0 ∙ ap (λ n. get_or xs n 0) at)

pub behind_empty : (front rest : List ℕ) (i : ℕ) → i < length front → (length rest == 0) ≡ true → behind (drop i front) rest ≡ None
behind_empty front [] i h e = ap (λ f. behind f []) (drop_more front i 0 h)
behind_empty front (x ∷ rest) i h e = absurd (none e)
  where
    none : (length (x ∷ rest) == 0) ≡ true → ⊥
    none e = search (rules, e)

pub at_comma : (tag field : List ℕ) (start at : ℕ) → at < length field → (get_or field at 0 == 44) ≡ true →
    is_tag tag (slice_range field start at) ≡ false
    → has_tag tag (slice_range field start at) (drop at field) ≡ has_tag tag [] (drop (at + 1) field)
at_comma tag field start at h e f = ap (has_tag tag (slice_range field start at)) (drop_more field at 0 h) ∙ rw (e, f) refl

pub at_other : (tag field : List ℕ) (start at : ℕ) → start ≤ at → at < length field → (get_or field at 0 == 44) ≡ false
    → has_tag tag (slice_range field start at) (drop at field) ≡ has_tag tag (slice_range field start (at + 1)) (drop (at + 1) field)
at_other tag field start at w h e =
    ap (has_tag tag (slice_range field start at)) (drop_more field at 0 h)
    ∙ ap (λ b. cond b (is_tag tag (slice_range field start at) || has_tag tag [] (drop (at + 1) field))
    (has_tag tag (slice_range field start at ++ get_or field at 0 ∷ []) (drop (at + 1) field))) e
    ∙ ap (λ p. has_tag tag p (drop (at + 1) field)) (sym (range_snoc field start at w h))
