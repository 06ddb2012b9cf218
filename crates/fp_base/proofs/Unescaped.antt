-- What a string has as it is, looked at byte by byte or many at once.
use Rattle.std.proofs.Common.{◌≡◌, ◌<◌, ◌≤◌, ◌+◌, ◌-◌, ◌*◌, ◌%◌, ◌^◌, ◌||◌, ◌==◌, nat_lt, ℕ, Bool, true, false, not, cond}
use Rattle.std.proofs.Common.{eqb, suc, List, [], ◌∷◌, ◌++◌, length, map, replicate, take, drop, get_or, refl, subst, sym, ap}
use Rattle.std.proofs.Common.{ap₂, ◌∙◌, arith}
use Rattle.std.proofs.lemmas.Bool.{cond-false, cond-true, eq-eqb, ne_eqb}
use Rattle.std.proofs.Common.{append_assoc}
use Rattle.std.proofs.Math.Seq.{take-add}
use Rattle.std.proofs.lemmas.Grind.{flat_map-append}
use Rattle.std.proofs.lemmas.List.{length-map, length-drop, take-append-drop, take_all, take_more}
use Rattle.std.proofs.lemmas.List.Folds.{prefix_len-append}
use Rattle.std.proofs.lemmas.List.Sums.{prefix_len-le-length}
use Rattle.std.proofs.lemmas.Simd.{chunk-drop, leading_from_mask_l, length-chunk, mask_l-mod, trailing_mask_l, zip2_of_maps, zip2_splat}
use Rattle.std.specs.List.{prefix_len}
use lib.Bits.{bit_or}
use lib.Count.{count_trailing_zeros}
use lib.Lanes.{chunk, mask_l, top, zip2}
use Rattle.json.specs.Print.{escape, escape_byte, quoted}
use Rattle.fp_base.specs.Unescaped.{is_escaped, is_unescaped}

-- ---- their spelling

unescaped_written : (x : ℕ) → is_unescaped x ≡ true → escape_byte x ≡ x ∷ []
unfolding escape_byte
unescaped_written x h = grind (arith, h)

written_behind : (b : Bool) (x n : ℕ) (xs : List ℕ) → is_unescaped x ≡ b → escape (take n xs) ≡ take n xs →
    escape (take (cond b (1 + n) 0) (x ∷ xs)) ≡ take (cond b (1 + n) 0) (x ∷ xs)
written_behind false x n xs e h = refl
written_behind true x n xs e h =
    let on : 1 + n ≡ suc n = omega arith in
    ap (λ k. escape (take k (x ∷ xs))) on ∙ ap₂ (λ f g. f ++ g) (unescaped_written x e) h ∙ sym (ap (λ k. take k (x ∷ xs)) on)

pub run_written : (xs : List ℕ) → escape (take (prefix_len is_unescaped xs) xs) ≡ take (prefix_len is_unescaped xs) xs
run_written [] = refl
run_written (x ∷ xs) = written_behind (is_unescaped x) x (prefix_len is_unescaped xs) xs refl (run_written xs)

pub run_within : (xs : List ℕ) → prefix_len is_unescaped xs ≤ length xs
run_within xs = prefix_len-le-length is_unescaped xs

-- ---- a spelling in parts

pub escape_halves : (n : ℕ) (xs : List ℕ) → escape (take n xs) ++ escape (drop n xs) ≡ escape xs
escape_halves n xs = sym (flat_map-append escape_byte (take n xs) (drop n xs)) ∙ ap escape (take-append-drop n xs)

pub to_end : (xs : List ℕ) (at : ℕ) → take (length xs - at) (drop at xs) ≡ drop at xs
to_end xs at = take_all (length xs - at) (drop at xs) (omega (arith, length-drop at xs))

next_part : (xs : List ℕ) (at run : ℕ) → at < length xs →
    take (at + 1 + run) xs ≡ take at xs ++ (get_or xs at 0 ∷ take run (drop (at + 1) xs))
next_part xs at run within =
    take-add (at + 1) run xs ∙ ap (λ l. l ++ take run (drop (at + 1) xs)) (take_more xs at 0 within)
    ∙ append_assoc (take at xs) (get_or xs at 0 ∷ []) (take run (drop (at + 1) xs))

-- what stands between quotes, in two parts
pub quoted_halves : (xs : List ℕ) (run : ℕ) (start one two : List ℕ) → escape (take run xs) ≡ take run xs →
    one ≡ (start ++ 34 ∷ []) ++ take run xs → two ≡ (one ++ escape (take (length xs - run) (drop run xs))) ++ 34 ∷ [] →
    two ≡ start ++ quoted xs
quoted_halves xs run start one two plain before behind =
    let rest = ap escape (to_end xs run) in
    let halves = ap₂ (λ f g. f ++ g) (sym plain) rest ∙ escape_halves run xs in
    behind ∙ ap (λ l. (l ++ escape (take (length xs - run) (drop run xs))) ++ 34 ∷ []) before
    ∙ ap (λ l. l ++ 34 ∷ []) (append_assoc (start ++ 34 ∷ []) (take run xs) (escape (take (length xs - run) (drop run xs))))
    ∙ ap (λ l. ((start ++ 34 ∷ []) ++ l) ++ 34 ∷ []) halves
    ∙ append_assoc (start ++ 34 ∷ []) (escape xs) (34 ∷ [])
    ∙ append_assoc start (34 ∷ []) (escape xs ++ 34 ∷ [])

-- one more byte is put, and a run of those that are written as they are
pub escape_on : (xs : List ℕ) (at run : ℕ) (start old one all : List ℕ) → at < length xs → old ≡ start ++ escape (take at xs) →
    one ≡ old ++ escape_byte (get_or xs at 0) → all ≡ one ++ take run (drop (at + 1) xs) →
    escape (take run (take (length xs - (at + 1)) (drop (at + 1) xs))) ≡ take run (take (length xs - (at + 1)) (drop (at + 1) xs)) →
    all ≡ start ++ escape (take (at + 1 + run) xs)
escape_on xs at run start old one all within before byte behind plain =
    let part = take run (drop (at + 1) xs) in
    let kept = subst (λ l. escape (take run l) ≡ take run l) (to_end xs (at + 1)) plain in
    let spelled = ap escape (next_part xs at run within) ∙ flat_map-append escape_byte (take at xs) (get_or xs at 0 ∷ part) in
    behind ∙ ap₂ (λ f g. f ++ g) (byte ∙ ap (λ l. l ++ escape_byte (get_or xs at 0)) before) (sym kept)
    ∙ append_assoc (start ++ escape (take at xs)) (escape_byte (get_or xs at 0)) (escape part)
    ∙ append_assoc start (escape (take at xs)) (escape_byte (get_or xs at 0) ++ escape part)
    ∙ ap (λ l. start ++ l) (sym spelled)

-- ---- many at once

abbrev pub lane : Bool → ℕ
lane b = cond b 255 0

any_of : (p q r : Bool) → top 7 (bit_or (bit_or (lane p) (lane q)) (lane r)) ≡ p || (q || r)
any_of true true true = refl
any_of true true false = refl
any_of true false true = refl
any_of true false false = refl
any_of false true true = refl
any_of false true false = refl
any_of false false true = refl
any_of false false false = refl

tops : (v : List ℕ) → map (top 7) (map (λ x. bit_or (bit_or (lane (x == 34)) (lane (x == 92))) (lane (nat_lt x 32))) v) ≡ map is_escaped v
tops [] = refl
tops (x ∷ xs) = ap₂ (λ b bs. b ∷ bs) (any_of (x == 34) (x == 92) (nat_lt x 32)) (tops xs)

abbrev pub equal : ℕ → ℕ → ℕ
equal a b = lane (a == b)

abbrev pub below : ℕ → ℕ → ℕ
below a b = lane (nat_lt a b)

-- what the three comparisons say together, a bit for each byte
pub bits-of : (v : List ℕ) (n : ℕ) → length v ≡ n → n ≤ 64 →
    mask_l (map (top 7)
    (zip2 bit_or (zip2 bit_or (zip2 equal v (replicate n 34)) (zip2 equal v (replicate n 92))) (zip2 below v (replicate n 32))))
    % 2 ^ 64
    ≡ mask_l (map is_escaped v)
bits-of v n long few =
    let marks = zip2_of_maps bit_or (λ x. equal x 34) (λ x. equal x 92) v (zip2_splat equal v n 34 long) (zip2_splat equal v n 92 long) in
    let all = zip2_of_maps bit_or (λ x. bit_or (equal x 34) (equal x 92)) (λ x. below x 32) v marks (zip2_splat below v n 32 long) in
    ap (λ bs. mask_l bs % 2 ^ 64) (ap (map (top 7)) all ∙ tops v)
    ∙ mask_l-mod (map is_escaped v) 64 (omega (arith, length-map v is_escaped))

none_set : (b : Bool) (n l m : ℕ) → n ≤ l → cond (not b) (1 + n) 0 ≡ suc l → (n ≡ l → m ≡ 0) → cond b 1 0 + 2 * m ≡ 0
none_set true n l m le e h = absurd (omega arith)
none_set false n l m le e h = omega (arith, h (omega arith))

none_escaped : (xs : List ℕ) → prefix_len is_unescaped xs ≡ length xs → mask_l (map is_escaped xs) ≡ 0
none_escaped [] e = refl
none_escaped (x ∷ xs) e =
    none_set (is_escaped x) (prefix_len is_unescaped xs) (length xs) (mask_l (map is_escaped xs))
    (prefix_len-le-length is_unescaped xs) e (none_escaped xs)

module _ (d : List ℕ) (i n : ℕ) (room : i + n ≤ length d) where
  seen : List ℕ
  seen = chunk i n d

  split : prefix_len is_unescaped (drop i d) ≡
      cond (eqb (prefix_len is_unescaped (chunk i n d)) (length (chunk i n d)))
      (length (chunk i n d) + prefix_len is_unescaped (drop (i + n) d)) (prefix_len is_unescaped (chunk i n d))
  split = ap (prefix_len is_unescaped) (chunk-drop i n d) ∙ prefix_len-append is_unescaped (chunk i n d) (drop (i + n) d)

  pub run-through : mask_l (map is_escaped (chunk i n d)) ≡ 0 →
      prefix_len is_unescaped (drop i d) ≡ n + prefix_len is_unescaped (drop (i + n) d)
  run-through none =
      split ∙ cond-true _ _ _ (eq-eqb _ _ (leading_from_mask_l is_escaped (chunk i n d) none))
      ∙ ap (λ k. k + prefix_len is_unescaped (drop (i + n) d)) (length-chunk i n d room)

  pub run-stops : n ≤ 64 → 0 < mask_l (map is_escaped (chunk i n d)) →
      prefix_len is_unescaped (drop i d) ≡ count_trailing_zeros 64 (mask_l (map is_escaped (chunk i n d)))
  run-stops few some =
      split ∙ cond-false _ _ _
      (ne_eqb _ _ (λ (e : prefix_len is_unescaped (chunk i n d) ≡ length (chunk i n d)). omega (arith, none_escaped (chunk i n d) e)))
      ∙ sym (trailing_mask_l is_escaped 64 (chunk i n d) (omega (arith, length-chunk i n d room)) some)
