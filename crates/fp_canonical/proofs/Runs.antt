-- A string that is read by runs: bytes that stand as they are, and behind them a quote or a backslash.
use Rattle.std.proofs.Common.{◌≡◌, ◌≢◌, ◌≤◌, ◌<◌, ◌+◌, ℕ, Bool, true, false, true≢false, suc, cond, List, [], ◌∷◌, ◌++◌}
use Rattle.std.proofs.Common.{length, get_or, take, drop, inl, inr, ◌⊎◌, refl, sym, ap, ap₂, subst, ◌∙◌, arith, append_assoc}
use Rattle.std.proofs.Common.{length-append}
use Rattle.std.proofs.Math.Seq.{take-add}
use Rattle.std.proofs.lemmas.Bool.{ne_eqb, le-ltb}
use Rattle.std.proofs.lemmas.Grind.{flat_map-append}
use Rattle.std.proofs.lemmas.List.{drop-drop, get_or-drop, length-drop}
use Rattle.std.specs.List.{prefix_len}
use Rattle.json.specs.Print.{escape, escape_byte}
use Rattle.fp_base.specs.Unescaped.{is_unescaped}
use Rattle.fp_canonical.proofs.Escapes.{Form, form}

-- a quote comes next, or a byte that is spelled behind a backslash
abbrev pub Next : List ℕ → List ℕ → Type 0
Next left xs =
    (xs ≡ 34 ∷ left)
    ⊎ ((x : ℕ) × (u : List ℕ) × (xs ≡ escape_byte x ++ (escape u ++ 34 ∷ left)) × (get_or xs 0 0 ≡ 92))

bare : (x : ℕ) → 32 ≤ x → x ≢ 34 → x ≢ 92 → is_unescaped x ≡ true
bare x low quote slash = rw (ne_eqb x 34 quote, ne_eqb x 92 slash, le-ltb x 32 low) refl

stays : (b : Bool) (x n : ℕ) (xs left : List ℕ) → b ≡ false → Next left (x ∷ xs) → Next left (drop (cond b (1 + n) 0) (x ∷ xs))
stays true x n xs left is h = absurd (true≢false is)
stays false x n xs left is h = h

goes : (b : Bool) (x n : ℕ) (xs left : List ℕ) → b ≡ true → Next left (drop n xs) → Next left (drop (cond b (1 + n) 0) (x ∷ xs))
goes true x n xs left is h =
    let on : suc n ≡ 1 + n = omega arith in
    subst (λ k. Next left (drop k (x ∷ xs))) on h
goes false x n xs left is h = absurd (true≢false (sym is))

-- behind the bytes that stand as they are
pub behind_run : (xs t left : List ℕ) → xs ≡ escape t ++ 34 ∷ left → Next left (drop (prefix_len is_unescaped xs) xs)
behind_run [] t left same = absurd (omega (arith, ap length same, length-append (escape t) (34 ∷ left)))
behind_run (x ∷ xs) [] left same =
    stays (is_unescaped x) x (prefix_len is_unescaped xs) xs left (ap is_unescaped (ap (λ l. get_or l 0 0) same)) (inl same)
behind_run (x ∷ xs) (y ∷ u) left same = go (form y) (behind_run xs u left)
  where
    whole : x ∷ xs ≡ escape_byte y ++ (escape u ++ 34 ∷ left)
    whole = same ∙ append_assoc (escape_byte y) (escape u) (34 ∷ left)

    spelled : (ys : List ℕ) → escape_byte y ≡ ys → x ∷ xs ≡ ys ++ (escape u ++ 34 ∷ left)
    spelled ys is = whole ∙ ap (λ l. l ++ (escape u ++ 34 ∷ left)) is

    slash : x ≡ 92 → Next left (drop (prefix_len is_unescaped (x ∷ xs)) (x ∷ xs))
    slash is = stays (is_unescaped x) x (prefix_len is_unescaped xs) xs left (ap is_unescaped is) (inr (y, u, whole, is))

    go : Form y → (xs ≡ escape u ++ 34 ∷ left → Next left (drop (prefix_len is_unescaped xs) xs))
        → Next left (drop (prefix_len is_unescaped (x ∷ xs)) (x ∷ xs))
    go (inl p) more =
        let same_byte : x ≡ y = ap (λ l. get_or l 0 0) (spelled _ p.0) in
        goes (is_unescaped x) x (prefix_len is_unescaped xs) xs left (ap is_unescaped same_byte ∙ bare y p.1 p.2 p.3)
        (more (ap (drop 1) (spelled _ p.0)))
    go (inr (inl p)) more = slash (ap (λ l. get_or l 0 0) (spelled _ p.3))
    go (inr (inr p)) more = slash (ap (λ l. get_or l 0 0) (spelled _ p.2))

nonempty : (left xs : List ℕ) → Next left xs → 0 < length xs
nonempty left [] (inl q) = absurd (omega (arith, ap length q))
nonempty left [] (inr s) = absurd (omega (arith, s.3))
nonempty left (x ∷ xs) next = omega arith

-- the same in a text, behind a place
module _ (bytes : List ℕ) (at run : ℕ) (is : run ≡ prefix_len is_unescaped (drop at bytes)) where
  first : (xs : List ℕ) → drop (at + run) bytes ≡ xs → get_or bytes (at + run) 0 ≡ get_or xs 0 0
  first xs same =
      let on : at + run + 0 ≡ at + run = omega arith in
      ap (λ i. get_or bytes i 0) (sym on) ∙ sym (get_or-drop (at + run) bytes 0 0) ∙ ap (λ r. get_or r 0 0) same

  moved : (t left : List ℕ) → drop at bytes ≡ escape t ++ 34 ∷ left → Next left (drop (at + run) bytes)
  moved t left same =
      subst (Next left) (ap (λ n. drop n (drop at bytes)) (sym is) ∙ drop-drop run at bytes) (behind_run (drop at bytes) t left same)

  -- the text hasn't ended
  pub more_behind : (t left : List ℕ) → drop at bytes ≡ escape t ++ 34 ∷ left → at + run < length bytes
  more_behind t left same =
      let some : 0 < length (drop (at + run) bytes) = nonempty left (drop (at + run) bytes) (moved t left same) in
      omega (arith, some, length-drop (at + run) bytes)

  pub next_behind : (t left : List ℕ) → get_or bytes (at + run) 0 ≢ 34 → drop at bytes ≡ escape t ++ 34 ∷ left →
      (x : ℕ) × (u : List ℕ) × (drop (at + run) bytes ≡ escape_byte x ++ (escape u ++ 34 ∷ left)) × (get_or bytes (at + run) 0 ≡ 92)
  next_behind t left no_quote same = go (moved t left same)
    where
      go : Next left (drop (at + run) bytes) →
          (x : ℕ) × (u : List ℕ) × (drop (at + run) bytes ≡ escape_byte x ++ (escape u ++ 34 ∷ left)) × (get_or bytes (at + run) 0 ≡ 92)
      go (inl q) = absurd (no_quote (first (34 ∷ left) q))
      go (inr s) = (s.0, s.1, s.2, first (drop (at + run) bytes) refl ∙ s.3)

-- what was put stands for what was passed, a run further
pub run_more : (bytes room new : List ℕ) (at len run : ℕ) → take at bytes ≡ escape (take len room) →
    take (len + run) new ≡ take len room ++ take run (drop at bytes) → escape (take run (drop at bytes)) ≡ take run (drop at bytes) →
    take (at + run) bytes ≡ escape (take (len + run) new)
run_more bytes room new at len run before put plain =
    take-add at run bytes ∙ ap₂ (λ f g. f ++ g) before (sym plain)
    ∙ sym (flat_map-append escape_byte (take len room) (take run (drop at bytes))) ∙ ap escape (sym put)
