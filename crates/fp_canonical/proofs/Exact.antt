-- A text spells one string only.
use Rattle.std.proofs.Common.{◌≡◌, ◌≢◌, ◌≤◌, ◌<◌, ◌+◌, ◌-◌, ◌/◌, ◌%◌, ℕ, List, [], ◌∷◌, ◌++◌}
use Rattle.std.proofs.Common.{length, get_or, drop, slice_range, take, Option, Some, None}
use Rattle.std.proofs.Common.{inl, inr, ◌⊎◌, refl, sym, ap, subst, ◌∙◌, arith, true}
use Rattle.std.proofs.Common.{append_assoc, length-append}
use Rattle.std.proofs.lemmas.List.{append_cancel_left, drop-drop, drop_more, get_or-drop}
use Rattle.std.proofs.lemmas.List.{length-drop, take-append-drop}
use Rattle.std.proofs.lemmas.Bool.{cases_lt, le-ltb, lt-ltb}
use Rattle.std.specs.Char.{digit_char}
use Rattle.std.specs.Prelude.{MatchOption, IfSome, IsSome}
use Rattle.std.specs.Str.{IsUtf8}
use Rattle.json.specs.Print.{escape, escape_byte, escape_letter, quoted}
use Rattle.json.specs.Text.{content, plain}
use Rattle.json.proofs.Printed.Strings.{content-escape}
use Rattle.fp_canonical.proofs.Escapes.{Form, form, is_letter, text_unescaped}

pub same_string : (s t l m : List ℕ) → escape s ++ 34 ∷ l ≡ escape t ++ 34 ∷ m → (s ≡ t) × (l ≡ m)
same_string s t l m same =
    let e = some_same s t (sym (content-escape s l) ∙ ap (content plain) same ∙ content-escape t m) in
    (e, ap (drop 1) (append_cancel_left (escape t) (34 ∷ l) (34 ∷ m) (ap (λ r. escape r ++ 34 ∷ l) (sym e) ∙ same)))
  where
    some_same : (x y : List ℕ) → Some x ≡ Some y → x ≡ y
    some_same x y h = cc

-- the same of what a quote begins
pub same_quoted : (s t l m : List ℕ) → quoted s ++ l ≡ quoted t ++ m → (s ≡ t) × (l ≡ m)
same_quoted s t l m same =
    same_string s t l m (sym (append_assoc (escape s) (34 ∷ []) l) ∙ ap (drop 1) same ∙ append_assoc (escape t) (34 ∷ []) m)

-- ---- one byte

second : (x y : ℕ) (l m : List ℕ) (a b : ℕ) → x ∷ a ∷ l ≡ y ∷ b ∷ m → a ≡ b
second x y l m a b h = ap (λ r. get_or r 1 0) h

is_letter-117 : is_letter 117 ≡ true → ⊥
is_letter-117 h = cc

letter_is : (n l : ℕ) → l ≡ n → is_letter l ≡ true → is_letter n ≡ true
letter_is n l same is = subst (λ b. is_letter b ≡ true) same is

pub same_rest : (x y : ℕ) (l m : List ℕ) → escape_byte x ++ l ≡ escape_byte y ++ m → l ≡ m
same_rest x y l m same = go (form x) (form y)
  where
    with : (xs ys : List ℕ) → escape_byte x ≡ xs → escape_byte y ≡ ys → xs ++ l ≡ ys ++ m
    with xs ys p q = ap (λ r. r ++ l) (sym p) ∙ same ∙ ap (λ r. r ++ m) q

    go : Form x → Form y → l ≡ m
    go (inl p) (inl q) = ap (drop 1) (with _ _ p.0 q.0)
    go (inl p) (inr (inl q)) = absurd (p.3 (ap (λ r. get_or r 0 0) (with _ _ p.0 q.3)))
    go (inl p) (inr (inr q)) = absurd (p.3 (ap (λ r. get_or r 0 0) (with _ _ p.0 q.2)))
    go (inr (inl p)) (inl q) = absurd (q.3 (sym (ap (λ r. get_or r 0 0) (with _ _ p.3 q.0))))
    go (inr (inl p)) (inr (inl q)) = ap (drop 2) (with _ _ p.3 q.3)
    go (inr (inl p)) (inr (inr q)) = absurd (is_letter-117 (letter_is 117 p.0 (ap (λ r. get_or r 1 0) (with _ _ p.3 q.2)) p.1))
    go (inr (inr p)) (inl q) = absurd (q.3 (sym (ap (λ r. get_or r 0 0) (with _ _ p.2 q.0))))
    go (inr (inr p)) (inr (inl q)) = absurd (is_letter-117 (letter_is 117 q.0 (sym (ap (λ r. get_or r 1 0) (with _ _ p.2 q.3))) q.1))
    go (inr (inr p)) (inr (inr q)) = ap (drop 6) (with _ _ p.2 q.2)

pub plain_of : (x : ℕ) → escape_byte x ≡ x ∷ [] → (32 ≤ x) × (x ≢ 34) × (x ≢ 92)
plain_of x same = go (form x)
  where
    go : Form x → (32 ≤ x) × (x ≢ 34) × (x ≢ 92)
    go (inl p) = (p.1, p.2, p.3)
    go (inr (inl p)) = absurd (omega (arith, ap length (sym same ∙ p.3)))
    go (inr (inr p)) = absurd (omega (arith, ap length (sym same ∙ p.2)))

letter_none : (x l : ℕ) → escape_letter x ≡ 0 → escape_byte x ≡ 92 ∷ l ∷ [] → is_letter l ≡ true → ⊥
unfolding escape_byte
letter_none x l none same is = go (cases_lt x 32)
  where
    go : (x < 32) ⊎ (32 ≤ x) → ⊥
    go (inl a) =
        let is_long : length (escape_byte x) ≡ 6 = rw (none, lt-ltb x 32 a) refl in
        omega (arith, is_long, ap length same)
    go (inr b) =
        let is_one : length (escape_byte x) ≡ 1 = rw (none, le-ltb x 32 b) refl in
        omega (arith, is_one, ap length same)

-- of two hexadecimal digits
pub record Numbers (x h l : ℕ) : Type 0 where
  pub control : x < 32
  pub none : escape_letter x ≡ 0
  pub high : digit_char (x / 16) ≡ h
  pub low : digit_char (x % 16) ≡ l

pub numbers_of : (x high low : ℕ) → escape_byte x ≡ 92 ∷ 117 ∷ 48 ∷ 48 ∷ high ∷ low ∷ [] → Numbers x high low
numbers_of x high low same = go (form x)
  where
    go : Form x → Numbers x high low
    go (inl p) = absurd (omega (arith, ap length (sym same ∙ p.0)))
    go (inr (inl p)) = absurd (omega (arith, ap length (sym same ∙ p.3)))
    go (inr (inr p)) =
        record {
          control = p.0;
          none = p.1;
          high = ap (λ r. get_or r 4 0) (sym p.2 ∙ same);
          low = ap (λ r. get_or r 5 0) (sym p.2 ∙ same);
        }

pub by_number : (x high low : ℕ) → Numbers x high low → escape_byte x ≡ 92 ∷ 117 ∷ 48 ∷ 48 ∷ high ∷ low ∷ []
by_number x high low n = go (form x)
  where
    letter : (l : ℕ) → is_letter l ≡ true → escape_byte x ≡ 92 ∷ l ∷ [] → ⊥
    letter l is same = absurd (letter_none x l n.none same is)

    go : Form x → escape_byte x ≡ 92 ∷ 117 ∷ 48 ∷ 48 ∷ high ∷ low ∷ []
    go (inl p) = absurd (omega (arith, p.1, n.control))
    go (inr (inl p)) = absurd (letter p.0 p.1 p.3)
    go (inr (inr p)) = p.2 ∙ (λ i. 92 ∷ 117 ∷ 48 ∷ 48 ∷ n.high i ∷ n.low i ∷ [])

-- ---- what stands at a place

-- the byte as it is, a letter behind a backslash, or two digits behind others
abbrev pub Stands : List ℕ → ℕ → ℕ → Type 0
Stands bytes at x =
    (escape_byte (get_or bytes at 0) ≡ get_or bytes at 0 ∷ [])
    ⊎ (((at + 2 ≤ length bytes) × (get_or bytes at 0 ≡ 92) × (get_or bytes (at + 1) 0 ≢ 117)
    × (escape_byte x ≡ 92 ∷ get_or bytes (at + 1) 0 ∷ []))
    ⊎ ((at + 6 ≤ length bytes) × (get_or bytes at 0 ≡ 92) × (get_or bytes (at + 1) 0 ≡ 117)
    × (get_or bytes (at + 2) 0 ≡ 48) × (get_or bytes (at + 3) 0 ≡ 48)
    × (escape_byte x ≡ 92 ∷ 117 ∷ 48 ∷ 48 ∷ get_or bytes (at + 4) 0 ∷ get_or bytes (at + 5) 0 ∷ [])))

pub stands : (bytes : List ℕ) (at x : ℕ) (left : List ℕ) → at < length bytes → drop at bytes ≡ escape_byte x ++ left → Stands bytes at x
stands bytes at x left within here = go (form x)
  where
    whole : (xs : List ℕ) → escape_byte x ≡ xs → drop at bytes ≡ xs ++ left
    whole xs p = here ∙ ap (λ r. r ++ left) p

    byte : (xs : List ℕ) (i b : ℕ) → escape_byte x ≡ xs → get_or (xs ++ left) i 0 ≡ b → get_or bytes (at + i) 0 ≡ b
    byte xs i b p q = sym (get_or-drop at bytes i 0) ∙ ap (λ r. get_or r i 0) (whole xs p) ∙ q

    zero_on : at + 0 ≡ at
    zero_on = omega arith

    first : (xs : List ℕ) (b : ℕ) → escape_byte x ≡ xs → get_or (xs ++ left) 0 0 ≡ b → get_or bytes at 0 ≡ b
    first xs b p q = ap (λ i. get_or bytes i 0) (sym zero_on) ∙ byte xs 0 b p q

    go : Form x → Stands bytes at x
    go (inl p) = let e = first _ x p.0 refl in inl (ap escape_byte e ∙ p.0 ∙ ap (λ b. b ∷ []) (sym e))
    go (inr (inl p)) =
        let e = byte _ 1 p.0 p.3 refl in
        inr (inl (
          omega (arith, within, length-drop at bytes, ap length (whole _ p.3), length-append (92 ∷ p.0 ∷ []) left),
          first _ 92 p.3 refl,
          λ h. is_letter-117 (subst (λ b. is_letter b ≡ true) (sym e ∙ h) p.1),
          p.3 ∙ ap (λ b. 92 ∷ b ∷ []) (sym e),
        ))
    go (inr (inr p)) =
        let four = byte _ 4 (digit_char (x / 16)) p.2 refl in
        let five = byte _ 5 (digit_char (x % 16)) p.2 refl in
        let long = length-append (92 ∷ 117 ∷ 48 ∷ 48 ∷ digit_char (x / 16) ∷ digit_char (x % 16) ∷ []) left in
        inr (inr (
          omega (arith, within, length-drop at bytes, ap length (whole _ p.2), long),
          first _ 92 p.2 refl,
          byte _ 1 117 p.2 refl,
          byte _ 2 48 p.2 refl,
          byte _ 3 48 p.2 refl,
          p.2 ∙ (λ i. 92 ∷ 117 ∷ 48 ∷ 48 ∷ sym four i ∷ sym five i ∷ []),
        ))

-- ---- on and on

-- behind a byte that is spelled the rest of the string is
pub spelled_on : (bytes : List ℕ) (at next x y : ℕ) (rest : List ℕ) → at ≤ next → drop at bytes ≡ escape_byte x ++ rest →
    slice_range bytes at next ≡ escape_byte y → drop next bytes ≡ rest
spelled_on bytes at next x y rest on here is =
    let far : at + (next - at) ≡ next = omega (arith, on) in
    let split : slice_range bytes at next ++ drop next bytes ≡ drop at bytes =
    ap (λ r. slice_range bytes at next ++ r) (ap (λ n. drop n bytes) (sym far) ∙ sym (drop-drop (next - at) at bytes))
    ∙ take-append-drop (next - at) (drop at bytes) in
    same_rest y x (drop next bytes) rest (ap (λ r. r ++ drop next bytes) (sym is) ∙ split ∙ here)

-- ---- up to the quote

at_quote : (text : List ℕ) (end : ℕ) → end < length text → get_or text end 0 ≡ 34 → text ≡ take end text ++ 34 ∷ drop (end + 1) text
at_quote text end within quote =
    sym (take-append-drop end text) ∙ ap (λ r. take end text ++ r) (drop_more text end 0 within ∙ ap (λ b. b ∷ drop (end + 1) text) quote)

-- a string that has its bytes as they are
pub front_string : (text : List ℕ) (end : ℕ) (s left : List ℕ) → end < length text → get_or text end 0 ≡ 34 →
    escape (take end text) ≡ take end text → text ≡ escape s ++ 34 ∷ left → (take end text ≡ s) × (drop (end + 1) text ≡ left)
front_string text end s left within quote bare is =
    same_string (take end text) s (drop (end + 1) text) left
    (ap (λ r. r ++ 34 ∷ drop (end + 1) text) bare ∙ sym (at_quote text end within quote) ∙ is)

-- what a text's spelling stands for
pub front_text : (text : List ℕ) (end : ℕ) (s : List ℕ) → IsUtf8 text → end < length text → get_or text end 0 ≡ 34 →
    take end text ≡ escape s → IsUtf8 s
front_text text end s utf8 within quote is =
    text_unescaped s (drop (end + 1) text)
    (subst IsUtf8 (at_quote text end within quote ∙ ap (λ r. r ++ 34 ∷ drop (end + 1) text) is) utf8)

-- ---- answers that are there

pub is_some_of : {A U : Type 0} (o : Option A) (P : A → Type 0) → MatchOption o (¬ U) P → U → IsSome o
is_some_of (Some a) P h u = refl
is_some_of None P h u = absurd (h u)

pub some_is : {A : Type 0} (o : Option A) (P Q : A → Type 0) → IsSome o → IfSome o P → ((a : A) → P a → Q a) → MatchOption o ⊥ Q
some_is None P Q some h f = absurd (cc)
some_is (Some a) P Q some h f = f a h
