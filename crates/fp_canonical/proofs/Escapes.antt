-- What stands for a byte in a string, and that a string whose spelling is text is text.
use Rattle.std.proofs.Common.{◌≡◌, ◌≢◌, ◌≤◌, ◌<◌, ◌/◌, ◌%◌, ℕ, zero, suc, List, [], ◌∷◌, ◌++◌}
use Rattle.std.proofs.Common.{length, get_or, drop, inl, inr, ◌⊎◌, refl, sym, ap, subst, ◌∙◌, arith}
use Rattle.std.proofs.Common.{true, Bool, ◌||◌, ◌==◌}
use Rattle.std.proofs.Common.{append_assoc, append-nil, length-append}
use Rattle.std.specs.Bool.{⊤}
use Rattle.std.proofs.lemmas.Bool.{cases_eq, cases_lt, ne_eqb, le-ltb, lt-ltb}
use Rattle.std.proofs.lemmas.Bool.{and_parts}
use Rattle.std.proofs.lemmas.Str.{IsUtf8-append, IsUtf8-from_ascii, IsUtf8-nil, IsUtf8-past_char}
use Rattle.std.proofs.lemmas.Str.{IsUtf8-encode, byte_from_char, inside_one, encode_ascii}
use Rattle.std.proofs.lemmas.Str.{length-encode, len_utf8_bounds}
use Rattle.std.specs.Char.{digit_char}
use Rattle.std.specs.Prelude.{slice_index}
use Rattle.std.specs.Str.{IsUtf8}
use lib.Utf8.{encode, encodes, scalar, scalars}
use Rattle.json.specs.Print.{escape, escape_byte, escape_letter}
use Rattle.json.proofs.Printed.Strings.{escape_byte_plain}

-- behind a backslash, for bytes that have a letter
abbrev pub is_letter : ℕ → Bool
is_letter l = (l == 34) || ((l == 92) || ((l == 98) || ((l == 116) || ((l == 110) || ((l == 102) || (l == 114))))))

-- the byte stands as it is, behind a backslash as a letter, or there by its number
abbrev pub Form : ℕ → Type 0
Form x =
    ((escape_byte x ≡ x ∷ []) × (32 ≤ x) × (x ≢ 34) × (x ≢ 92))
    ⊎ (((l : ℕ) × (is_letter l ≡ true) × (x < 128) × (escape_byte x ≡ 92 ∷ l ∷ []))
    ⊎ ((x < 32) × (escape_letter x ≡ 0) × (escape_byte x ≡ 92 ∷ 117 ∷ 48 ∷ 48 ∷ digit_char (x / 16) ∷ digit_char (x % 16) ∷ [])))

pub form : (x : ℕ) → Form x
unfolding escape_byte
form x = go (cases_eq x 34) (cases_eq x 92) (cases_eq x 8) (cases_eq x 12) (cases_eq x 10) (cases_eq x 13) (cases_eq x 9) (cases_lt x 32)
  where
    short : (y l : ℕ) → x ≡ y → y < 128 → is_letter l ≡ true → escape_byte y ≡ 92 ∷ l ∷ [] → Form x
    short y l e low is same = inr (inl (l, is, subst (λ z. z < 128) (sym e) low, ap escape_byte e ∙ same))

    go : (x ≡ 34) ⊎ (x ≡ 34 → ⊥) → (x ≡ 92) ⊎ (x ≡ 92 → ⊥) → (x ≡ 8) ⊎ (x ≡ 8 → ⊥) → (x ≡ 12) ⊎ (x ≡ 12 → ⊥) → (x ≡ 10) ⊎ (x ≡ 10 → ⊥)
        → (x ≡ 13) ⊎ (x ≡ 13 → ⊥) → (x ≡ 9) ⊎ (x ≡ 9 → ⊥) → (x < 32) ⊎ (32 ≤ x) → Form x
    go (inl e) b c d f g h k = short 34 34 e (omega arith) refl refl
    go (inr a) (inl e) c d f g h k = short 92 92 e (omega arith) refl refl
    go (inr a) (inr b) (inl e) d f g h k = short 8 98 e (omega arith) refl refl
    go (inr a) (inr b) (inr c) (inl e) f g h k = short 12 102 e (omega arith) refl refl
    go (inr a) (inr b) (inr c) (inr d) (inl e) g h k = short 10 110 e (omega arith) refl refl
    go (inr a) (inr b) (inr c) (inr d) (inr f) (inl e) h k = short 13 114 e (omega arith) refl refl
    go (inr a) (inr b) (inr c) (inr d) (inr f) (inr g) (inl e) k = short 9 116 e (omega arith) refl refl
    go (inr a) (inr b) (inr c) (inr d) (inr f) (inr g) (inr h) (inl l) =
        inr (inr (
          l,
          rw (ne_eqb x 34 a, ne_eqb x 92 b, ne_eqb x 8 c, ne_eqb x 12 d, ne_eqb x 10 f, ne_eqb x 13 g, ne_eqb x 9 h) refl,
          rw (ne_eqb x 34 a, ne_eqb x 92 b, ne_eqb x 8 c, ne_eqb x 12 d, ne_eqb x 10 f, ne_eqb x 13 g, ne_eqb x 9 h, lt-ltb x 32 l) refl,
        ))
    go (inr a) (inr b) (inr c) (inr d) (inr f) (inr g) (inr h) (inr l) = inl (escape_byte_plain x a b l, l, a, b)

-- ---- ASCII in front

abbrev pub Low : List ℕ → Type 0
Low [] = ⊤
Low (x ∷ xs) = (x < 128) × Low xs

low_letter : (l : ℕ) → is_letter l ≡ true → l < 128
low_letter l h = go (cases_lt l 128)
  where
    go : (l < 128) ⊎ (128 ≤ l) → l < 128
    go (inl a) = a
    go (inr b) = absurd (grind arith)

low_digit : (d : ℕ) → d < 16 → digit_char d < 128
low_digit d h = go (cases_lt d 10)
  where
    go : (d < 10) ⊎ (10 ≤ d) → digit_char d < 128
    go (inl a) = rw (lt-ltb d 10 a) (omega arith)
    go (inr b) = rw (le-ltb d 10 b) (omega arith)

pub low_escape : (x : ℕ) → x < 128 → Low (escape_byte x)
low_escape x h = go (form x)
  where
    go : Form x → Low (escape_byte x)
    go (inl p) = subst Low (sym p.0) (h, tt)
    go (inr (inl p)) = subst Low (sym p.3) (omega arith, (low_letter p.0 p.1, tt))
    go (inr (inr p)) = subst Low (sym p.2) (
      omega arith,
      (
        omega arith,
        (
          omega arith,
          (
            omega arith,
            (low_digit (x / 16) (omega (arith, p.0)), (low_digit (x % 16) (omega arith), tt)),
          ),
        ),
      ),
    )

pub past_low : (xs rest : List ℕ) → Low xs → IsUtf8 (xs ++ rest) → IsUtf8 rest
past_low [] rest h u = u
past_low (x ∷ xs) rest h u =
    past_low xs rest h.1 (IsUtf8-past_char ((x ∷ xs) ++ rest) (xs ++ rest) x u (ap (λ l. l ++ (xs ++ rest)) (sym (encode_ascii x h.0))))

-- ---- other characters

abbrev High : List ℕ → Type 0
High [] = ⊤
High (x ∷ xs) = (128 ≤ x) × High xs

high_escape : (x : ℕ) → 128 ≤ x → escape_byte x ≡ x ∷ []
high_escape x h = escape_byte_plain x (λ e. omega arith) (λ e. omega arith) (omega arith)

-- bytes that aren't ASCII stand as they are
high_front : (hs s left rest : List ℕ) → High hs → hs ++ rest ≡ escape s ++ 34 ∷ left →
    (t : List ℕ) × (s ≡ hs ++ t) × (rest ≡ escape t ++ 34 ∷ left)
high_front [] s left rest h same = (s, refl, same)
high_front (x ∷ hs) [] left rest h same = absurd (omega (arith, h.0, ap (λ l. get_or l 0 0) same))
high_front (x ∷ hs) (y ∷ s) left rest h same = go (form y) (high_front hs s left rest h.1)
  where
    whole : x ∷ (hs ++ rest) ≡ escape_byte y ++ (escape s ++ 34 ∷ left)
    whole = same ∙ append_assoc (escape_byte y) (escape s) (34 ∷ left)

    first : (b : ℕ) (bs : List ℕ) → escape_byte y ≡ b ∷ bs → x ≡ b
    first b bs is = ap (λ l. get_or l 0 0) (whole ∙ ap (λ l. l ++ (escape s ++ 34 ∷ left)) is)

    go : Form y → (hs ++ rest ≡ escape s ++ 34 ∷ left → (t : List ℕ) × (s ≡ hs ++ t) × (rest ≡ escape t ++ 34 ∷ left))
        → (t : List ℕ) × (y ∷ s ≡ x ∷ (hs ++ t)) × (rest ≡ escape t ++ 34 ∷ left)
    go (inl p) more =
        let e : x ≡ y = first y [] p.0 in
        let later = more (ap (drop 1) (whole ∙ ap (λ l. l ++ (escape s ++ 34 ∷ left)) p.0)) in
        (later.0, (λ i. sym e i ∷ later.1 i), later.2)
    go (inr (inl p)) more = absurd (omega (arith, h.0, first 92 _ p.3))
    go (inr (inr p)) more = absurd (omega (arith, h.0, first 92 _ p.2))

high_bytes : (bs : List ℕ) → ((k : ℕ) → k < length bs → 128 ≤ get_or bs k 0) → High bs
high_bytes [] h = tt
high_bytes (b ∷ bs) h = (h 0 (omega arith), high_bytes bs (λ k l. h (suc k) (omega arith)))

high_encode : (c : ℕ) → 128 ≤ c → High (encode c)
high_encode c h = high_bytes (encode c) (λ k l. go k l (cases_lt (get_or (encode c) k 0) 128))
  where
    go : (k : ℕ) → k < length (encode c) → (get_or (encode c) k 0 < 128) ⊎ (128 ≤ get_or (encode c) k 0) → 128 ≤ get_or (encode c) k 0
    go k l (inl low) = absurd (omega (arith, h, inside_one c [] (encode c) k (sym (append-nil (encode c))) l low))
    go k l (inr high) = high

-- ---- text

one_byte : (x : ℕ) → x < 128 → (i : ℕ) → slice_index (x ∷ []) i < 128
one_byte x h zero = h
one_byte x h (suc i) = omega arith

text_step : (x : ℕ) (s left : List ℕ) → IsUtf8 (escape (x ∷ s) ++ 34 ∷ left) →
    ((t : List ℕ) → length t ≤ length s → IsUtf8 (escape t ++ 34 ∷ left) → IsUtf8 t) → (x < 128) ⊎ (128 ≤ x) → IsUtf8 (x ∷ s)
text_step x s left u ih (inl low) =
    IsUtf8-append (x ∷ []) s (IsUtf8-from_ascii (x ∷ []) (one_byte x low))
    (ih s (omega arith) (past_low (escape_byte x) (escape s ++ 34 ∷ left) (low_escape x low)
    (subst IsUtf8 (append_assoc (escape_byte x) (escape s) (34 ∷ left)) u)))
text_step x s left u ih (inr high) = by u.0 u.1.0 u.1.1
  where
    front : escape (x ∷ s) ++ 34 ∷ left ≡ x ∷ (escape s ++ 34 ∷ left)
    front = ap (λ l. (l ++ escape s) ++ 34 ∷ left) (high_escape x high)

    above : (c : ℕ) (cs : List ℕ) → encodes (c ∷ cs) ≡ escape (x ∷ s) ++ 34 ∷ left → (c < 128) ⊎ (128 ≤ c) → 128 ≤ c
    above c cs e (inl l) = absurd (omega (
      arith,
      high,
      l,
      byte_from_char (escape (x ∷ s) ++ 34 ∷ left) (encodes cs) c (sym e) l,
      ap (λ l. get_or l 0 0) front,
    ))
    above c cs e (inr m) = m

    by : (cs : List ℕ) → scalars cs ≡ true → encodes cs ≡ escape (x ∷ s) ++ 34 ∷ left → IsUtf8 (x ∷ s)
    by [] v e = absurd (omega (arith, ap length (e ∙ front)))
    by (c ∷ cs) v e =
        let both = and_parts (scalar c) (scalars cs) v in
        let f = high_front (encode c) (x ∷ s) left (encodes cs) (high_encode c (above c cs e (cases_lt c 128))) e in
        let shorter : length f.0 ≤ length s =
        omega (arith, ap length f.1, length-append (encode c) f.0, length-encode c, (len_utf8_bounds c).0) in
        subst IsUtf8 (sym f.1) (IsUtf8-append (encode c) f.0 (IsUtf8-encode c both.0) (ih f.0 shorter (cs, (both.1, f.2))))

text_within : (n : ℕ) (s left : List ℕ) → length s ≤ n → IsUtf8 (escape s ++ 34 ∷ left) → IsUtf8 s
text_within n [] left h u = IsUtf8-nil
text_within zero (x ∷ s) left h u = absurd (omega arith)
text_within (suc n) (x ∷ s) left h u =
    text_step x s left u (λ t l. text_within n t left (omega arith)) (cases_lt x 128)

-- what a string's spelling stands for is text where what it stands in is
pub text_unescaped : (s left : List ℕ) → IsUtf8 (escape s ++ 34 ∷ left) → IsUtf8 s
text_unescaped s left u = text_within (length s) s left (omega arith) u
