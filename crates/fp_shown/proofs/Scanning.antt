-- What a scan passes over: texts in quotes, and values whose numbers are whole.
use Rattle.std.proofs.Common.{◌≡◌, ◌≤◌, ◌<◌, ◌+◌, ◌-◌, ◌/◌, ◌%◌, ◌==◌, ◌⊎◌, ℕ, zero, suc, ℤ, pos}
use Rattle.std.proofs.Common.{negsuc, List, [], ◌∷◌, ◌++◌, Bool, true, false, not, ◌&&◌, Option}
use Rattle.std.proofs.Common.{Some, None, inl, inr, refl, sym, ap, subst, ◌∙◌, append_assoc, arith}
use Rattle.std.proofs.Common.{true≢false}
use Rattle.std.specs.Prelude.{if◌then◌else◌, is_some, decimal}
use Rattle.std.specs.Fmt.{digit_glyph, digits, digits_onto, signed_decimal}
use Rattle.std.proofs.lemmas.Bool.{and_parts, cases_eq, cases_lt, ne_eqb, lt-ltb}
use Rattle.json.specs.Print.{escape, escape_byte, quoted}
use Rattle.json.proofs.Printed.Strings.{escape_byte_plain}
use Rattle.serde_json.specs.Data.{Num, unsigned, negative, float, Data, null, boolean, number}
use Rattle.serde_json.specs.Data.{string, array, object, Items, no_items, item, Members, no_members}
use Rattle.serde_json.specs.Data.{member}
use Rattle.serde_json.specs.Find.{as_i64}
use Rattle.serde_json.specs.Written.{comma_if, compact_text, items_text, members_text, number_text}
use Rattle.fp_base.specs.Whole.{is_whole, items_whole, members_whole}
use Rattle.fp_shown.specs.Scan.{after, closes, is_done, opens}
use Rattle.fp_shown.specs.declared.members.Place.TheVariants.{Between, Quoted}
use Rattle.fp_shown.specs.declared.members.Scan.{Scan}

abbrev pub between_at : ℕ → Scan
between_at n = record { depth = n; place = Between }

abbrev pub quoted_at : ℕ → Scan
quoted_at n = record { depth = n; place = Quoted }

-- what stands behind the value that a scan is in
abbrev pub behind : Scan → List ℕ → Option (List ℕ)
behind s [] = None
behind s (x ∷ xs) =
    if is_done (after s.place s.depth x) then Some xs else behind (after s.place s.depth x) xs

-- where a value has ended in so many others
abbrev pub leave : ℕ → List ℕ → Option (List ℕ)
leave n r = if n == 0 then Some r else behind (between_at n) r

leave-some : (n : ℕ) (r : List ℕ) → (n == 0) ≡ false → leave n r ≡ behind (between_at n) r
leave-some n r some = ap (λ b. if b then Some r else behind (between_at n) r) some

more_than_none : (n : ℕ) → (n + 1 == 0) ≡ false
more_than_none n = ne_eqb (n + 1) 0 (λ e. omega (arith, e))

-- ---- texts in quotes

abbrev Passes : ℕ → Type 0
Passes x = (n : ℕ) (r : List ℕ) → behind (quoted_at n) (escape_byte x ++ r) ≡ behind (quoted_at n) r

abbrev Each : ℕ → Type 0
Each zero = Unit {0}
Each (suc n) = Passes n × Each n

each_below : (n : ℕ) → Each n → (x : ℕ) → x < n → Passes x
each_below zero h x lt = absurd (omega (arith, lt))
each_below (suc n) h x lt = elim (cases_eq x n) [
  | inl same ↦ subst Passes (sym same) h.0
  | inr other ↦ each_below n h.1 x (omega (arith, lt, other))
]

infixr 5 ◌and◌
-- what is known of one byte, and of those below it
abbrev ◌and◌ : {A B : Type 0} → A → B → A × B
a and b = (a, b)

below_8 : Each 8
unfolding escape_byte
below_8 =
    (λ n r. refl) and (λ n r. refl) and (λ n r. refl) and (λ n r. refl) and
    (λ n r. refl) and (λ n r. refl) and (λ n r. refl) and (λ n r. refl) and tt

below_16 : Each 16
unfolding escape_byte
below_16 =
    (λ n r. refl) and (λ n r. refl) and (λ n r. refl) and (λ n r. refl) and
    (λ n r. refl) and (λ n r. refl) and (λ n r. refl) and (λ n r. refl) and below_8

below_24 : Each 24
unfolding escape_byte
below_24 =
    (λ n r. refl) and (λ n r. refl) and (λ n r. refl) and (λ n r. refl) and
    (λ n r. refl) and (λ n r. refl) and (λ n r. refl) and (λ n r. refl) and below_16

below_32 : Each 32
unfolding escape_byte
below_32 =
    (λ n r. refl) and (λ n r. refl) and (λ n r. refl) and (λ n r. refl) and
    (λ n r. refl) and (λ n r. refl) and (λ n r. refl) and (λ n r. refl) and below_24

quote_passes : Passes 34
unfolding escape_byte
quote_passes n r = refl

backslash_passes : Passes 92
unfolding escape_byte
backslash_passes n r = refl

plain_passes : (x : ℕ) → (x ≡ 34 → ⊥) → (x ≡ 92 → ⊥) → 32 ≤ x → Passes x
plain_passes x q b l = λ n r. rw (escape_byte_plain x q b l, ne_eqb x 34 q, ne_eqb x 92 b) refl

passes : (x : ℕ) → Passes x
passes x = go (cases_eq x 34) (cases_eq x 92) (cases_lt x 32)
  where
    go : (x ≡ 34) ⊎ (x ≡ 34 → ⊥) → (x ≡ 92) ⊎ (x ≡ 92 → ⊥) → (x < 32) ⊎ (32 ≤ x) → Passes x
    go (inl e) b c = subst Passes (sym e) quote_passes
    go (inr q) (inl e) c = subst Passes (sym e) backslash_passes
    go (inr q) (inr b) (inl c) = each_below 32 below_32 x c
    go (inr q) (inr b) (inr l) = plain_passes x q b l

behind-escape : (s : List ℕ) (n : ℕ) (r : List ℕ)
    → behind (quoted_at n) (escape s ++ r) ≡ behind (quoted_at n) r
behind-escape [] n r = refl
behind-escape (x ∷ s) n r = ap (behind (quoted_at n)) (append_assoc (escape_byte x) (escape s) r)
    ∙ passes x n (escape s ++ r) ∙ behind-escape s n r

pub behind-quoted : (s : List ℕ) (n : ℕ) (r : List ℕ)
    → behind (between_at n) (quoted s ++ r) ≡ leave n r
behind-quoted s n r = ap (behind (quoted_at n)) (append_assoc (escape s) (34 ∷ []) r)
    ∙ behind-escape s n (34 ∷ r)

-- ---- bytes that neither begin a text nor open or close anything

abbrev is_passed : ℕ → Bool
is_passed b = not (b == 34) && (not (opens b) && not (closes b))

abbrev all_passed : List ℕ → Bool
all_passed [] = true
all_passed (b ∷ bs) = is_passed b && all_passed bs

no : (b : Bool) → not b ≡ true → b ≡ false
no true h = sym h
no false h = refl

behind-passed : (b n : ℕ) (r : List ℕ) → is_passed b ≡ true → (n == 0) ≡ false
    → behind (between_at n) (b ∷ r) ≡ behind (between_at n) r
behind-passed b n r h some =
    let parts = and_parts (not (b == 34)) (not (opens b) && not (closes b)) h in
    let brackets = and_parts (not (opens b)) (not (closes b)) parts.1 in
    rw (no (b == 34) parts.0, no (opens b) brackets.0, no (closes b) brackets.1, some) refl

behind-all : (bs : List ℕ) (n : ℕ) (r : List ℕ) → all_passed bs ≡ true → (n == 0) ≡ false
    → behind (between_at n) (bs ++ r) ≡ behind (between_at n) r
behind-all [] n r h some = refl
behind-all (b ∷ bs) n r h some =
    let parts = and_parts (is_passed b) (all_passed bs) h in
    behind-passed b n (bs ++ r) parts.0 some ∙ behind-all bs n r parts.1 some

passed-digit : (b : ℕ) → 48 ≤ b → b ≤ 57 → is_passed b ≡ true
passed-digit b low high =
    rw (
      ne_eqb b 34 (λ e. omega (arith, e, low)),
      ne_eqb b 123 (λ e. omega (arith, e, high)),
      ne_eqb b 91 (λ e. omega (arith, e, high)),
      ne_eqb b 125 (λ e. omega (arith, e, high)),
      ne_eqb b 93 (λ e. omega (arith, e, high)),
    ) refl

glyph : (d : ℕ) → d < 10 → digit_glyph false d ≡ 48 + d
glyph d h = ap (λ (b : Bool). if b then 48 + d else 87 + d) (lt-ltb d 10 h)

passed-glyph : (d : ℕ) → d < 10 → is_passed (digit_glyph false d) ≡ true
passed-glyph d h = ap is_passed (glyph d h) ∙ passed-digit (48 + d) (omega arith) (omega (arith, h))

passed-onto : (k n : ℕ) (acc : List ℕ) → all_passed acc ≡ true
    → all_passed (digits_onto k 10 false n acc) ≡ true
passed-onto zero n acc h = h
passed-onto (suc k) n acc h =
    let more : all_passed (digit_glyph false (n % 10) ∷ acc) ≡ true =
    rw (passed-glyph (n % 10) (omega arith)) h in
    let next = digit_glyph false (n % 10) ∷ acc in
    elim (n / 10 == 0) as
    (λ b. all_passed (if b then next else digits_onto k 10 false (n / 10) next) ≡ true) [
      | true ↦ more
      | false ↦ passed-onto k (n / 10) (digit_glyph false (n % 10) ∷ acc) more
    ]

passed-decimal : (n : ℕ) → all_passed (decimal n) ≡ true
unfolding digits
passed-decimal n = passed-onto 64 n [] refl

passed-number : (x : Num) → is_some (as_i64 x) ≡ true → all_passed (number_text x) ≡ true
passed-number (unsigned n) h = passed-decimal n
passed-number (negative z) h = passed-signed z
  where
    passed-signed : (z : ℤ) → all_passed (signed_decimal z) ≡ true
    passed-signed (pos n) = passed-decimal n
    passed-signed (negsuc n) = passed-decimal (suc n)
passed-number (float x) h = absurd (true≢false (sym h))

-- ---- values

opened : (b n : ℕ) (r : List ℕ)
    → (behind (between_at n) (b ∷ r) ≡
    (if n + 1 == 0 then Some r else behind (between_at (n + 1)) r))
    → behind (between_at n) (b ∷ r) ≡ behind (between_at (n + 1)) r
opened b n r e = e
    ∙ ap (λ t. if t then Some r else behind (between_at (n + 1)) r) (more_than_none n)

closed : (n : ℕ) (r : List ℕ) → leave (n + 1 - 1) r ≡ leave n r
closed n r = let same : n + 1 - 1 ≡ n = omega arith in ap (λ m. leave m r) same

comma-passed : (later : Bool) (n : ℕ) (r : List ℕ) → (n == 0) ≡ false
    → behind (between_at n) (comma_if later ++ r) ≡ behind (between_at n) r
comma-passed true n r some = behind-passed 44 n r refl some
comma-passed false n r some = refl

three : (a b c r : List ℕ) → (a ++ (b ++ c)) ++ r ≡ a ++ (b ++ (c ++ r))
three a b c r = append_assoc a (b ++ c) r ∙ ap (λ s. a ++ s) (append_assoc b c r)

mutual
  pub behind-value : (d : Data) → is_whole d ≡ true → (n : ℕ) (r : List ℕ) → (n == 0) ≡ false
      → behind (between_at n) (compact_text d ++ r) ≡ behind (between_at n) r
  behind-value null w n r some = behind-all (compact_text null) n r refl some
  behind-value (boolean true) w n r some = behind-all (compact_text (boolean true)) n r refl some
  behind-value (boolean false) w n r some = behind-all (compact_text (boolean false)) n r refl some
  behind-value (number x) w n r some = behind-all (number_text x) n r (passed-number x w) some
  behind-value (string s) w n r some = behind-quoted s n r ∙ leave-some n r some
  behind-value (array ds) w n r some = opened 91 n (items_text false ds ++ r) refl
      ∙ behind-items false ds w n r ∙ leave-some n r some
  behind-value (object ms) w n r some = opened 123 n (members_text false ms ++ r) refl
      ∙ behind-members false ms w n r ∙ leave-some n r some

  behind-items : (later : Bool) (ds : Items) → items_whole ds ≡ true → (n : ℕ) (r : List ℕ)
      → behind (between_at (n + 1)) (items_text later ds ++ r) ≡ leave n r
  behind-items later no_items w n r = closed n r
  behind-items later (item d ds) w n r =
      let parts = and_parts (is_whole d) (items_whole ds) w in
      ap (behind (between_at (n + 1)))
      (three (comma_if later) (compact_text d) (items_text true ds) r)
      ∙ comma-passed later (n + 1) (compact_text d ++ (items_text true ds ++ r)) (more_than_none n)
      ∙ behind-value d parts.0 (n + 1) (items_text true ds ++ r) (more_than_none n)
      ∙ behind-items true ds parts.1 n r

  pub behind-members : (later : Bool) (ms : Members) → members_whole ms ≡ true
      → (n : ℕ) (r : List ℕ) → behind (between_at (n + 1)) (members_text later ms ++ r) ≡ leave n r
  behind-members later no_members w n r = closed n r
  behind-members later (member k d ms) w n r =
      let parts = and_parts (is_whole d) (members_whole ms) w in
      let rest = compact_text d ++ (members_text true ms ++ r) in
      ap (behind (between_at (n + 1)))
      (three (comma_if later) (quoted k) (58 ∷ (compact_text d ++ members_text true ms)) r
      ∙ ap (λ s. comma_if later ++ (quoted k ++ 58 ∷ s))
      (append_assoc (compact_text d) (members_text true ms) r))
      ∙ comma-passed later (n + 1) (quoted k ++ 58 ∷ rest) (more_than_none n)
      ∙ behind-quoted k (n + 1) (58 ∷ rest)
      ∙ leave-some (n + 1) (58 ∷ rest) (more_than_none n)
      ∙ behind-passed 58 (n + 1) rest refl (more_than_none n)
      ∙ behind-value d parts.0 (n + 1) (members_text true ms ++ r) (more_than_none n)
      ∙ behind-members true ms parts.1 n r

-- an object by itself
pub behind-object : (ms : Members) → members_whole ms ≡ true → (r : List ℕ)
    → behind (between_at 0) (compact_text (object ms) ++ r) ≡ Some r
behind-object ms w r = opened 123 0 (members_text false ms ++ r) refl
    ∙ behind-members false ms w 0 r
