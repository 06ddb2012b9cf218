-- How the texts of data begin, and what follows them.
use Rattle.std.proofs.Common.{◌≡◌, ◌≢◌, ◌≤◌, ◌<◌, ℕ, List, [], ◌∷◌, ◌++◌, get_or, drop, Bool, true}
use Rattle.std.proofs.Common.{false, Result, Ok, Err, is_some, inl, inr, refl, sym, ap, subst, ◌∙◌}
use Rattle.std.proofs.Common.{arith, length}
use Rattle.std.proofs.Common.{true≢false}
use Rattle.std.proofs.lemmas.List.{append_cancel_left}
use Rattle.std.specs.Prelude.{MatchResult}
use Rattle.json.specs.Print.{quoted}
use Rattle.serde_json.specs.Data.{Num, Data, null, boolean, number, string, array, object, depth}
use Rattle.serde_json.specs.Find.{as_i64}
use Rattle.serde_json.specs.Written.{compact_text, number_text}
use Rattle.fp_base.specs.Ordered.{IsWritten}
use Rattle.fp_canonical.specs.Reads.{Reads}
use Rattle.fp_canonical.proofs.Digits.{IsEither, digit_first, either}

-- the first byte
abbrev pub IsLead : Data → ℕ → Type 0
IsLead null b = b ≡ 110
IsLead (boolean true) b = b ≡ 116
IsLead (boolean false) b = b ≡ 102
IsLead (number n) b = (45 ≤ b) × (b ≤ 57)
IsLead (string s) b = b ≡ 34
IsLead (array ds) b = b ≡ 91
IsLead (object ms) b = b ≡ 123

-- a text that begins with data's
pub record Begins (d : Data) (text : List ℕ) : Type 0 where
  pub byte : ℕ
  pub bytes : List ℕ
  pub begins : text ≡ byte ∷ bytes
  pub lead : IsLead d byte

split_first : (text : List ℕ) → 0 < length text → text ≡ get_or text 0 0 ∷ drop 1 text
split_first [] some = absurd (omega arith)
split_first (x ∷ xs) some = refl

number_begins : (n : Num) (text left : List ℕ) → IsEither n → text ≡ number_text n ++ left → Begins (number n) text
number_begins n text left (inl p) is =
    let first = digit_first p.0 left (omega (arith, p.2)) text (is ∙ ap (λ x. number_text x ++ left) p.1) in
    record {
      byte = get_or text 0 0;
      bytes = drop 1 text;
      begins = split_first text first.0;
      lead = (omega (arith, first), omega (arith, first));
    }
number_begins n text left (inr p) is =
    record { byte = 45; bytes = _; begins = is ∙ ap (λ x. number_text x ++ left) p.1; lead = (omega arith, omega arith) }

pub begins : (limit : ℕ) (d : Data) (text left : List ℕ) → Reads limit d text left → Begins d text
begins limit null text left r = record { byte = 110; bytes = _; begins = r.spelled; lead = refl }
begins limit (boolean true) text left r = record { byte = 116; bytes = _; begins = r.spelled; lead = refl }
begins limit (boolean false) text left r = record { byte = 102; bytes = _; begins = r.spelled; lead = refl }
begins limit (number n) text left r = number_begins n text left (either n r.ordered r.whole) r.spelled
begins limit (string s) text left r = record { byte = 34; bytes = _; begins = r.spelled; lead = refl }
begins limit (array ds) text left r = record { byte = 91; bytes = _; begins = r.spelled; lead = refl }
begins limit (object ms) text left r = record { byte = 123; bytes = _; begins = r.spelled; lead = refl }

pub no_bracket : (d : Data) (b : ℕ) → IsLead d b → b ≢ 93
no_bracket null b h = λ e. omega (arith, h, e)
no_bracket (boolean true) b h = λ e. omega (arith, h, e)
no_bracket (boolean false) b h = λ e. omega (arith, h, e)
no_bracket (number n) b h = λ e. omega (arith, h, e)
no_bracket (string s) b h = λ e. omega (arith, h, e)
no_bracket (array ds) b h = λ e. omega (arith, h, e)
no_bracket (object ms) b h = λ e. omega (arith, h, e)

-- ---- by the first byte

-- the text begins with no other byte
abbrev pub Starts : List ℕ → ℕ → Type 0
Starts text b = (byte : ℕ) (rest : List ℕ) → text ≡ byte ∷ rest → b ≡ byte

module _ (limit : ℕ) (text left : List ℕ) where
  pub starts : (b : ℕ) (d : Data) → Starts text b → Reads limit d text left → IsLead d b
  starts b d s r = let f = begins limit d text left r in subst (IsLead d) (sym (s f.byte f.bytes f.begins)) f.lead

  pub string_here : (d : Data) → depth d ≡ 0 → Starts text 34 → Reads limit d text left → (s : List ℕ) × (text ≡ quoted s ++ left)
  string_here null z s r = absurd (omega (arith, starts 34 null s r))
  string_here (boolean true) z s r = absurd (omega (arith, starts 34 (boolean true) s r))
  string_here (boolean false) z s r = absurd (omega (arith, starts 34 (boolean false) s r))
  string_here (number n) z s r = absurd (omega (arith, starts 34 (number n) s r))
  string_here (string t) z s r = (t, r.spelled)
  string_here (array ds) z s r = absurd (omega (arith, z))
  string_here (object ms) z s r = absurd (omega (arith, z))

  pub true_here : (d : Data) → depth d ≡ 0 → Starts text 116 → Reads limit d text left → text ≡ compact_text (boolean true) ++ left
  true_here null z s r = absurd (omega (arith, starts 116 null s r))
  true_here (boolean true) z s r = r.spelled
  true_here (boolean false) z s r = absurd (omega (arith, starts 116 (boolean false) s r))
  true_here (number n) z s r = absurd (omega (arith, starts 116 (number n) s r))
  true_here (string t) z s r = absurd (omega (arith, starts 116 (string t) s r))
  true_here (array ds) z s r = absurd (omega (arith, z))
  true_here (object ms) z s r = absurd (omega (arith, z))

  pub false_here : (d : Data) → depth d ≡ 0 → Starts text 102 → Reads limit d text left → text ≡ compact_text (boolean false) ++ left
  false_here null z s r = absurd (omega (arith, starts 102 null s r))
  false_here (boolean true) z s r = absurd (omega (arith, starts 102 (boolean true) s r))
  false_here (boolean false) z s r = r.spelled
  false_here (number n) z s r = absurd (omega (arith, starts 102 (number n) s r))
  false_here (string t) z s r = absurd (omega (arith, starts 102 (string t) s r))
  false_here (array ds) z s r = absurd (omega (arith, z))
  false_here (object ms) z s r = absurd (omega (arith, z))

  pub null_here : (d : Data) → depth d ≡ 0 → Starts text 110 → Reads limit d text left → text ≡ compact_text null ++ left
  null_here null z s r = r.spelled
  null_here (boolean true) z s r = absurd (omega (arith, starts 110 (boolean true) s r))
  null_here (boolean false) z s r = absurd (omega (arith, starts 110 (boolean false) s r))
  null_here (number n) z s r = absurd (omega (arith, starts 110 (number n) s r))
  null_here (string t) z s r = absurd (omega (arith, starts 110 (string t) s r))
  null_here (array ds) z s r = absurd (omega (arith, z))
  null_here (object ms) z s r = absurd (omega (arith, z))

  -- what is no string and no word
  pub number_here : (b : ℕ) (d : Data) → depth d ≡ 0 → Starts text b → b ≢ 34 → b ≢ 116 → b ≢ 102 → b ≢ 110 → Reads limit d text left →
      (n : Num) × IsWritten n × (is_some (as_i64 n) ≡ true) × (text ≡ number_text n ++ left)
  number_here b null z s p q t u r = absurd (u (starts b null s r))
  number_here b (boolean true) z s p q t u r = absurd (q (starts b (boolean true) s r))
  number_here b (boolean false) z s p q t u r = absurd (t (starts b (boolean false) s r))
  number_here b (number n) z s p q t u r = (n, r.ordered, r.whole, r.spelled)
  number_here b (string v) z s p q t u r = absurd (p (starts b (string v) s r))
  number_here b (array ds) z s p q t u r = absurd (omega (arith, z))
  number_here b (object ms) z s p q t u r = absurd (omega (arith, z))

-- ---- answers

pub match_weaker : {A E : Type 0} (r : Result A E) (P Q : A → Type 0) (R S : E → Type 0) → MatchResult r P R → ((a : A) → P a → Q a) →
    ((e : E) → R e → S e) → MatchResult r Q S
match_weaker (Ok a) P Q R S h f g = f a h
match_weaker (Err e) P Q R S h f g = g e h

-- a word that was taken
pub word_taken : {A E : Type 0} (r : Result A E) (taken : Bool) (Q : A → Type 0) (word text new left : List ℕ) → text ≡ word ++ left →
    ((rest : List ℕ) → text ≡ word ++ rest → taken ≡ true) → (taken ≡ true → text ≡ word ++ new) →
    MatchResult r (λ a. (taken ≡ true) × Q a) (λ _. taken ≡ false) → MatchResult r (λ _. new ≡ left) (λ _. ⊥)
word_taken r taken Q word text new left is next behind h =
    let yes = next left is in
    match_weaker r _ _ _ _ h (λ a p. append_cancel_left word new left (sym (behind yes) ∙ is)) (λ e p. true≢false (sym yes ∙ p))
