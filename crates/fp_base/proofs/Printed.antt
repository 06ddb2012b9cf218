-- What is put of data is text, and is read as them.
use Rattle.std.proofs.Common.{◌≡◌, ◌≤◌, ℕ, List, [], ◌∷◌, ◌++◌, Bool, true, false, Some, ℤ, pos, None, decimal, refl}
use Rattle.std.proofs.Common.{sym, ap, subst, ◌∙◌, append_assoc}
use lib.Signed.{mag}
use Rattle.std.specs.Fmt.{signed_decimal}
use Rattle.std.specs.Prelude.{◌^◌, ◌<◌, if◌then◌else◌, nat_lt, unwrap_or}
use Rattle.std.specs.Str.{IsUtf8}
use Rattle.std.proofs.lemmas.Option.{none-some}
use Rattle.std.proofs.lemmas.Str.{IsUtf8-append}
use Rattle.json.specs.Lex.{tokens}
use Rattle.json.specs.Print.{quoted, IsNumber}
use Rattle.json.specs.Tree.{json_tokens}
use Rattle.json.proofs.Printed.Decimals.{IsNumber-signed_decimal}
use Rattle.json.proofs.Printed.Tokens.{tokens-print}
use Rattle.json.proofs.Printed.Trees.{ArePrintable-json_tokens}
use Rattle.json.proofs.Printed.Utf8.{IsUtf8-are_ascii}
use Rattle.serde_json.specs.Data.{Num, unsigned, negative, float, Data, number, depth, Items, no_items, item, Members, no_members, member}
use Rattle.serde_json.specs.Written.{comma_if, compact_text, items_text, members_text, number_text, outline}
use Rattle.serde_json.specs.Find.{as_i64}
use Rattle.serde_json.proofs.Texts.{print-outline}
use Rattle.fp_base.specs.Json.{json_of}
use Rattle.fp_base.specs.Ordered.{IsOrdered}
use Rattle.fp_base.specs.Printed.{IsPrinted, AreItemsPrinted, AreMembersPrinted}
use Rattle.fp_base.specs.Whole.{is_whole}
use Rattle.fp_base.proofs.Back.{print-reads}

-- ---- behind what is there

pub behind_comma : (old one two comma text rest : List ℕ) → one ≡ old ++ comma → two ≡ one ++ text →
    two ++ rest ≡ old ++ (comma ++ (text ++ rest))
behind_comma old one two comma text rest p q =
    ap (λ xs. xs ++ rest) (q ∙ ap (λ xs. xs ++ text) p) ∙ append_assoc (old ++ comma) text rest ∙ append_assoc old comma (text ++ rest)

pub behind_name : (old one two comma name text rest : List ℕ) → one ≡ old ++ (comma ++ (name ++ 58 ∷ [])) →
    two ≡ one ++ text → two ++ rest ≡ old ++ (comma ++ (name ++ 58 ∷ (text ++ rest)))
behind_name old one two comma name text rest p q =
    behind_comma old one two (comma ++ (name ++ 58 ∷ [])) text rest p q
    ∙ ap (λ xs. old ++ xs) (append_assoc comma (name ++ 58 ∷ []) (text ++ rest) ∙
    ap (λ xs. comma ++ xs) (append_assoc name (58 ∷ []) (text ++ rest)))

-- ---- printed

comma : (later : Bool) → IsUtf8 (comma_if later)
comma true = IsUtf8-are_ascii (44 ∷ []) refl
comma false = IsUtf8-are_ascii [] refl

pub colon_behind : (s : List ℕ) → IsUtf8 s → IsUtf8 (58 ∷ s)
colon_behind s h = IsUtf8-append (58 ∷ []) s (IsUtf8-are_ascii (58 ∷ []) refl) h

pub bracket_before : (s : List ℕ) → IsUtf8 s → IsUtf8 (91 ∷ s)
bracket_before s h = IsUtf8-append (91 ∷ []) s (IsUtf8-are_ascii (91 ∷ []) refl) h

pub brace_before : (s : List ℕ) → IsUtf8 s → IsUtf8 (123 ∷ s)
brace_before s h = IsUtf8-append (123 ∷ []) s (IsUtf8-are_ascii (123 ∷ []) refl) h

pub no_items_printed : (later : Bool) → AreItemsPrinted later no_items
no_items_printed later = (IsUtf8-are_ascii (93 ∷ []) refl, tt)

pub no_members_printed : (later : Bool) → AreMembersPrinted later no_members
no_members_printed later = (IsUtf8-are_ascii (125 ∷ []) refl, tt)

pub item_printed : (later : Bool) (d : Data) (ds : Items) → IsPrinted d → AreItemsPrinted true ds → AreItemsPrinted later (item d ds)
item_printed later d ds h rest = (
  IsUtf8-append (comma_if later) _ (comma later) (IsUtf8-append (compact_text d) (items_text true ds) h.0 rest.0),
  (h.1, rest.1),
)

pub member_printed : (later : Bool) (k : List ℕ) (d : Data) (ms : Members) → IsUtf8 (quoted k) → IsPrinted d →
    AreMembersPrinted true ms → AreMembersPrinted later (member k d ms)
member_printed later k d ms name h rest = (
  IsUtf8-append (comma_if later) _ (comma later)
      (IsUtf8-append (quoted k) _ name (colon_behind _ (IsUtf8-append (compact_text d) (members_text true ms) h.0 rest.0))),
  (h.1, rest.1),
)

-- what is printed of ordered data is read as them
pub reads_back : (d : Data) → IsPrinted d → IsOrdered d → is_whole d ≡ true → depth d ≤ 127 → json_of (compact_text d) ≡ Some d
reads_back d printed o w flat =
    print-reads (compact_text d) d
    (ap tokens (sym (print-outline d)) ∙
    tokens-print (json_tokens (outline d)) (ArePrintable-json_tokens (outline d) printed.1)) printed.0 o w flat

-- the text of a whole number is that of its integer
number_is : (n : Num) (z : ℤ) → as_i64 n ≡ Some z → number_text n ≡ signed_decimal z
number_is (unsigned n) z h = below (nat_lt n (2 ^ 63)) h
  where
    below : (b : Bool) → (if b then Some (pos n) else None) ≡ Some z → decimal n ≡ signed_decimal z
    below true e = ap (λ o. signed_decimal (unwrap_or o z)) e
    below false e = absurd (none-some z e)
number_is (negative y) z h = ap (λ o. signed_decimal (unwrap_or o z)) h
number_is (float x) z h = absurd (none-some z h)

pub number_printed : (n : Num) (z : ℤ) → as_i64 n ≡ Some z → mag z < 2 ^ 63 → IsUtf8 (signed_decimal z) → IsPrinted (number n)
number_printed n z is fits utf8 =
    let same = sym (number_is n z is) in (subst IsUtf8 same utf8, subst IsNumber same (IsNumber-signed_decimal z fits))
