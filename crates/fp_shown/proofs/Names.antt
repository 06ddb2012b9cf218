-- Keys in quotes: how long they are, and that they are read as what they are.
use Rattle.std.proofs.Common.{◌≡◌, ◌≤◌, ◌<◌, ◌+◌, ◌*◌, ◌∷◌, ℕ, List, [], length, true, Option, Some}
use Rattle.std.proofs.Common.{None, refl, sym, ap, ◌∙◌, arith, rules}
use Rattle.std.specs.Prelude.{is_some, nat_le, unwrap_or}
use Rattle.std.specs.Str.{IsUtf8}
use Rattle.std.proofs.lemmas.Bool.{and_parts, false≢true, leb-true}
use Rattle.std.proofs.lemmas.List.{length-append}
use Rattle.json.specs.Lex.{tokens}
use Rattle.json.specs.Print.{ArePrintable, escape, escape_byte, quoted}
use Rattle.json.specs.Tree.{json_tokens}
use Rattle.json.proofs.Printed.Tokens.{tokens-print}
use Rattle.json.proofs.Printed.Utf8.{IsUtf8-quoted}
use Rattle.serde_json.specs.Data.{Data, string}
use Rattle.serde_json.specs.Find.{as_str}
use Rattle.serde_json.specs.Written.{outline}
use Rattle.serde_json.proofs.Texts.{print-outline}
use Rattle.fp_base.specs.Json.{json_of}
use Rattle.fp_base.proofs.Back.{print-reads}
use Rattle.fp_definition.specs.Key.{is_key}

few_bytes : (b : ℕ) → length (escape_byte b) ≤ 6
unfolding escape_byte
few_bytes b = search rules

length-escape : (s : List ℕ) → length (escape s) ≤ 6 * length s
length-escape [] = omega arith
length-escape (b ∷ s) =
    let here = few_bytes b in
    let rest = length-escape s in
    let both = length-append (escape_byte b) (escape s) in omega (arith, here, rest, both)

pub length-quoted : (s : List ℕ) → length (quoted s) ≤ 6 * length s + 2
length-quoted s =
    let inside = length-escape s in
    let both = length-append (escape s) (34 ∷ []) in omega (arith, inside, both)

tokens-quoted : (s : List ℕ) → tokens (quoted s) ≡ json_tokens (outline (string s))
unfolding ArePrintable
tokens-quoted s = ap tokens (sym (print-outline (string s)))
    ∙ tokens-print (json_tokens (outline (string s))) (tt, tt)

pub quoted-reads : (s : List ℕ) → IsUtf8 s → json_of (quoted s) ≡ Some (string s)
quoted-reads s utf8 =
    print-reads (quoted s) (string s) (tokens-quoted s) (IsUtf8-quoted s utf8) tt refl (omega arith)

-- what is read of a key in quotes is the key
pub read_as : (o : Option Data) (name key : List ℕ) → o ≡ json_of name → IsUtf8 key
    → name ≡ quoted key → o ≡ Some (string key)
read_as o name key is utf8 named = is ∙ ap json_of named ∙ quoted-reads key utf8

pub not_none : (o : Option Data) (name key : List ℕ) → o ≡ json_of name → o ≡ None → IsUtf8 key
    → name ≡ quoted key → ⊥
not_none o name key is none utf8 named =
    absurd (false≢true (ap is_some (sym none ∙ read_as o name key is utf8 named)))

pub text_read : (d : Data) (text : Option (List ℕ)) (name key : List ℕ) → Some d ≡ json_of name
    → text ≡ as_str d → IsUtf8 key → name ≡ quoted key → text ≡ Some key
text_read d text name key is told utf8 named =
    told ∙ ap (λ o. as_str (unwrap_or o d)) (read_as (Some d) name key is utf8 named)

pub too_long : (name key : List ℕ) → 1538 < length name → is_key key ≡ true → name ≡ quoted key → ⊥
too_long name key long is named =
    let short = leb-true (length key) 256
    (and_parts (nat_le 1 (length key)) (nat_le (length key) 256) is).1 in
    let same = ap length named in
    let most = length-quoted key in absurd (omega (arith, long, short, same, most))
