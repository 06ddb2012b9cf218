-- Keys and definitions: what is read is spelled there, and what is spelled there is read.
use Rattle.std.proofs.Common.{◌≡◌, ℕ, ◌+◌, ◌^◌, ◌<◌, ◌≤◌, Bool, true, cond, leb, ◌&&◌, List, ◌++◌, length, Result, Ok}
use Rattle.std.proofs.Common.{Err, refl, sym, subst, append_assoc, arith}
use Rattle.std.specs.Int.{Width, w16, w32, to_be_bytes}
use Rattle.std.specs.Str.{is_utf8}
use Rattle.std.proofs.lemmas.Bool.{leb-true, le-leb}
use Rattle.std.proofs.lemmas.Str.{IsUtf8-from_is_utf8, is_utf8-from_IsUtf8}
use Rattle.fp_definition.specs.Valid.{is_definition_text}
use Rattle.fp_base.specs.Steps.{◌>>=◌}
use Rattle.fp_record.specs.Fields.{number_at, bytes_at, key_at, definition_at}
use Rattle.fp_record.specs.WellFormed.{IsKey, IsText}
use Rattle.fp_record.specs.Encoding.{encoding_of_key, encoding_of_definition}
use Rattle.fp_record.proofs.Texts.{definition_short}
use Rattle.fp_record.proofs.Places.{IsBytes, bind_ok, met, both_true, ok_is, From, From-behind, Takes, Takes-then}
use Rattle.fp_record.proofs.Places.{IsWide, wide16, wide32, number_takes, number_again, bytes_take, bytes_again}
use Rattle.fp_definition.specs.declared.key.TheConstants.{LONGEST_KEY}
use Rattle.fp_definition.specs.declared.definition.TheConstants.{LONGEST_DEFINITION}

-- a text behind its length, where both pass a test
module _ (w : Width) (limit : ℕ) (wide : IsWide w limit) (long : ℕ → Bool) (good : List ℕ → Bool) where
  abbrev text_at : List ℕ → ℕ → Result (List ℕ × ℕ) ℕ
  text_at bytes at = number_at w bytes at >>= λ len. cond (long len.0) (bytes_at len.0 bytes len.1) (Err at) >>=
      λ text. cond (good text.0) (Ok text) (Err len.1)

  text_takes : (bytes : List ℕ) (at : ℕ) (x : List ℕ × ℕ) → IsBytes bytes → text_at bytes at ≡ Ok x →
      (Takes bytes at (to_be_bytes w (length x.0) ++ x.0) x.1 × (long (length x.0) ≡ true)) × (good x.0 ≡ true)
  text_takes bytes at x fits e =
      let a = bind_ok (number_at w bytes at)
      (λ len. cond (long len.0) (bytes_at len.0 bytes len.1) (Err at) >>= λ text. cond (good text.0) (Ok text)
      (Err len.1)) x e in
      let len = a.0 in
      let b = bind_ok (cond (long len.0) (bytes_at len.0 bytes len.1) (Err at)) (λ text. cond (good text.0) (Ok text) (Err len.1)) x a.2 in
      let text = b.0 in
      let g = met (long len.0) at (bytes_at len.0 bytes len.1) text b.1 in
      let m = met (good text.0) len.1 (Ok text) x b.2 in
      let first = number_takes w limit wide bytes at len fits a.1 in
      let second = bytes_take bytes len.0 len.1 text g.1 in
      let both = Takes-then bytes at (to_be_bytes w len.0) len.1 text.0 text.1 first.0 second.0 in
      subst (λ (y : List ℕ × ℕ). (Takes bytes at (to_be_bytes w (length y.0) ++ y.0) y.1 ×
      (long (length y.0) ≡ true)) × (good y.0 ≡ true)) (ok_is text x m.1)
      (subst (λ (n : ℕ). Takes bytes at (to_be_bytes w n ++ text.0) text.1 × (long n ≡ true)) (sym second.1) (both, g.0), m.0)

  text_again : (bytes : List ℕ) (at : ℕ) (text rest : List ℕ) → length text < limit → long (length text) ≡ true →
      good text ≡ true → From bytes at ((to_be_bytes w (length text) ++ text) ++ rest)
      → (next : ℕ) × (text_at bytes at ≡ Ok (text, next)) × From bytes next rest
  text_again bytes at text rest lt is_long is_good h =
      let n = number_again w limit wide bytes at (length text) (text ++ rest) lt
      (subst (λ (t : List ℕ). From bytes at t) (append_assoc (to_be_bytes w (length text)) text rest) h) in (
        n.0 + length text,
        rw (n.1, is_long, bytes_again bytes n.0 text rest n.2, is_good) (refl {a = Ok (text, n.0 + length text)}),
        From-behind bytes n.0 text rest n.2,
      )

abbrev key_long : ℕ → Bool
key_long n = leb 1 n && leb n LONGEST_KEY

pub key_takes : (bytes : List ℕ) (at : ℕ) (x : List ℕ × ℕ) → IsBytes bytes → key_at bytes at ≡ Ok x →
    Takes bytes at (encoding_of_key x.0) x.1 × IsKey x.0
unfolding key_at encoding_of_key
key_takes bytes at x fits e = let t = text_takes w16 (2 ^ 16) wide16 key_long is_utf8 bytes at x fits e in
    (t.0.0, record { long = t.0.1; utf8 = IsUtf8-from_is_utf8 x.0 t.1 })

pub key_again : (bytes : List ℕ) (at : ℕ) (key rest : List ℕ) → IsKey key →
    From bytes at (encoding_of_key key ++ rest) → (next : ℕ) × (key_at bytes at ≡ Ok (key, next)) ×
    From bytes next rest
unfolding key_at encoding_of_key
key_again bytes at key rest is h =
    let short : length key ≤ LONGEST_KEY =
    leb-true (length key) LONGEST_KEY (both_true (leb 1 (length key)) (leb (length key) LONGEST_KEY) is.long).1 in
    text_again w16 (2 ^ 16) wide16 key_long is_utf8 bytes at key rest (omega arith) is.long (is_utf8-from_IsUtf8 key is.utf8) h

pub definition_takes : (bytes : List ℕ) (at : ℕ) (x : List ℕ × ℕ) → IsBytes bytes → definition_at bytes at ≡ Ok x →
    Takes bytes at (encoding_of_definition x.0) x.1 × IsText x.0
unfolding definition_at encoding_of_definition
definition_takes bytes at x fits e = let t =
    text_takes w32 (2 ^ 32) wide32 (λ n. leb n LONGEST_DEFINITION) is_definition_text bytes at x fits e in
    (t.0.0, record { canonical = t.1 })

pub definition_again : (bytes : List ℕ) (at : ℕ) (text rest : List ℕ) → IsText text →
    From bytes at (encoding_of_definition text ++ rest) → (next : ℕ) × (definition_at bytes at ≡ Ok (text, next)) ×
    From bytes next rest
unfolding definition_at encoding_of_definition
definition_again bytes at text rest is h =
    let short = definition_short text is.canonical in
    text_again w32 (2 ^ 32) wide32 (λ n. leb n LONGEST_DEFINITION) is_definition_text bytes at text rest
    (omega arith) (le-leb _ _ short) is.canonical h
