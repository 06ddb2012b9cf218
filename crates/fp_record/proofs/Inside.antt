-- Where reading ends, and where it finds a fault, lies within the bytes.
use Rattle.std.proofs.Common.{◌≡◌, ℕ, zero, suc, ◌+◌, ◌≤◌, Bool, true, false, cond, ◌&&◌, eqb, leb, ltb, List, [], ◌∷◌}
use Rattle.std.proofs.Common.{◌++◌, length, Result, Ok, Err, refl, arith, inl, inr}
use Rattle.std.specs.Prelude.{slice_range}
use Rattle.std.specs.Int.{Width, w8, w16, w32, w64, byte_len, from_be_bytes}
use Rattle.std.specs.Ordering.{is_lt}
use Rattle.std.specs.Str.{is_utf8}
use Rattle.std.proofs.lemmas.Bool.{cases_lt, le-ltb, lt-ltb, ltb-false}
use Rattle.fp_base.specs.Bytes.{bytes_cmp}
use Rattle.fp_base.specs.Steps.{◌>>=◌}
use Rattle.fp_definition.specs.Valid.{is_definition_text}
use Rattle.fp_definition.specs.declared.definition.TheConstants.{LONGEST_DEFINITION}
use Rattle.fp_definition.specs.declared.key.TheConstants.{LONGEST_KEY}
use Rattle.fp_edit.specs.Changes.{is_among, is_count}
use Rattle.fp_edit.specs.Edits.{one, set}
use Rattle.fp_edit.specs.Parts.{Part, put, delete, part_key}
use Rattle.fp_edit.specs.declared.changes.TheConstants.{LONGEST_EDIT}
use Rattle.fp_edit.specs.declared.flag_set.TheConstants.{MOST_FLAGS}
use Rattle.fp_documents.specs.declared.flags.Flag.{Flag}
use Rattle.fp_record.specs.Fields.{number_at, bytes_at, key_at, definition_at}
use Rattle.fp_record.specs.Reading.{new_key_at, put_at, delete_at, part_at, next_part, part_count, set_at, change_at}
use Rattle.fp_record.specs.Reading.{many_from, can_count, count_at, key_above_at, changed_at, flag_at, flags_at}
use Rattle.fp_record.specs.Reading.{flag_count, image_at, image_in, whole}
use Rattle.fp_record.specs.declared.batch.TheConstants.{PUT_KIND, DELETE_KIND, SET_KIND}
use Rattle.fp_record.proofs.Places.{bind_ok, passed}

-- it ends at a place up to this stop, or finds a fault at one
abbrev pub Inside : {A : Type 0} → ℕ → (A → ℕ) → Result A ℕ → Type 0
Inside stop place (Ok x) = place x ≤ stop
Inside stop place (Err at) = at ≤ stop

module _ (stop : ℕ) where
  pub inside_then : {A B : Type 0} (place : A → ℕ) (end : B → ℕ) (r : Result A ℕ) (f : A → Result B ℕ) →
      Inside stop place r → ((x : A) → r ≡ Ok x → place x ≤ stop → Inside stop end (f x)) → Inside stop end (r >>= f)
  inside_then place end (Ok x) f h more = more x refl h
  inside_then place end (Err at) f h more = h

  pub inside_if : {A : Type 0} (place : A → ℕ) (b : Bool) (r : Result A ℕ) (at : ℕ) → Inside stop place r →
      at ≤ stop → Inside stop place (cond b r (Err at))
  inside_if place true r at h le = h
  inside_if place false r at h le = le

  pub inside_either : {A : Type 0} (place : A → ℕ) (b : Bool) (r s : Result A ℕ) → Inside stop place r →
      Inside stop place s → Inside stop place (cond b r s)
  inside_either place true r s p q = p
  inside_either place false r s p q = q

  pub inside_many : {A S : Type 0} (step : S → Result (A × S) ℕ) (place : S → ℕ) →
      ((s : S) → place s ≤ stop → Inside stop (λ (x : A × S). place x.1) (step s))
      → (n : ℕ) (s : S) → place s ≤ stop → Inside stop (λ (x : List A × S). place x.1) (many_from step n s)
  unfolding many_from
  inside_many step place each zero s le = le
  inside_many {A = A} {S = S} step place each (suc n) s le =
      inside_then (λ (x : A × S). place x.1) (λ (x : List A × S). place x.1) (step s)
      (λ x. many_from step n x.1 >>= λ others. Ok (x.0 ∷ others.0, others.1)) (each s le)
      (λ x is within. inside_then (λ (y : List A × S). place y.1) (λ (y : List A × S). place y.1)
      (many_from step n x.1) (λ others. Ok (x.0 ∷ others.0, others.1)) (inside_many step place each n x.1 within)
      (λ y is inside. inside))

  inside_field : {A : Type 0} (at len : ℕ) (x : A) → at ≤ stop →
      Inside stop (λ (y : A × ℕ). y.1) (cond (ltb stop (at + len)) (Err at) (Ok (x, at + len)))
  inside_field at len x le = elim (cases_lt stop (at + len)) [
    | inl lt ↦ rw (lt-ltb stop (at + len) lt) le
    | inr fits ↦ rw (le-ltb stop (at + len) fits) fits
  ]

abbrev behind : {A : Type 0} → A × ℕ → ℕ
behind x = x.1

module _ (bytes : List ℕ) where
  number_inside : (w : Width) (at : ℕ) → at ≤ length bytes → Inside (length bytes) behind (number_at w bytes at)
  number_inside w at le = inside_field (length bytes) at (byte_len w) (from_be_bytes w (slice_range bytes at (at + byte_len w))) le

  bytes_inside : (len at : ℕ) → at ≤ length bytes → Inside (length bytes) behind (bytes_at len bytes at)
  bytes_inside len at le = inside_field (length bytes) at len (slice_range bytes at (at + len)) le

  key_inside : (at : ℕ) → at ≤ length bytes → Inside (length bytes) behind (key_at bytes at)
  unfolding key_at
  key_inside at le = let n = length bytes in
      inside_then n behind behind (number_at w16 bytes at)
      (λ len. cond (leb 1 len.0 && leb len.0 LONGEST_KEY) (bytes_at len.0 bytes len.1) (Err at) >>= λ key. cond
      (is_utf8 key.0) (Ok key) (Err len.1)) (number_inside w16 at le)
      (λ len is l. inside_then n behind behind
      (cond (leb 1 len.0 && leb len.0 LONGEST_KEY) (bytes_at len.0 bytes len.1) (Err at))
      (λ key. cond (is_utf8 key.0) (Ok key) (Err len.1))
      (inside_if n behind (leb 1 len.0 && leb len.0 LONGEST_KEY) (bytes_at len.0 bytes len.1) at (bytes_inside len.0 len.1 l) le)
      (λ key is k. inside_if n behind (is_utf8 key.0) (Ok key) len.1 k l))

  definition_inside : (at : ℕ) → at ≤ length bytes → Inside (length bytes) behind (definition_at bytes at)
  unfolding definition_at
  definition_inside at le = let n = length bytes in
      inside_then n behind behind (number_at w32 bytes at)
      (λ len. cond (leb len.0 LONGEST_DEFINITION) (bytes_at len.0 bytes len.1) (Err at) >>= λ text. cond
      (is_definition_text text.0) (Ok text) (Err len.1)) (number_inside w32 at le)
      (λ len is l. inside_then n behind behind
      (cond (leb len.0 LONGEST_DEFINITION) (bytes_at len.0 bytes len.1) (Err at))
      (λ text. cond (is_definition_text text.0) (Ok text) (Err len.1))
      (inside_if n behind (leb len.0 LONGEST_DEFINITION) (bytes_at len.0 bytes len.1) at (bytes_inside len.0 len.1 l) le)
      (λ text is k. inside_if n behind (is_definition_text text.0) (Ok text) len.1 k l))

  -- a key that was read has its length in front
  key_far : (at : ℕ) (x : List ℕ × ℕ) → key_at bytes at ≡ Ok x → at + 2 ≤ length bytes
  unfolding key_at
  key_far at x e =
      let a = bind_ok (number_at w16 bytes at)
      (λ len. cond (leb 1 len.0 && leb len.0 LONGEST_KEY) (bytes_at len.0 bytes len.1) (Err at) >>= λ key. cond
      (is_utf8 key.0) (Ok key) (Err len.1)) x e in
      ltb-false _ _ (passed (ltb (length bytes) (at + 2)) at (Ok (from_be_bytes w16 (slice_range bytes at (at + 2)), at + 2)) a.0 a.1).0

  new_key_inside : (before : List (List ℕ)) (at : ℕ) → at ≤ length bytes → Inside (length bytes) behind (new_key_at before bytes at)
  unfolding new_key_at
  new_key_inside before at le = let n = length bytes in
      inside_then n behind behind (key_at bytes at) (λ key. cond (is_among key.0 before) (Err (at + 2)) (Ok key)) (key_inside at le)
      (λ key is k. inside_either n behind (is_among key.0 before) (Err (at + 2)) (Ok key) (key_far at key is) k)

  put_inside : (before : List (List ℕ)) (at : ℕ) → at ≤ length bytes → Inside (length bytes) behind (put_at before bytes at)
  unfolding put_at
  put_inside before at le = let n = length bytes in
      inside_then n behind behind (new_key_at before bytes at)
      (λ key. definition_at bytes key.1 >>= λ text. Ok (put key.0 text.0, text.1)) (new_key_inside before at le)
      (λ key is k. inside_then n behind behind (definition_at bytes key.1) (λ text. Ok (put key.0 text.0, text.1))
      (definition_inside key.1 k) (λ text is t. t))

  delete_inside : (before : List (List ℕ)) (at : ℕ) → at ≤ length bytes → Inside (length bytes) behind (delete_at before bytes at)
  unfolding delete_at
  delete_inside before at le = inside_then (length bytes) behind behind (new_key_at before bytes at)
      (λ key. Ok (delete key.0, key.1)) (new_key_inside before at le) (λ key is k. k)

  part_inside : (before : List (List ℕ)) (at : ℕ) → at ≤ length bytes → Inside (length bytes) behind (part_at before bytes at)
  unfolding part_at
  part_inside before at le = let n = length bytes in
      inside_then n behind behind (number_at w8 bytes at)
      (λ kind. cond (eqb kind.0 PUT_KIND) (put_at before bytes kind.1)
      (cond (eqb kind.0 DELETE_KIND) (delete_at before bytes kind.1) (Err at))) (number_inside w8 at le)
      (λ kind is k. inside_either n behind (eqb kind.0 PUT_KIND) (put_at before bytes kind.1)
      (cond (eqb kind.0 DELETE_KIND) (delete_at before bytes kind.1) (Err at)) (put_inside before kind.1 k)
      (inside_if n behind (eqb kind.0 DELETE_KIND) (delete_at before bytes kind.1) at (delete_inside before kind.1 k) le))

  -- ---- sets
  next_inside : (from : List (List ℕ) × ℕ) → from.1 ≤ length bytes →
      Inside (length bytes) (λ (x : Part × (List (List ℕ) × ℕ)). x.1.1) (next_part bytes from)
  unfolding next_part
  next_inside from le = inside_then (length bytes) behind (λ (x : Part × (List (List ℕ) × ℕ)). x.1.1)
      (part_at from.0 bytes from.1) (λ part. Ok (part.0, (from.0 ++ part_key part.0 ∷ [], part.1)))
      (part_inside from.0 from.1 le) (λ part is p. p)

  part_count_inside : (at : ℕ) → at ≤ length bytes → Inside (length bytes) behind (part_count bytes at)
  unfolding part_count
  part_count_inside at le = let n = length bytes in
      inside_then n behind behind (number_at w16 bytes at) (λ count. cond (is_count count.0) (Ok count) (Err at))
      (number_inside w16 at le) (λ count is c. inside_if n behind (is_count count.0) (Ok count) at c le)

  set_inside : (kind at : ℕ) → kind ≤ length bytes → at ≤ length bytes → Inside (length bytes) behind (set_at bytes kind at)
  unfolding set_at
  set_inside kind at kind_within le = let n = length bytes in let end : List Part × (List (List ℕ) × ℕ) → ℕ = λ x. x.1.1 in
      inside_then n behind behind (part_count bytes at)
      (λ count. many_from (next_part bytes) count.0 ([], count.1) >>= λ parts. cond
      (leb parts.1.1 (kind + LONGEST_EDIT)) (Ok (set parts.0, parts.1.1)) (Err kind)) (part_count_inside at le)
      (λ count is c. inside_then n end behind (many_from (next_part bytes) count.0 ([], count.1))
      (λ parts. cond (leb parts.1.1 (kind + LONGEST_EDIT)) (Ok (set parts.0, parts.1.1)) (Err kind))
      (inside_many n (next_part bytes) (λ (s : List (List ℕ) × ℕ). s.1) next_inside count.0 ([], count.1) c)
      (λ parts is p. inside_if n behind (leb parts.1.1 (kind + LONGEST_EDIT)) (Ok (set parts.0, parts.1.1)) kind p kind_within))

  pub change_inside : (at : ℕ) → at ≤ length bytes → Inside (length bytes) behind (change_at bytes at)
  unfolding change_at
  change_inside at le = let n = length bytes in
      inside_then n behind behind (number_at w8 bytes at)
      (λ kind. cond (eqb kind.0 SET_KIND) (set_at bytes at kind.1)
      (part_at [] bytes at >>= λ part. Ok (one part.0, part.1))) (number_inside w8 at le)
      (λ kind is k. inside_either n behind (eqb kind.0 SET_KIND) (set_at bytes at kind.1)
      (part_at [] bytes at >>= λ part. Ok (one part.0, part.1)) (set_inside at kind.1 le k)
      (inside_then n behind behind (part_at [] bytes at) (λ part. Ok (one part.0, part.1)) (part_inside [] at le) (λ part is p. p)))

  pub count_inside : (first at : ℕ) → at ≤ length bytes → Inside (length bytes) behind (count_at first bytes at)
  unfolding count_at
  count_inside first at le = let n = length bytes in
      inside_then n behind behind (number_at w16 bytes at)
      (λ count. cond (can_count first count.0) (Ok count) (Err at)) (number_inside w16 at le)
      (λ count is c. inside_if n behind (can_count first count.0) (Ok count) at c le)

  pub first_inside : Inside (length bytes) behind (number_at w64 bytes 0)
  first_inside = number_inside w64 0 (omega arith)

  -- ---- images
  above_inside : (before : List ℕ) (at : ℕ) → at ≤ length bytes → Inside (length bytes) behind (key_above_at before bytes at)
  unfolding key_above_at
  above_inside before at le = let n = length bytes in
      inside_then n behind behind (key_at bytes at)
      (λ key. cond (is_lt (bytes_cmp before key.0)) (Ok key) (Err (at + 2))) (key_inside at le)
      (λ key is k. inside_if n behind (is_lt (bytes_cmp before key.0)) (Ok key) (at + 2) k (key_far at key is))

  changed_inside : (newest at : ℕ) → at ≤ length bytes → Inside (length bytes) behind (changed_at newest bytes at)
  unfolding changed_at
  changed_inside newest at le = let n = length bytes in
      inside_then n behind behind (number_at w64 bytes at)
      (λ changed. cond (leb 1 changed.0 && leb changed.0 newest) (Ok changed) (Err at)) (number_inside w64 at le)
      (λ changed is c. inside_if n behind (leb 1 changed.0 && leb changed.0 newest) (Ok changed) at c le)

  flag_inside : (newest : ℕ) (from : List ℕ × ℕ) → from.1 ≤ length bytes →
      Inside (length bytes) (λ (x : (List ℕ × Flag) × (List ℕ × ℕ)). x.1.1) (flag_at newest bytes from)
  unfolding flag_at
  flag_inside newest from le = let n = length bytes in let end : (List ℕ × Flag) × (List ℕ × ℕ) → ℕ = λ x. x.1.1 in
      inside_then n behind end (key_above_at from.0 bytes from.1)
      (λ key. changed_at newest bytes key.1 >>= λ changed. definition_at bytes changed.1 >>= λ text. Ok
      ((key.0, record { definition = text.0; changed = changed.0 }), (key.0, text.1)))
      (above_inside from.0 from.1 le)
      (λ key is k. inside_then n behind end (changed_at newest bytes key.1)
      (λ changed. definition_at bytes changed.1 >>= λ text. Ok
      ((key.0, record { definition = text.0; changed = changed.0 }), (key.0, text.1)))
      (changed_inside newest key.1 k)
      (λ changed is c. inside_then n behind end (definition_at bytes changed.1)
      (λ text. Ok ((key.0, record { definition = text.0; changed = changed.0 }), (key.0, text.1)))
      (definition_inside changed.1 c) (λ text is t. t)))

  flags_inside : (newest count at : ℕ) → at ≤ length bytes → Inside (length bytes) behind (flags_at newest count bytes at)
  unfolding flags_at
  flags_inside newest count at le =
      let start : List ℕ × ℕ = ([], at) in
      inside_then (length bytes) (λ (x : List (List ℕ × Flag) × (List ℕ × ℕ)). x.1.1) behind
      (many_from (flag_at newest bytes) count start) (λ flags. Ok (flags.0, flags.1.1))
      (inside_many (length bytes) (flag_at newest bytes) (λ (s : List ℕ × ℕ). s.1) (flag_inside newest) count start le) (λ flags is f. f)

  image_inside : (newest : ℕ) → Inside (length bytes) behind (image_at newest bytes)
  unfolding image_at flag_count
  image_inside newest = let n = length bytes in
      inside_then n behind behind (number_at w32 bytes 0 >>= λ count. cond (leb count.0 MOST_FLAGS) (Ok count)
      (Err 0)) (λ count. flags_at newest count.0 bytes count.1)
      (inside_then n behind behind (number_at w32 bytes 0)
      (λ count. cond (leb count.0 MOST_FLAGS) (Ok count) (Err 0)) (number_inside w32 0 (omega arith))
      (λ count is c. inside_if n behind (leb count.0 MOST_FLAGS) (Ok count) 0 c (omega arith)))
      (λ count is c. flags_inside newest count.0 count.1 c)

-- of what is left over the first byte is one, too
pub whole_inside : {A : Type 0} (bytes : List ℕ) (read : Result (A × ℕ) ℕ) (at : ℕ) →
    Inside (length bytes) behind read → whole bytes read ≡ Err at → at ≤ length bytes
whole_inside bytes (Ok x) at le e = by_end (eqb x.1 (length bytes)) e
  where
    by_end : (b : Bool) → cond b (Ok x.0) (Err x.1) ≡ Err at → at ≤ length bytes
    by_end true e = absurd cc
    by_end false e = let is : x.1 ≡ at = cc in omega (arith, is, le)
whole_inside bytes (Err k) at le e = let is : k ≡ at = cc in omega (arith, is, le)

pub image_in_inside : (newest : ℕ) (bytes : List ℕ) (at : ℕ) → image_in newest bytes ≡ Err at → at ≤ length bytes
unfolding image_in
image_in_inside newest bytes at e = whole_inside bytes (image_at newest bytes) at (image_inside bytes newest) e
