-- How far reading a change goes: as many bytes as the change takes.
use Rattle.std.proofs.Common.{◌≡◌, ◌+◌, ◌&&◌, ℕ, zero, suc, cond, eqb, leb, ltb, List, [], ◌∷◌, ◌++◌, length, Ok, Err}
use Rattle.std.proofs.Common.{sym, ap, subst, ◌∙◌, arith, inl, inr}
use Rattle.std.specs.Prelude.{slice_range}
use Rattle.std.specs.Int.{Width, w8, w16, w32, byte_len, from_be_bytes}
use Rattle.std.specs.List.{sum_by}
use Rattle.std.specs.Str.{is_utf8}
use Rattle.std.proofs.lemmas.List.Sums.{sum_by-cons}
use Rattle.fp_base.specs.Steps.{◌>>=◌}
use Rattle.fp_definition.specs.Valid.{is_definition_text}
use Rattle.fp_definition.specs.declared.definition.TheConstants.{LONGEST_DEFINITION}
use Rattle.fp_definition.specs.declared.key.TheConstants.{LONGEST_KEY}
use Rattle.fp_edit.specs.Changes.{is_among, is_count, part_len, set_len}
use Rattle.fp_edit.specs.Edits.{Change, one, set}
use Rattle.fp_edit.specs.Parts.{Part, put, delete, part_key}
use Rattle.fp_edit.specs.declared.changes.TheConstants.{LONGEST_EDIT}
use Rattle.fp_record.specs.declared.batch.TheConstants.{PUT_KIND, DELETE_KIND, SET_KIND}
use Rattle.fp_record.specs.Fields.{number_at, bytes_at, key_at, definition_at}
use Rattle.fp_record.specs.Reading.{change_at, delete_at, many_from, new_key_at, next_part, part_at, part_count, put_at, set_at}
use Rattle.fp_record.proofs.Places.{bind_ok, bytes_take, chosen, met, ok_is, passed}

-- a change that begins at the one place ends at the other
abbrev pub Reaches : ℕ → Change → ℕ → Type 0
Reaches at (one part) end = end ≡ at + part_len part
Reaches at (set parts) end = end ≡ at + set_len parts

module _ (bytes : List ℕ) where
  -- ---- fields
  number_reach : (w : Width) (at : ℕ) (x : ℕ × ℕ) → number_at w bytes at ≡ Ok x → x.1 ≡ at + byte_len w
  number_reach w at x e =
      let made : ℕ × ℕ = (from_be_bytes w (slice_range bytes at (at + byte_len w)), at + byte_len w) in
      let g = passed (ltb (length bytes) (at + byte_len w)) at (Ok made) x e in
      ap (λ (y : ℕ × ℕ). y.1) (sym (ok_is made x g.1))

  bytes_reach : (len at : ℕ) (x : List ℕ × ℕ) → bytes_at len bytes at ≡ Ok x → x.1 ≡ at + length x.0
  bytes_reach len at x e =
      let made : List ℕ × ℕ = (slice_range bytes at (at + len), at + len) in
      let g = passed (ltb (length bytes) (at + len)) at (Ok made) x e in
      let end : x.1 ≡ at + len = ap (λ (y : List ℕ × ℕ). y.1) (sym (ok_is made x g.1)) in
      end ∙ ap (λ (n : ℕ). at + n) (sym (bytes_take bytes len at x e).1)

  key_reach : (at : ℕ) (x : List ℕ × ℕ) → key_at bytes at ≡ Ok x → x.1 ≡ at + 2 + length x.0
  unfolding key_at
  key_reach at x e =
      let a = bind_ok (number_at w16 bytes at)
      (λ len. cond (leb 1 len.0 && leb len.0 LONGEST_KEY) (bytes_at len.0 bytes len.1) (Err at) >>= λ key. cond
      (is_utf8 key.0) (Ok key) (Err len.1)) x e in
      let len = a.0 in
      let b = bind_ok (cond (leb 1 len.0 && leb len.0 LONGEST_KEY) (bytes_at len.0 bytes len.1) (Err at))
      (λ key. cond (is_utf8 key.0) (Ok key) (Err len.1)) x a.2 in
      let m = met (leb 1 len.0 && leb len.0 LONGEST_KEY) at (bytes_at len.0 bytes len.1) b.0 b.1 in
      let u = met (is_utf8 b.0.0) len.1 (Ok b.0) x b.2 in
      let first = number_reach w16 at len a.1 in let rest = bytes_reach len.0 len.1 b.0 m.1 in
      subst (λ (y : List ℕ × ℕ). y.1 ≡ at + 2 + length y.0) (ok_is b.0 x u.1) (omega (arith, first, rest))

  definition_reach : (at : ℕ) (x : List ℕ × ℕ) → definition_at bytes at ≡ Ok x → x.1 ≡ at + 4 + length x.0
  unfolding definition_at
  definition_reach at x e =
      let a = bind_ok (number_at w32 bytes at)
      (λ len. cond (leb len.0 LONGEST_DEFINITION) (bytes_at len.0 bytes len.1) (Err at) >>= λ text. cond
      (is_definition_text text.0) (Ok text) (Err len.1)) x e in
      let len = a.0 in
      let b = bind_ok (cond (leb len.0 LONGEST_DEFINITION) (bytes_at len.0 bytes len.1) (Err at))
      (λ text. cond (is_definition_text text.0) (Ok text) (Err len.1)) x a.2 in
      let m = met (leb len.0 LONGEST_DEFINITION) at (bytes_at len.0 bytes len.1) b.0 b.1 in
      let u = met (is_definition_text b.0.0) len.1 (Ok b.0) x b.2 in
      let first = number_reach w32 at len a.1 in let rest = bytes_reach len.0 len.1 b.0 m.1 in
      subst (λ (y : List ℕ × ℕ). y.1 ≡ at + 4 + length y.0) (ok_is b.0 x u.1) (omega (arith, first, rest))

  -- ---- a part
  new_key_reach : (before : List (List ℕ)) (at : ℕ) (x : List ℕ × ℕ) → new_key_at before bytes at ≡ Ok x → x.1 ≡ at + 2 + length x.0
  unfolding new_key_at
  new_key_reach before at x e =
      let a = bind_ok (key_at bytes at) (λ key. cond (is_among key.0 before) (Err (at + 2)) (Ok key)) x e in
      let p = passed (is_among a.0.0 before) (at + 2) (Ok a.0) x a.2 in
      subst (λ (y : List ℕ × ℕ). y.1 ≡ at + 2 + length y.0) (ok_is a.0 x p.1) (key_reach at a.0 a.1)

  put_reach : (before : List (List ℕ)) (at : ℕ) (x : Part × ℕ) → put_at before bytes at ≡ Ok x → x.1 + 1 ≡ at + part_len x.0
  unfolding put_at
  put_reach before at x e =
      let a = bind_ok (new_key_at before bytes at) (λ key. definition_at bytes key.1 >>= λ text. Ok (put key.0 text.0, text.1)) x e in
      let b = bind_ok (definition_at bytes a.0.1) (λ text. Ok (put a.0.0 text.0, text.1)) x a.2 in
      let made : Part × ℕ = (put a.0.0 b.0.0, b.0.1) in
      let first = new_key_reach before at a.0 a.1 in let rest = definition_reach a.0.1 b.0 b.1 in
      subst (λ (y : Part × ℕ). y.1 + 1 ≡ at + part_len y.0) (ok_is made x b.2) (omega (arith, first, rest))

  delete_reach : (before : List (List ℕ)) (at : ℕ) (x : Part × ℕ) → delete_at before bytes at ≡ Ok x → x.1 + 1 ≡ at + part_len x.0
  unfolding delete_at
  delete_reach before at x e =
      let a = bind_ok (new_key_at before bytes at) (λ key. Ok (delete key.0, key.1)) x e in
      let made : Part × ℕ = (delete a.0.0, a.0.1) in
      let first = new_key_reach before at a.0 a.1 in
      subst (λ (y : Part × ℕ). y.1 + 1 ≡ at + part_len y.0) (ok_is made x a.2) (omega (arith, first))

  part_reach : (before : List (List ℕ)) (at : ℕ) (x : Part × ℕ) → part_at before bytes at ≡ Ok x → x.1 ≡ at + part_len x.0
  unfolding part_at
  part_reach before at x e =
      let a = bind_ok (number_at w8 bytes at)
      (λ kind. cond (eqb kind.0 PUT_KIND) (put_at before bytes kind.1)
      (cond (eqb kind.0 DELETE_KIND) (delete_at before bytes kind.1) (Err at))) x e in
      let kind = a.0 in let first = number_reach w8 at kind a.1 in
      elim (chosen (eqb kind.0 PUT_KIND) (put_at before bytes kind.1)
      (cond (eqb kind.0 DELETE_KIND) (delete_at before bytes kind.1) (Err at)) (Ok x) a.2) [
        | inl is ↦ (let rest = put_reach before kind.1 x is.1 in omega (arith, first, rest))
        | inr is ↦ (let m = met (eqb kind.0 DELETE_KIND) at (delete_at before bytes kind.1) x is.1 in
            let rest = delete_reach before kind.1 x m.1 in omega (arith, first, rest))
      ]

  -- ---- parts one after the other
  next_reach : (from : List (List ℕ) × ℕ) (x : Part × (List (List ℕ) × ℕ)) → next_part bytes from ≡ Ok x → x.1.1 ≡ from.1 + part_len x.0
  unfolding next_part
  next_reach from x e =
      let a = bind_ok (part_at from.0 bytes from.1) (λ part. Ok (part.0, (from.0 ++ part_key part.0 ∷ [], part.1))) x e in
      let made : Part × (List (List ℕ) × ℕ) = (a.0.0, (from.0 ++ part_key a.0.0 ∷ [], a.0.1)) in
      subst (λ (y : Part × (List (List ℕ) × ℕ)). y.1.1 ≡ from.1 + part_len y.0) (ok_is made x a.2) (part_reach from.0 from.1 a.0 a.1)

  parts_reach : (n : ℕ) (from : List (List ℕ) × ℕ) (x : List Part × (List (List ℕ) × ℕ)) →
      many_from (next_part bytes) n from ≡ Ok x → x.1.1 ≡ from.1 + sum_by part_len x.0
  unfolding many_from
  parts_reach zero from x e =
      let start : List Part × (List (List ℕ) × ℕ) = ([], from) in
      subst (λ (y : List Part × (List (List ℕ) × ℕ)). y.1.1 ≡ from.1 + sum_by part_len y.0) (ok_is start x e) (omega arith)
  parts_reach (suc n) from x e =
      let a = bind_ok (next_part bytes from)
      (λ one. many_from (next_part bytes) n one.1 >>= λ others. Ok (one.0 ∷ others.0, others.1)) x e in
      let one = a.0 in
      let b = bind_ok (many_from (next_part bytes) n one.1) (λ others. Ok (one.0 ∷ others.0, others.1)) x a.2 in
      let others = b.0 in
      let made : List Part × (List (List ℕ) × ℕ) = (one.0 ∷ others.0, others.1) in
      let first = next_reach from one a.1 in let rest = parts_reach n one.1 others b.1 in let sum = sum_by-cons part_len one.0 others.0 in
      subst (λ (y : List Part × (List (List ℕ) × ℕ)). y.1.1 ≡ from.1 + sum_by part_len y.0) (ok_is made x b.2)
      (omega (arith, first, rest, sum))

  -- ---- a change
  set_reach : (kind at : ℕ) (x : Change × ℕ) → at ≡ kind + 1 → set_at bytes kind at ≡ Ok x → Reaches kind x.0 x.1
  unfolding set_at part_count
  set_reach kind at x behind e =
      let a = bind_ok (part_count bytes at)
      (λ count. many_from (next_part bytes) count.0 ([], count.1) >>= λ parts. cond
      (leb parts.1.1 (kind + LONGEST_EDIT)) (Ok (set parts.0, parts.1.1)) (Err kind)) x e in
      let count = a.0 in
      let c = bind_ok (number_at w16 bytes at) (λ n. cond (is_count n.0) (Ok n) (Err at)) count a.1 in
      let k = met (is_count c.0.0) at (Ok c.0) count c.2 in
      let start : List (List ℕ) × ℕ = ([], count.1) in
      let b = bind_ok (many_from (next_part bytes) count.0 start)
      (λ parts. cond (leb parts.1.1 (kind + LONGEST_EDIT)) (Ok (set parts.0, parts.1.1)) (Err kind)) x a.2 in
      let parts = b.0 in
      let made : Change × ℕ = (set parts.0, parts.1.1) in
      let m = met (leb parts.1.1 (kind + LONGEST_EDIT)) kind (Ok made) x b.2 in
      let same : c.0.1 ≡ count.1 = ap (λ (y : ℕ × ℕ). y.1) (ok_is c.0 count k.1) in
      let first = number_reach w16 at c.0 c.1 in let rest = parts_reach count.0 start parts b.1 in
      subst (λ (y : Change × ℕ). Reaches kind y.0 y.1) (ok_is made x m.1) (omega (arith, behind, first, same, rest))

  pub change_reach : (at : ℕ) (x : Change × ℕ) → change_at bytes at ≡ Ok x → Reaches at x.0 x.1
  unfolding change_at
  change_reach at x e =
      let a = bind_ok (number_at w8 bytes at)
      (λ kind. cond (eqb kind.0 SET_KIND) (set_at bytes at kind.1)
      (part_at [] bytes at >>= λ part. Ok (one part.0, part.1))) x e in
      let kind = a.0 in
      elim (chosen (eqb kind.0 SET_KIND) (set_at bytes at kind.1) (part_at [] bytes at >>= λ part. Ok (one part.0, part.1)) (Ok x) a.2) [
        | inl is ↦ set_reach at kind.1 x (number_reach w8 at kind a.1) is.1
        | inr is ↦ (let b = bind_ok (part_at [] bytes at) (λ part. Ok (one part.0, part.1)) x is.1 in
            let made : Change × ℕ = (one b.0.0, b.0.1) in
            subst (λ (y : Change × ℕ). Reaches at y.0 y.1) (ok_is made x b.2) (part_reach [] at b.0 b.1))
      ]
