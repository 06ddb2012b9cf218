-- An edit's kind tells whether it is a set, and so in which slots it may stand.
use Rattle.std.proofs.Common.{◌≡◌, ◌+◌, ◌≤◌, ◌||◌, ℕ, Bool, true, false, not, cond, eqb, leb, ltb, List, [], length, Ok}
use Rattle.std.proofs.Common.{Err, refl, sym, subst, ◌∙◌, inl, inr}
use Rattle.std.specs.Prelude.{slice_range}
use Rattle.std.specs.Int.{w8, from_be_bytes}
use Rattle.std.proofs.lemmas.Bool.{lt-ltb, ltb-true}
use Rattle.fp_base.specs.Steps.{◌>>=◌}
use Rattle.fp_edit.specs.Edits.{Change, one, set}
use Rattle.fp_record.specs.Fields.{number_at}
use Rattle.fp_record.specs.Reading.{change_at, many_from, next_part, part_at, part_count, set_at}
use Rattle.fp_edit.specs.declared.changes.TheConstants.{LONGEST_EDIT}
use Rattle.fp_record.specs.declared.batch.TheConstants.{SET_KIND}
use Rattle.fp_record.proofs.Inside.{Inside, inside_either, inside_if, inside_then}
use Rattle.fp_record.proofs.Places.{bind_ok, chosen, met, ok_is}
use Rattle.fp_recovery.specs.Reading.{kind_at, may_stand}
use Rattle.fp_recovery.specs.Stands.{IsAllowed}
use Rattle.fp_slots.specs.declared.places.TheConstants.{FIRST_VERSION}

-- the kind is that of a set, and the change is one
abbrev IsKindOf : ℕ → Change → Type 0
IsKindOf kind (one part) = eqb kind SET_KIND ≡ false
IsKindOf kind (set parts) = eqb kind SET_KIND ≡ true

set_told : (bytes : List ℕ) (kind at number : ℕ) (x : Change × ℕ) → eqb number SET_KIND ≡ true →
    set_at bytes kind at ≡ Ok x → IsKindOf number x.0
unfolding set_at
set_told bytes kind at number x is e =
    let a = bind_ok (part_count bytes at)
    (λ count. many_from (next_part bytes) count.0 ([], count.1) >>= λ parts. cond
    (leb parts.1.1 (kind + LONGEST_EDIT)) (Ok (set parts.0, parts.1.1)) (Err kind)) x e in
    let start : List (List ℕ) × ℕ = ([], a.0.1) in
    let b = bind_ok (many_from (next_part bytes) a.0.0 start)
    (λ parts. cond (leb parts.1.1 (kind + LONGEST_EDIT)) (Ok (set parts.0, parts.1.1)) (Err kind)) x a.2 in
    let made : Change × ℕ = (set b.0.0, b.0.1.1) in
    let m = met (leb b.0.1.1 (kind + LONGEST_EDIT)) kind (Ok made) x b.2 in
    subst (λ (y : Change × ℕ). IsKindOf number y.0) (ok_is made x m.1) is

kind_told : (bytes : List ℕ) (at : ℕ) (x : Change × ℕ) → change_at bytes at ≡ Ok x → (kind : ℕ × ℕ) ×
    (number_at w8 bytes at ≡ Ok kind) × IsKindOf kind.0 x.0
unfolding change_at
kind_told bytes at x e =
    let a = bind_ok (number_at w8 bytes at)
    (λ kind. cond (eqb kind.0 SET_KIND) (set_at bytes at kind.1)
    (part_at [] bytes at >>= λ part. Ok (one part.0, part.1))) x e in
    let kind = a.0 in (
      kind,
      a.1,
      elim (chosen (eqb kind.0 SET_KIND) (set_at bytes at kind.1) (part_at [] bytes at >>= λ part. Ok (one part.0, part.1)) (Ok x) a.2) [
        | inl is ↦ set_told bytes at kind.1 kind.0 x is.0 is.1
        | inr is ↦ (let b = bind_ok (part_at [] bytes at) (λ part. Ok (one part.0, part.1)) x is.1 in
            let made : Change × ℕ = (one b.0.0, b.0.1) in
            subst (λ (y : Change × ℕ). IsKindOf kind.0 y.0) (ok_is made x b.2) is.0)
      ],
    )

-- what may stand is allowed, and what is allowed may stand
may_be : (version kind : ℕ) (change : Change) → IsKindOf kind change → may_stand version kind ≡ true → IsAllowed version change
may_be version kind (one part) is e = tt
may_be version kind (set parts) is e =
    ltb-true FIRST_VERSION version (subst (λ (b : Bool). (not b || ltb FIRST_VERSION version) ≡ true) is e)

can_be : (version kind : ℕ) (change : Change) → IsKindOf kind change → IsAllowed version change → may_stand version kind ≡ true
can_be version kind (one part) is allowed = rw is refl
can_be version kind (set parts) is allowed = rw (is, lt-ltb FIRST_VERSION version allowed) refl

pub kind_allows : (version : ℕ) (bytes : List ℕ) (at kind : ℕ) (x : Change × ℕ) →
    kind_at version bytes at ≡ Ok kind → change_at bytes at ≡ Ok x → IsAllowed version x.0
unfolding kind_at
kind_allows version bytes at kind x e read =
    let a = bind_ok (number_at w8 bytes at) (λ number. cond (may_stand version number.0) (Ok number.0) (Err at)) kind e in
    let m = met (may_stand version a.0.0) at (Ok a.0.0) kind a.2 in
    let t = kind_told bytes at x read in
    let same : a.0 ≡ t.0 = ok_is a.0 t.0 (sym a.1 ∙ t.1) in
    may_be version t.0.0 x.0 t.2 (subst (λ (k : ℕ × ℕ). may_stand version k.0 ≡ true) same m.0)

pub allowed_kind : (version : ℕ) (bytes : List ℕ) (at : ℕ) (x : Change × ℕ) → change_at bytes at ≡ Ok x →
    IsAllowed version x.0 → (kind : ℕ) × (kind_at version bytes at ≡ Ok kind)
unfolding kind_at
allowed_kind version bytes at x read allowed =
    let t = kind_told bytes at x read in
    (t.0.0, rw (t.1, can_be version t.0.0 x.0 t.2 allowed) (refl {a = Ok t.0.0}))

-- a kind that can't stand is wrong at its place
pub kind_inside : (stop version : ℕ) (bytes : List ℕ) (at : ℕ) → at ≤ stop → Inside stop (λ (kind : ℕ). at) (kind_at version bytes at)
unfolding kind_at
kind_inside stop version bytes at le =
    let number : ℕ × ℕ = (from_be_bytes w8 (slice_range bytes at (at + 1)), at + 1) in
    inside_then stop (λ (number : ℕ × ℕ). at) (λ (kind : ℕ). at) (number_at w8 bytes at)
    (λ number. cond (may_stand version number.0) (Ok number.0) (Err at))
    (inside_either stop (λ (number : ℕ × ℕ). at) (ltb (length bytes) (at + 1)) (Err at) (Ok number) le le)
    (λ number is le. inside_if stop (λ (kind : ℕ). at) (may_stand version number.0) (Ok number.0) at le le)
