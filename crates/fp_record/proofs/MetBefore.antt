-- Which keys were met decides of a part, and not how they are kept.
use Rattle.std.proofs.Common.{◌≡◌, ℕ, ◌+◌, Bool, true, false, cond, eqb, ◌||◌, List, ◌∷◌, [], ◌++◌, Result, Ok, Err, refl, sym, ap, ◌∙◌}
use Rattle.std.specs.Prelude.{bytes_eq}
use Rattle.std.specs.Int.{w8}
use Rattle.fp_base.specs.Steps.{◌>>=◌}
use Rattle.fp_edit.specs.Changes.{is_among}
use Rattle.fp_edit.specs.Keys.{AreMet}
use Rattle.fp_edit.specs.Parts.{delete, put}
use Rattle.fp_record.specs.Fields.{number_at, key_at, definition_at}
use Rattle.fp_record.specs.Reading.{new_key_at, put_at, delete_at, part_at}
use Rattle.fp_record.specs.declared.batch.TheConstants.{PUT_KIND, DELETE_KIND}
use Rattle.fp_record.proofs.Together.{among_more}

-- what is done next with what was read
then_same : {A B : Type 0} (read : Result A ℕ) (f g : A → Result B ℕ) → ((x : A) → f x ≡ g x) → (read >>= f) ≡ (read >>= g)
then_same (Ok x) f g h = h x
then_same (Err at) f g h = refl

module _ (met before : List (List ℕ)) (same : AreMet met before) (bytes : List ℕ) where
  new_key_same : (at : ℕ) → new_key_at met bytes at ≡ new_key_at before bytes at
  unfolding new_key_at
  new_key_same at =
      then_same (key_at bytes at) (λ key. cond (is_among key.0 met) (Err (at + 2)) (Ok key))
      (λ key. cond (is_among key.0 before) (Err (at + 2)) (Ok key))
      (λ key. ap (λ (b : Bool). cond b (Err (at + 2)) (Ok key)) (same key.0))

  put_same : (at : ℕ) → put_at met bytes at ≡ put_at before bytes at
  unfolding put_at
  put_same at = ap (λ (key : Result (List ℕ × ℕ) ℕ). key >>= λ key. definition_at bytes key.1 >>= λ text. Ok
      (put key.0 text.0, text.1)) (new_key_same at)

  delete_same : (at : ℕ) → delete_at met bytes at ≡ delete_at before bytes at
  unfolding delete_at
  delete_same at = ap (λ (key : Result (List ℕ × ℕ) ℕ). key >>= λ key. Ok (delete key.0, key.1)) (new_key_same at)

  pub part_same : (at : ℕ) → part_at met bytes at ≡ part_at before bytes at
  unfolding part_at
  part_same at =
      then_same (number_at w8 bytes at)
      (λ kind. cond (eqb kind.0 PUT_KIND) (put_at met bytes kind.1)
      (cond (eqb kind.0 DELETE_KIND) (delete_at met bytes kind.1) (Err at)))
      (λ kind. cond (eqb kind.0 PUT_KIND) (put_at before bytes kind.1)
      (cond (eqb kind.0 DELETE_KIND) (delete_at before bytes kind.1) (Err at)))
      (λ kind. rw (put_same kind.1, delete_same kind.1) refl)

or_turned : (a b : Bool) → (a || b) ≡ (b || a)
or_turned true true = refl
or_turned true false = refl
or_turned false true = refl
or_turned false false = refl

-- one more that was met stands behind those before
pub met_more : (new met before : List (List ℕ)) (key : List ℕ) → AreMet new (key ∷ met) → AreMet met before →
    AreMet new (before ++ key ∷ [])
met_more new met before key more same = λ k. more k ∙ ap (λ (b : Bool). bytes_eq k key || b) (same k) ∙
    or_turned (bytes_eq k key) (is_among k before) ∙ sym (among_more k before key)
