-- Changes that follow one another, whatever their editors expected.
use Rattle.std.proofs.Common.{◌≡◌, ◌<◌, ◌+◌, ◌^◌, ℕ, List, [], ◌∷◌, ◌++◌, length, take, drop, get_or, None, sym, subst, arith}
use Rattle.fp_edit.specs.Admits.{refusal, next}
use Rattle.fp_edit.specs.Edits.{Change}
use Rattle.fp_edit.specs.Flags.{State}
use Rattle.fp_edit.specs.Following.{change_of, changes_of, unconditional}
use Rattle.fp_edit.specs.Log.{after_all}
use Rattle.fp_edit.specs.declared.edit.Edit.{Edit}
use Rattle.fp_edit.proofs.Followed.{all_taken, has_next, taken_more}
use Rattle.fp_pending.specs.Following.{Follows}

-- ---- one list behind another
pub follows_join : (s : State) (xs ys : List Change) → Follows s xs → Follows (after_all s xs) ys → Follows s (xs ++ ys)
follows_join s [] ys f g = g
follows_join s (x ∷ xs) ys f g = (f.0, follows_join (next s x) xs ys f.1 g)

pub follows_behind : (s : State) (xs ys : List Change) → Follows s (xs ++ ys) → Follows (after_all s xs) ys
follows_behind s [] ys f = f
follows_behind s (x ∷ xs) ys f = follows_behind (next s x) xs ys f.1

pub follows_front : (s : State) (xs ys : List Change) → Follows s (xs ++ ys) → Follows s xs
follows_front s [] ys f = tt
follows_front s (x ∷ xs) ys f = (f.0, follows_front (next s x) xs ys f.1)

-- there are revisions for all of them
pub follows_small : (s : State) (xs : List Change) → s.revision < 2 ^ 63 → Follows s xs → s.revision + length xs < 2 ^ 63
follows_small s [] small f = omega (arith, small)
follows_small s (x ∷ xs) small f =
    let here : s.revision + 1 < 2 ^ 63 = has_next s (unconditional x) f.0 in
    let rest : s.revision + 1 + length xs < 2 ^ 63 = follows_small (next s x) xs here f.1 in omega (arith, rest)

-- ---- a walk over edits
module _ (s : State) (xs : List Edit) (i : ℕ) (e : Edit) (lt : i < length xs) (is : e ≡ get_or xs i e) where
  pub one_follows : Follows s (changes_of (take i xs)) →
      refusal (after_all s (changes_of (take i xs))) (unconditional (change_of e)) ≡ None →
      Follows s (changes_of (take (i + 1) xs))
  one_follows f h = subst (λ (l : List Change). Follows s l) (sym (taken_more xs i e lt is))
      (follows_join s (changes_of (take i xs)) (change_of e ∷ []) f (h, tt))

  pub one_accepted : Follows s (changes_of xs) → refusal (after_all s (changes_of (take i xs))) (unconditional (change_of e)) ≡ None
  one_accepted all =
      let here = follows_front s (changes_of (take (i + 1) xs)) (changes_of (drop (i + 1) xs))
      (subst (λ (l : List Change). Follows s l) (all_taken xs (i + 1)) all) in
      (follows_behind s (changes_of (take i xs)) (change_of e ∷ [])
      (subst (λ (l : List Change). Follows s l) (taken_more xs i e lt is) here)).0
