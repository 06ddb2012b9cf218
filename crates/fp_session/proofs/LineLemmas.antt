-- The lines of an input that comes in pieces.
use Rattle.std.proofs.Common.{◌≡◌, ℕ, ◌+◌, ◌-◌, ◌≤◌, ◌<◌, zero, suc, min, List, [], ◌∷◌, ◌++◌, length, take, drop}
use Rattle.std.proofs.Common.{position, Some, None, Bool, true, false, cond, not, map, nat_le, ◌==◌, ◌&&◌, Err, refl}
use Rattle.std.proofs.Common.{sym, ap, subst, ◌∙◌, length-take, take_all, arith}
use Rattle.std.proofs.lemmas.List.{take_min}
use Rattle.std.proofs.lemmas.Bool.{eqb-true}
use Rattle.std.proofs.lemmas.List.{map-append}
use Rattle.std.proofs.lemmas.List.Elements.{filter-append}
use borrow.Author.Tests.{leb-true, leb-false, lt-leb}
use Rattle.std.specs.List.{list_all, prefix_len}
use Rattle.fp_edit.specs.Line as line
use Rattle.fp_edit.specs.Line.{line_of}
use Rattle.fp_edit.specs.declared.line.TheConstants.{LONGEST_LINE}
use Rattle.fp_session.specs.Asks.{asked_by_lines}
use Rattle.fp_session.specs.Lines.{line_up_to_limit, lines_with_reply, is_blank, is_space, lines, onto_first}

-- what stands behind a line goes on from it
pub lines-append : (line bs : List ℕ) (x : List ℕ) (xs : List (List ℕ)) → lines line ≡ line ∷ [] →
    lines bs ≡ x ∷ xs → lines (line ++ bs) ≡ (line ++ x) ∷ xs
lines-append [] bs x xs one is = is
lines-append (b ∷ line) bs x xs one is =
    elim (b == 10) as (λ t. cond t ([] ∷ lines line) (onto_first b (lines line)) ≡ (b ∷ line) ∷ [] →
    cond t ([] ∷ lines (line ++ bs)) (onto_first b (lines (line ++ bs))) ≡ (b ∷ (line ++ x)) ∷ xs) [
      | true ↦ λ h. absurd cc
      | false ↦ λ h. ap (onto_first b) (lines-append line bs x xs (rest (lines line) refl h) is)
    ] one
  where
    rest : (ls : List (List ℕ)) → lines line ≡ ls → onto_first b ls ≡ (b ∷ line) ∷ [] → ls ≡ line ∷ []
    rest [] none h = let empty : [] ≡ line = cc in absurd (subst (λ (l : List ℕ). lines l ≡ [] → ⊥) empty (λ e. cc) none)
    rest (l ∷ ls) is h = let first : b ∷ l ≡ b ∷ line = cc in let none : ls ≡ [] = cc in let same : l ≡ line = cc in
        ap (λ k. k ∷ ls) same ∙ ap (λ k. line ∷ k) none

-- ---- the first newline

abbrev is_other : ℕ → Bool
is_other b = not (b == 10)

-- a byte before a line
line-cons : (b : ℕ) (p : List ℕ) → b == 10 ≡ false → lines p ≡ p ∷ [] → lines (b ∷ p) ≡ (b ∷ p) ∷ []
line-cons b p other one = grind arith

take-one : (n b : ℕ) (bs : List ℕ) → take (1 + n) (b ∷ bs) ≡ b ∷ take n bs
take-one n b bs = grind arith

drop-one : (n b : ℕ) (bs : List ℕ) → drop (1 + n + 1) (b ∷ bs) ≡ drop (n + 1) bs
drop-one n b bs = grind arith

-- what stands before the first newline is one line
pub lines-prefix : (bs : List ℕ) → lines (take (prefix_len is_other bs) bs) ≡ take (prefix_len is_other bs) bs ∷ []
lines-prefix [] = refl
lines-prefix (b ∷ bs) =
    elim (b == 10) as (λ t. b == 10 ≡ t →
    lines (take (cond (not t) (1 + prefix_len is_other bs) 0) (b ∷ bs)) ≡ take
    (cond (not t) (1 + prefix_len is_other bs) 0) (b ∷ bs) ∷ []) [
      | true ↦ λ e. refl
      | false ↦ λ e. subst (λ p. lines p ≡ p ∷ []) (sym (take-one (prefix_len is_other bs) b bs))
          (line-cons b (take (prefix_len is_other bs) bs) e (lines-prefix bs))
    ] refl

-- the input falls apart at its first newline
prefix-newline : (bs : List ℕ) → prefix_len is_other bs < length bs →
    take (prefix_len is_other bs) bs ++ 10 ∷ drop (prefix_len is_other bs + 1) bs ≡ bs
prefix-newline [] h = absurd (omega arith)
prefix-newline (b ∷ bs) h = grind (arith, prefix-newline bs, eqb-true, take-one, drop-one)

-- where a newline was found
pub record IsCutAt (bs : List ℕ) (at : ℕ) : Type 0 where
  pub one : lines (take at bs) ≡ take at bs ∷ []
  pub parts : take at bs ++ 10 ∷ drop (at + 1) bs ≡ bs

pub newline_found : (bs : List ℕ) (at : ℕ) → position (λ b. b == 10) bs ≡ Some at → IsCutAt bs at
newline_found bs at e = grind (arith, lines-prefix bs, prefix-newline bs)

pub newline_none : (bs : List ℕ) → position (λ b. b == 10) bs ≡ None → lines bs ≡ bs ∷ []
newline_none bs e = grind (arith, lines-prefix bs, take_all)

-- ---- a line that is cut

-- cutting may begin with what is there already
pub cut-append : (n : ℕ) (line piece : List ℕ) →
    take n line ++ take (min (length piece) (n - length (take n line))) piece ≡ take n (line ++ piece)
cut-append zero line piece = grind arith
cut-append (suc n) [] piece = let least : min (length piece) (suc n - 0) ≡ min (suc n) (length piece) =
    omega arith in ap (λ k. take k piece) least ∙ take_min (suc n) piece
cut-append (suc n) (b ∷ line) piece = grind (arith, cut-append n line piece)

pub cut-short : (line : List ℕ) → length line ≤ LONGEST_LINE → line_up_to_limit line ≡ line
cut-short line h = take_all (LONGEST_LINE + 1) line (omega arith)

pub cut-long : (line : List ℕ) → LONGEST_LINE < length line → LONGEST_LINE < length (line_up_to_limit line)
cut-long line h = omega (arith, length-take (LONGEST_LINE + 1) line)

-- ---- what lines ask

line_of-long : (l : List ℕ) → LONGEST_LINE < length l → line_of l ≡ Err line.too_long
unfolding line_of
line_of-long l h = rw (lt-leb (length l) LONGEST_LINE h) refl

is_blank-long : (l : List ℕ) → LONGEST_LINE < length l → is_blank l ≡ false
is_blank-long l h = ap (λ b. b && list_all is_space l) (lt-leb (length l) LONGEST_LINE h)

-- of a line that is too long no more is looked at
pub cut-same : (l : List ℕ) → (is_blank (line_up_to_limit l) ≡ is_blank l) × (line_of (line_up_to_limit l) ≡ line_of l)
cut-same l =
    elim (nat_le (length l) LONGEST_LINE) as
    (λ b. nat_le (length l) LONGEST_LINE ≡ b → (is_blank (line_up_to_limit l) ≡ is_blank l) ×
    (line_of (line_up_to_limit l) ≡ line_of l)) [
      | true ↦ λ short. let same = cut-short l (leb-true _ _ short) in (ap is_blank same, ap line_of same)
      | false ↦ λ long.
          let over : LONGEST_LINE < length l = leb-false _ _ long in
          let cut_over = cut-long l over in (
            is_blank-long (line_up_to_limit l) cut_over ∙ sym (is_blank-long l over),
            line_of-long (line_up_to_limit l) cut_over ∙ sym (line_of-long l over),
          )
    ] refl

pub asked-append : (ls ms : List (List ℕ)) → asked_by_lines (ls ++ ms) ≡ asked_by_lines ls ++ asked_by_lines ms
asked-append ls ms = ap (λ (l : List (List ℕ)). map line_of l) (filter-append (λ l. not (is_blank l)) ls ms) ∙
    map-append line_of (lines_with_reply ls) (lines_with_reply ms)

-- a blank line asks nothing, another one what it says
pub asked-blank : (l : List ℕ) → is_blank l ≡ true → asked_by_lines (l ∷ []) ≡ []
asked-blank l blank = ap (λ k. map line_of (cond (not k) (l ∷ []) [])) blank

pub asked-line : (l : List ℕ) → is_blank l ≡ false → asked_by_lines (l ∷ []) ≡ line_of l ∷ []
asked-line l blank = ap (λ k. map line_of (cond (not k) (l ∷ []) [])) blank
