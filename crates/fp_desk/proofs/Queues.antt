-- Edits of two queues, one by one.
use Rattle.std.proofs.Common.{◌≡◌, ◌<◌, ◌≤◌, ◌+◌, ◌*◌, ◌^◌, ℕ, zero, suc, List, [], ◌∷◌, ◌++◌, ◌⊎◌, inl, inr, ⊎_elim}
use Rattle.std.proofs.Common.{length, map, take, drop, get_or, Bool, true, false, Result, Ok, Err, Fits, refl, sym, ap}
use Rattle.std.proofs.Common.{◌∙◌, arith}
use borrow.Author.Tests.{eqb-false, eqb-true}
use Rattle.std.specs.Int.{w64}
use Rattle.std.specs.Prelude.{OnOk, OnErr, ◌==◌, ◌≢◌}
use Rattle.std.specs.Result.{is_err}
use Rattle.std.proofs.lemmas.List.{length-map, map-append, take_at, drop_at}
use Rattle.std.proofs.lemmas.List.Sums.{sum_by-append, sum_by-cons}
use Rattle.fp_edit.specs.declared.changes.TheConstants.{LONGEST_EDIT}
use Rattle.fp_record.specs.declared.batch.TheConstants.{MOST_EDITS}
use Rattle.fp_record.specs.Group.{Group}
use Rattle.fp_record.specs.Encoding.{batch_len, encoding_of_change}
use Rattle.fp_desk.specs.Desk.{IsLongestPart}
use Rattle.fp_edit.specs.Edits.{Change, Proposal, change_in, proposal_of}
use Rattle.fp_edit.specs.Parts.{Part, parts_of, proposed_of}
use Rattle.fp_edit.specs.declared.edit.Change as code
use Rattle.fp_edit.specs.declared.edit.Edit.{Edit}
use Rattle.fp_edit.specs.Following.{change_of, changes_of}
use Rattle.fp_edit.proofs.Followed.{all_taken, taken_more}

-- what two lists come to alike, they come to alike at each place
pub same_at : {A B : Type 0} (f : A → B) (xs ys : List A) (i : ℕ) (x y : A) → i < length xs → x ≡ get_or xs i x →
    y ≡ get_or ys i y → map f xs ≡ map f ys → f x ≡ f y
same_at f [] ys i x y lt p q e = absurd (omega (arith, lt))
same_at f (a ∷ xs) [] i x y lt p q e = absurd (cc e)
same_at f (a ∷ xs) (b ∷ ys) zero x y lt p q e = let here : f a ≡ f b = cc e in ap f p ∙ here ∙ sym (ap f q)
same_at f (a ∷ xs) (b ∷ ys) (suc i) x y lt p q e = same_at f xs ys i x y (omega (arith, lt)) p q (cc e)

abbrev pub part_in : code.Change → Part
part_in c = (proposed_of c).part

pub parts_are : (xs : List code.Change) → parts_of (map proposed_of xs) ≡ map part_in xs
parts_are [] = refl
parts_are (x ∷ xs) = ap (λ (l : List Part). part_in x ∷ l) (parts_are xs)

pub nil_of : (xs : List Edit) → length xs ≡ 0 → changes_of xs ≡ []
nil_of [] h = refl
nil_of (x ∷ xs) h = absurd (omega (arith, h))

pub no_front : {A : Type 0} (xs ys : List A) → xs ++ ys ≡ [] → xs ≡ []
no_front [] ys e = refl
no_front (x ∷ xs) ys e = absurd cc

-- ---- the longest part
pub first_left : (xs : List Edit) (n : ℕ) (e : Edit) → n < length xs → e ≡ get_or xs n e →
    (c : Change) (more : List Change) → changes_of (drop n xs) ≡ c ∷ more → c ≡ change_of e
first_left [] n e lt is c more h = absurd (omega (arith, lt))
first_left (x ∷ xs) zero e lt is c more h = let here : change_of x ≡ c = cc h in sym here ∙ sym (ap change_of is)
first_left (x ∷ xs) (suc n) e lt is c more h = first_left xs n e (omega (arith, lt)) is c more h

pub taken_len : (xs : List Edit) (n : ℕ) → n ≤ length xs → length (changes_of (take n xs)) ≡ n
taken_len xs n le = length-map (take n xs) change_of ∙ length-take_le n xs le
  where
    length-take_le : (n : ℕ) (xs : List Edit) → n ≤ length xs → length (take n xs) ≡ n
    length-take_le zero xs le = refl
    length-take_le (suc n) [] le = absurd (omega (arith, le))
    length-take_le (suc n) (x ∷ xs) le = let rest = length-take_le n xs (omega (arith, le)) in omega (arith, rest)

part_len : (cs : List Change) (c : Change) →
    batch_len (record { first = 0; changes = cs ++ c ∷ [] }) ≡ batch_len (record { first = 0; changes = cs }) +
    length (encoding_of_change c)
part_len cs c =
    let len : Change → ℕ = λ x. length (encoding_of_change x) in
    let all = sum_by-append len cs (c ∷ []) in let one = sum_by-cons len c [] in omega (arith, all, one)

module _ (xs : List Edit) (n most : ℕ) (some : 1 ≤ n) (le : n ≤ length xs) (few : n ≤ MOST_EDITS)
    (short : (n ≡ 1) ⊎ (batch_len (record { first = 0; changes = changes_of (take n xs) }) ≤ most))
    (small : batch_len (record { first = 0; changes = changes_of (take n xs) }) ≤ 10 + LONGEST_EDIT * n) where
  abbrev Front : Group
  Front = record { first = 0; changes = changes_of (take n xs) }

  pub part_by : (changes_of (drop n xs) ≡ []) ⊎ (length (changes_of (take n xs)) ≡ MOST_EDITS) ⊎
      ((c : Change) (more : List Change) → changes_of (drop n xs) ≡ c ∷ more →
      most < batch_len (record { first = 0; changes = changes_of (take n xs) ++ c ∷ [] }))
      → IsLongestPart most Front (changes_of xs) (changes_of (drop n xs))
  part_by longest = let len = taken_len xs n le in record {
    parts = all_taken xs n;
    some = omega (arith, len, some);
    few = omega (arith, len, few);
    short = ⊎_elim (λ (one : n ≡ 1). inl (len ∙ one)) (λ (fits : batch_len Front ≤ most). inr fits) short;
    fits = λ wide. ⊎_elim (λ (one : n ≡ 1). omega (arith, small, one, wide)) (λ (fits : batch_len Front ≤ most). fits) short;
    longest = longest;
  }

  pub part_full : MOST_EDITS ≤ n → IsLongestPart most Front (changes_of xs) (changes_of (drop n xs))
  part_full full = part_by (inr (inl (let len = taken_len xs n le in omega (arith, len, full, few))))

  pub part_wide : (e : Edit) → n < length xs → e ≡ get_or xs n e →
      most < batch_len Front + length (encoding_of_change (change_of e)) →
      IsLongestPart most Front (changes_of xs) (changes_of (drop n xs))
  part_wide e lt is wide = part_by (inr (inr (λ c more h.
      let same : c ≡ change_of e = first_left xs n e lt is c more h in
      let len = part_len (changes_of (take n xs)) c in let same_len = ap (λ (x : Change). length (encoding_of_change x)) same in
      omega (arith, wide, len, same_len))))

pub renumbered : (most first : ℕ) (cs waiting rest : List Change) →
    IsLongestPart most (record { first = 0; changes = cs }) waiting rest →
    IsLongestPart most (record { first = first; changes = cs }) waiting rest
renumbered most first cs waiting rest p =
    record { parts = p.parts; some = p.some; few = p.few; short = p.short; fits = p.fits; longest = p.longest }

-- the first edits were moved
pub moved : (old xs ys zs : List Edit) (n : ℕ) → length old ≡ 0 → xs ++ ys ≡ old ++ zs → length xs ≡ length old + n →
    (xs ≡ take n zs) × (ys ≡ drop n zs) × (xs ++ ys ≡ zs)
moved [] xs ys zs n none all count =
    let len : length xs ≡ n = omega (arith, count, none) in (
      sym (ap (λ (l : List Edit). take n l) (sym all) ∙ take_at xs ys n len),
      sym (ap (λ (l : List Edit). drop n l) (sym all) ∙ drop_at xs ys n len),
      all,
    )
moved (x ∷ old) xs ys zs n none all count = absurd (omega (arith, none))

-- how many changes two queues have
pub counted : (xs ys : List Edit) (a b : ℕ) → a ≡ length xs → b ≡ length ys → length (changes_of xs) + length (changes_of ys) ≡ a + b
counted xs ys a b p q = let first = length-map xs change_of in let second = length-map ys change_of in omega (arith, first, second, p, q)

pub fits_both : (a b m n k l : ℕ) → a ≡ m → b ≡ n → (k < 2 ^ 63) × (m ≤ k) → (l < 2 ^ 63) × (n ≤ l) → Fits w64 (a + b)
fits_both a b m n k l p q r s = let k_small = r.0 in let l_small = s.0 in let m_le = r.1 in let n_le = s.1 in
    omega (arith, p, q, k_small, l_small, m_le, n_le)

-- what a call promises where it hasn't failed
pub held : {A E : Type 0} (r : Result A E) (failed : Bool) (P : Type 0) → OnOk r P → failed ≡ is_err r → failed ≡ false → P
held (Ok x) failed P ok is not = ok
held (Err e) failed P ok is not = absurd cc

pub has_room : {A E : Type 0} (r : Result A E) (failed : Bool) (m n : ℕ) → OnOk r (m + 1 ≤ n) → failed ≡ is_err r → failed ≡ false → m < n
has_room r failed m n room is not = let more = held r failed (m + 1 ≤ n) room is not in omega (arith, more)

pub on_err : {A E : Type 0} (r : Result A E) (P : Type 0) → P → OnErr r P
on_err (Ok x) P p = tt
on_err (Err e) P p = p

-- whether a queue is empty
pub no_items : (xs : List Edit) (b : Bool) (n : ℕ) → b ≡ (n == 0) → n ≡ length xs → b ≡ true → length xs ≡ 0
no_items xs b n is len on = sym len ∙ eqb-true n 0 (sym is ∙ on)

pub some_items : (xs : List Edit) (b : Bool) (n : ℕ) → b ≡ (n == 0) → n ≡ length xs → b ≡ false → 0 < length xs
some_items xs b n is len off = let some : n ≢ 0 = eqb-false n 0 (sym is ∙ off) in omega (arith, some, len)

pub some_changes : (xs : List Edit) → 0 < length xs → changes_of xs ≢ []
some_changes [] some e = omega (arith, some)
some_changes (x ∷ xs) some e = cc

-- one more was copied
pub copied_more : (xs copies more : List Edit) (i : ℕ) (x y : Edit) → more ≡ copies ++ y ∷ [] →
    changes_of copies ≡ changes_of (take i xs) → proposal_of y ≡ proposal_of x → i < length xs → x ≡ get_or xs i x →
    changes_of more ≡ changes_of (take (i + 1) xs)
copied_more xs copies more i x y pushed before copy lt is =
    ap changes_of pushed ∙ map-append change_of copies (y ∷ []) ∙ ap (λ (l : List Change). l ++ change_of y ∷ []) before
    ∙ ap (λ (p : Proposal). changes_of (take i xs) ++ change_in p ∷ []) copy ∙ sym (taken_more xs i x lt is)
