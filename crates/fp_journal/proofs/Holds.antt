-- Text that stands in bytes: joined and cut, written, and after a crash.
use Rattle.std.proofs.Common.{◌≡◌, inl, inr, ⊎_elim, ℕ, ◌+◌, ◌-◌, ◌<◌, ◌≤◌, max, List, [], ◌∷◌, ◌++◌, length, take}
use Rattle.std.proofs.Common.{drop, replicate, refl, sym, ◌∙◌, ap, arith, length-append, subst}
use Rattle.std.specs.Prelude.{slice_index, slice_range}
use Rattle.std.proofs.lemmas.Grind.{common_steps}
use Rattle.std.proofs.lemmas.List.{ext_get_or, get_or-append_right, get_or-append-add, get_or_append_left, get_or-take}
use Rattle.std.proofs.lemmas.List.{get_or-drop, get_or-replicate, length-take, length-drop, length-replicate}
use Rattle.std.proofs.lemmas.Bool.{cases_lt}
use Rattle.fp_disk.specs.Outcomes.{PendingState, IsOutcome, all_synced, with_write, ChangesWithin, Written}
use Rattle.fp_journal.specs.Holds.{Holds, IsSynced, Apart}

-- ---- joined and cut
pub holds_append : (c : List ℕ) (at : ℕ) (xs ys : List ℕ) → Holds c at xs → Holds c (at + length xs) ys → Holds c at (xs ++ ys)
holds_append c at xs ys p q = let a = p.long in let b = q.long in let len = length-append xs ys in record {
  long = omega (arith, len);
  same = λ k lt. elim (cases_lt k (length xs)) [
    | inl front ↦ p.same k front ∙ sym (get_or_append_left xs ys 0 k front)
    | inr back ↦ let e : length xs + (k - length xs) ≡ k = omega (arith, back) in
        let f : at + length xs + (k - length xs) ≡ at + k = omega (arith, back) in
        ap (λ (j : ℕ). slice_index c j) (sym f) ∙ q.same (k - length xs) (omega (arith, len, lt, back)) ∙
        sym (get_or-append-add xs ys (k - length xs) 0) ∙ ap (λ (j : ℕ). slice_index (xs ++ ys) j) e
  ];
}

pub holds_front : (c : List ℕ) (at : ℕ) (xs ys : List ℕ) → Holds c at (xs ++ ys) → Holds c at xs
holds_front c at xs ys p = let a = p.long in let len = length-append xs ys in
    record { long = omega (arith, len, a); same = λ k lt. p.same k (omega (arith, len, lt)) ∙ get_or_append_left xs ys 0 k lt }

pub holds_back : (c : List ℕ) (at : ℕ) (xs ys : List ℕ) → Holds c at (xs ++ ys) → Holds c (at + length xs) ys
holds_back c at xs ys p = let a = p.long in let len = length-append xs ys in
    record {
      long = omega (arith, len, a);
      same = λ k lt. let f : at + length xs + k ≡ at + (length xs + k) =
          omega arith in ap (λ (j : ℕ). slice_index c j) f ∙ p.same (length xs + k) (omega (arith, len, lt)) ∙
          get_or-append-add xs ys k 0;
    }

pub holds_byte : (c : List ℕ) (at : ℕ) → at < length c → Holds c at (slice_index c at ∷ [])
holds_byte c at lt = record {
  long = omega (arith, lt);
  same = λ k lt1. let z : k ≡ 0 = omega (arith, lt1) in
      rw z (let e : at + 0 ≡ at = omega arith in ap (λ (j : ℕ). slice_index c j) e);
}

pub byte_held : (c : List ℕ) (at x : ℕ) (xs : List ℕ) → Holds c at (x ∷ xs) → slice_index c at ≡ x
byte_held c at x xs p = let e : at ≡ at + 0 = omega arith in ap (λ (j : ℕ). slice_index c j) e ∙ p.same 0 (omega arith)

-- ---- ranges
-- text that stands there is what a range there gives
pub range_held : (c : List ℕ) (at : ℕ) (text : List ℕ) → Holds c at text → slice_range c at (at + length text) ≡ text
range_held c at text p = let a = p.long in let n : at + length text - at ≡ length text = omega arith in
    let d : length (drop at c) ≡ length c - at = length-drop at c in
    let len : length (take (at + length text - at) (drop at c)) ≡ length text =
    omega (arith, length-take (at + length text - at) (drop at c), d, a) in
    ext_get_or 0 (slice_range c at (at + length text)) text len
    (λ k lt. get_or-take (at + length text - at) (drop at c) k 0 (omega (arith, len, lt)) ∙
    get_or-drop at c k 0 ∙ p.same k (omega (arith, len, lt)))

pub held_range : (c : List ℕ) (at n : ℕ) → at + n ≤ length c → Holds c at (slice_range c at (at + n)) ×
    (length (slice_range c at (at + n)) ≡ n)
held_range c at n le =
    let d : length (drop at c) ≡ length c - at = length-drop at c in
    let len : length (take (at + n - at) (drop at c)) ≡ n = omega (arith, length-take (at + n - at) (drop at c), d, le) in (
      record {
        long = omega (arith, len, le);
        same =
            λ k lt. sym (get_or-take (at + n - at) (drop at c) k 0 (omega (arith, len, lt)) ∙ get_or-drop at c k 0);
      },
      len,
    )

-- text that stands in text that stands there
pub holds_inner : (c : List ℕ) (at i : ℕ) (front text : List ℕ) → Holds c at front → Holds front i text → Holds c (at + i) text
holds_inner c at i front text p q = let a = p.long in let b = q.long in record {
  long = omega (arith, a, b);
  same = λ k lt. let e : at + i + k ≡ at + (i + k) = omega arith in
      ap (λ (j : ℕ). slice_index c j) e ∙ p.same (i + k) (omega (arith, b, lt)) ∙ q.same k lt;
}

-- and a range of it
pub holds_part : (c : List ℕ) (at i n : ℕ) (front part : List ℕ) → Holds c at front → i + n ≤ length front →
    part ≡ slice_range front i (i + n) → Holds c (at + i) part × (length part ≡ n)
holds_part c at i n front part p le is = let r = held_range front i n le in
    (holds_inner c at i front part p (subst (λ (t : List ℕ). Holds front i t) (sym is) r.0), ap length is ∙ r.1)

-- ---- a write
written_inside : (old more new : List ℕ) (at j : ℕ) → Written old at more new → j < length more →
    slice_index new (at + j) ≡ slice_index more j
written_inside old more new at j is lt = rw is (grind (arith, common_steps))

written_before : (old more new : List ℕ) (at k : ℕ) → Written old at more new → k < at → k < length old →
    slice_index new k ≡ slice_index old k
written_before old more new at k is lt in_old = rw is (grind (arith, common_steps))

-- behind the text all is as it was
pub written_after : (old more new : List ℕ) (at k : ℕ) → Written old at more new → at + length more ≤ k →
    slice_index new k ≡ slice_index old k
written_after old more new at k is le =
    let front = take at (old ++ replicate (at - length old) 0) ++ more in
    let len : length front ≡ at + length more = grind (arith, common_steps) in
    let there : (at + length more) + (k - (at + length more)) ≡ k = omega (arith, le) in
    rw is (get_or-append_right front (drop (at + length more) old) (at + length more) k 0 len le ∙
    (get_or-drop (at + length more) old (k - (at + length more)) 0 ∙ ap (λ (j : ℕ). slice_index old j) there))

-- in a gap lie zeros
pub written_gap : (old more new : List ℕ) (at k : ℕ) → Written old at more new → length old ≤ k → k < at → slice_index new k ≡ 0
written_gap old more new at k is past lt =
    let gap : List ℕ = replicate (at - length old) 0 in let front : List ℕ = take at (old ++ gap) in
    let gap_long : length gap ≡ at - length old = length-replicate (at - length old) 0 in
    let long : length front ≡ at = omega (arith, length-take at (old ++ gap), length-append old gap, gap_long, past, lt) in
    let joined = length-append front more in
    rw is (get_or_append_left (front ++ more) (drop (at + length more) old) 0 k (omega (arith, joined, long, lt)) ∙
    (get_or_append_left front more 0 k (omega (arith, long, lt))
    ∙ (get_or-take at (old ++ gap) k 0 lt ∙
    (get_or-append_right old gap (length old) k 0 refl past ∙
    get_or-replicate (at - length old) (k - length old) 0 0 (omega (arith, past, lt))))))

pub written_long : (old more new : List ℕ) (at : ℕ) → Written old at more new → length new ≡ max (length old) (at + length more)
written_long old more new at is = rw is (grind (arith, common_steps))

-- a write puts its text there
pub holds_written : (old more new : List ℕ) (at : ℕ) → Written old at more new → Holds new at more
holds_written old more new at is = let len = written_long old more new at is in
    record { long = omega (arith, len); same = λ k lt. written_inside old more new at k is lt }

-- and leaves text apart from it
pub holds_apart : (old more new text : List ℕ) (from at : ℕ) → Written old from more new →
    Apart from (length more) at (length text) → Holds old at text → Holds new at text
holds_apart old more new text from at is apart p = let len = written_long old more new from is in let a = p.long in record {
  long = omega (arith, len, a);
  same = λ k lt. ⊎_elim (λ before. written_after old more new from (at + k) is (omega (arith, before)) ∙ p.same k lt)
      (λ behind. written_before old more new from (at + k) is (omega (arith, behind, lt)) (omega (arith, a, lt)) ∙
      p.same k lt) apart;
}

-- a write, or a part of it, that the text doesn't reach
pub holds_within : (old new text : List ℕ) (from n at : ℕ) → ChangesWithin old from n new →
    Apart from n at (length text) → Holds old at text → Holds new at text
holds_within old new text from n at is apart p = let a = p.long in let longer = is.no_shorter in record {
  long = omega (arith, a, longer);
  same = λ k lt. is.outside (at + k) (omega (arith, a, lt))
      (λ within. ⊎_elim (λ before. omega (arith, before, within.1)) (λ behind. omega (arith, behind, lt, within.0))
      apart) ∙ p.same k lt;
}

-- ---- a crash
-- what is firm is in every outcome
pub firm_outcome : (u : PendingState) (at : ℕ) (text c : List ℕ) → IsSynced u at text → IsOutcome u c → Holds c at text
firm_outcome u at text c f o = let a = f.holds.long in let b = o.no_shorter in record {
  long = omega (arith, a, b);
  same = λ k lt. o.kept (at + k) (omega (arith, a, lt)) (f.untouched (at + k) (omega arith) (omega (arith, lt))) ∙ f.holds.same k lt;
}

-- and stays firm where a write lies apart from it
pub firm_touched : (u : PendingState) (at from n : ℕ) (text : List ℕ) → Apart from n at (length text) →
    IsSynced u at text → IsSynced (with_write u from n) at text
firm_touched u at from n text apart f = record {
  holds = f.holds;
  untouched = λ k le lt covers. ⊎_elim (λ here. let x = here.0 in let y = here.1 in
      ⊎_elim (λ before. omega (arith, le, lt, x, y, before)) (λ behind. omega (arith, le, lt, x, y, behind)) apart)
      (λ past. f.untouched k le lt past) covers;
}

-- what stands there when a sync succeeds is firm
pub firm_settled : (b : List ℕ) (at : ℕ) (text : List ℕ) → Holds b at text → IsSynced (all_synced b) at text
firm_settled b at text p = record { holds = p; untouched = λ k le lt none. none }

pub firm_front : (u : PendingState) (at : ℕ) (xs ys : List ℕ) → IsSynced u at (xs ++ ys) → IsSynced u at xs
firm_front u at xs ys f = let len = length-append xs ys in
    record {
      holds = holds_front u.synced at xs ys f.holds;
      untouched =
          λ k le lt. f.untouched k le (omega (arith, len, lt));
    }

-- what a sync makes sure of is an outcome of before it
pub settled_outcome : (u : PendingState) (b c : List ℕ) → IsOutcome u b → IsOutcome (all_synced b) c → IsOutcome u c
settled_outcome u b c o s = let a = o.no_shorter in let d = o.no_longer in let x = s.no_shorter in let y = s.no_longer in
    record {
      bytes = s.bytes;
      no_shorter = omega (arith, a, x);
      no_longer = omega (arith, d, y);
      kept =
          λ k lt out. s.kept k (omega (arith, a, lt)) (λ none. none) ∙ o.kept k lt out;
    }
