-- What stands in the first bytes from a place on stands there, and the other way.
use Rattle.std.proofs.Common.{◌≡◌, ◌∙◌, ℕ, ◌+◌, ◌<◌, ◌≤◌, List, length, sym, ap, arith}
use Rattle.std.specs.Prelude.{slice_index}
use Rattle.fp_journal.specs.Holds.{Holds}
use Rattle.fp_journal.specs.Firsts.{AreFirst}
use Rattle.fp_journal.proofs.Holds.{holds_inner}

pub first_at : (c : List ℕ) (at count : ℕ) (bytes : List ℕ) (k : ℕ) → AreFirst c at count bytes → k < length bytes →
    slice_index c (at + k) ≡ slice_index bytes k
first_at c at count bytes k f lt = f.there.same k lt

pub held_from : (c : List ℕ) (at count i : ℕ) (bytes text : List ℕ) → AreFirst c at count bytes → Holds bytes i text → Holds c (at + i) text
held_from c at count i bytes text f h = holds_inner c at i bytes text f.there h

pub held_in : (c : List ℕ) (at count i : ℕ) (bytes text : List ℕ) → AreFirst c at count bytes →
    i + length text ≤ count → Holds c (at + i) text → Holds bytes i text
held_in c at count i bytes text f within h = let many = f.many in let long = h.long in
    let le : i + length text ≤ length bytes = omega (arith, many, long, within) in record {
      long = le;
      same = λ k lt. let e : at + (i + k) ≡ at + i + k = omega arith in
          sym (f.there.same (i + k) (omega (arith, le, lt))) ∙ (ap (λ (j : ℕ). slice_index c j) e ∙ h.same k lt);
    }
