-- The steps that batches owe.
use Rattle.std.proofs.Common.{◌≡◌, ◌∷◌, ◌++◌, [], Bool, List, true, false, ap, refl, subst}
use Rattle.fp_disk.specs.declared.disk.Disk.{Ghosts}
use Rattle.fp_committer.specs.Course.{Course}
use Rattle.fp_committer.specs.StoreHalf.{StoreHalfState}
use Rattle.fp_plane.specs.Flushing.{PaysEach, PaysFirst, StepsWhereDue, Turn, Turns}
use Rattle.fp_plane.specs.Lying.{LyingState}

-- a turn more
turn_more : {D : Type 0} (disk : Ghosts D) (a b sealed paid : StoreHalfState D) (ts : List (Turn D))
    → Turns disk a ts b → Course disk b sealed → StepsWhereDue disk.faults sealed.store paid.store
    → Turns disk a (ts ++ (record { sealed = sealed; paid = paid } ∷ [])) paid
turn_more disk a b sealed paid [] is course step =
    (subst (λ (x : StoreHalfState _). Course disk x sealed) is course, step, refl)
turn_more disk a b sealed paid (t ∷ ts) each course step =
    (each.0, each.1, turn_more disk t.paid b sealed paid ts each.2 course step)

-- a batch more, and the step behind it
pub pays_again : {D : Type 0} (disk : Ghosts D) (owed : Bool) (a b sealed paid : StoreHalfState D)
    → PaysEach disk owed a b → Course disk b sealed → StepsWhereDue disk.faults sealed.store paid.store
    → PaysEach disk owed a paid
pays_again disk owed a b sealed paid before course step = record {
  paid = before.paid;
  first = before.first;
  turns = before.turns ++ (record { sealed = sealed; paid = paid } ∷ []);
  each = turn_more disk before.paid b sealed paid before.turns before.each course step;
}

not_true : (b : Bool) → (b ≡ true → ⊥) → b ≡ false
not_true true never = absurd (never refl)
not_true false never = refl

-- where sealing that broke off goes on no more, and it goes on at the end, it went on before
went_on : {D : Type 0} (m n : LyingState D) → (m.broken ≡ true → n ≡ m) → n.broken ≡ false → m.broken ≡ false
went_on m n over well = not_true m.broken (λ bad. let same = ap (λ (l : LyingState _). l.broken) (over bad) in cc)

-- who leads takes the step, and seals behind it
pub leads : {D : Type 0} (disk : Ghosts D) (a m n : LyingState D)
    → (a.owes_step ≡ true → m.broken ≡ false → StepsWhereDue disk.faults a.half.store m.half.store)
    → (a.owes_step ≡ false → m ≡ a) → (m.broken ≡ true → n ≡ m)
    → (m.broken ≡ false → Course disk m.half n.half) → n.broken ≡ false
    → PaysFirst disk a.owes_step a.half n.half
leads disk a m n step no_step over course well =
    let on = went_on m n over well in record {
      paid = m.half;
      first = record {
        step = λ owed. step owed on;
        no_step = λ none. ap (λ (l : LyingState _). l.half) (no_step none);
      };
      course = course on;
    }
