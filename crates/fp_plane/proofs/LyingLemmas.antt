-- The store's half of a plane, as who takes its lock leaves it.
use Rattle.std.proofs.Common.{◌≡◌, ◌⊎◌, ◌<◌, ◌∷◌, ℕ, List, [], Bool, true, false, Ok, Err}
use Rattle.std.proofs.Common.{inl, inr, ⊎_elim, sym, subst, refl, ◌∙◌}
use Rattle.std.specs.Prelude.{OnErr, OnOk, Result}
use Rattle.std.specs.Result.{is_err}
use mathlib.Core.List.{IsPrefix}
use Rattle.fp_disk.specs.Crashes.{EachCrash}
use Rattle.fp_disk.specs.Outcomes.{IsOutcome}
use Rattle.fp_disk.specs.declared.disk.Disk.{Ghosts}
use Rattle.fp_committer.specs.Course.{Course, LacksRoom}
use Rattle.fp_committer.specs.CourseLaws.{course_still, course_then}
use Rattle.fp_committer.specs.Halves.{Names}
use Rattle.fp_committer.specs.StoreHalf.{KeptBy, StoreHalfState}
use Rattle.fp_group_commit.specs.Tokens.{Identity}
use Rattle.fp_plane.proofs.HalfLemmas.{flushes_badly, flushes_well, ours_on}
use Rattle.fp_plane.specs.Flushing.{Flushes, IsResting}
use Rattle.fp_hall.specs.Hall.{IsStoreOf}
use Rattle.fp_plane.specs.Lying.{IsLeft}
use Rattle.fp_plane.specs.declared.flushing.Broken.{Broken}

-- of two lists of one element, of which one begins the other, the elements are one
one_begins : {A : Type 0} (a b : A) → IsPrefix (a ∷ []) (b ∷ []) → a ≡ b
one_begins a b p = cc p.1

-- a cause is one of two
pub either_cause : {A E : Type 0} (X Y : Type 0) (r : Result A E) → OnErr r X → OnErr r (X ⊎ Y)
either_cause X Y (Ok a) cause = tt
either_cause X Y (Err e) cause = inl cause

module _ {D : Type 0} (disk : Ghosts D) (store : Identity) (desk_lists store_lists : Names) where
  abbrev pub Left : StoreHalfState D → Bool → List (StoreHalfState D) → Type 0
  Left = IsLeft disk store desk_lists store_lists

  abbrev pub Ours : StoreHalfState D → Type 0
  Ours = IsStoreOf store desk_lists store_lists

  -- a plane begins with it
  left_at : (a : StoreHalfState D) (began : List (StoreHalfState D)) → began ≡ a ∷ []
      → EachCrash disk a.store.disk (KeptBy a) → Ours a → IsResting a → Left a false began
  left_at a began only exit ours rest = record {
    first = a;
    only = only;
    exit = exit;
    course = course_still disk a;
    ours = ours;
    rest = λ well. rest;
    no_failure = λ well. refl;
    cause = λ bad. absurd cc;
  }

  pub left_first : (a h : StoreHalfState D) (began : List (StoreHalfState D)) → a ≡ h
      → began ≡ h ∷ [] → EachCrash disk a.store.disk (KeptBy a) → Ours h → IsResting h
      → Left a false began
  left_first a h began same only exit ours rest =
      let at = subst (λ (x : StoreHalfState D). EachCrash disk x.store.disk (KeptBy x)) same exit in
      subst (λ (x : StoreHalfState D). Left x false began) (sym same) (left_at h began only at ours rest)

  module _ (a n : StoreHalfState D) (began : List (StoreHalfState D)) (w : Left a false began)
      (course : Course disk a n) where
    left_well : IsResting n → disk.faults n.store.disk ≡ disk.faults a.store.disk → Left n false began
    left_well rest same = record {
      first = w.first;
      only = w.only;
      exit = w.exit;
      course = course_then disk w.first a n w.course course;
      ours = ours_on disk store desk_lists store_lists a n course w.ours;
      rest = λ well. rest;
      no_failure = λ well. same ∙ w.no_failure refl;
      cause = λ bad. absurd cc;
    }

    left_badly : (disk.faults a.store.disk < disk.faults n.store.disk) ⊎ LacksRoom disk n
        → Left n true began
    left_badly cause = record {
      first = w.first;
      only = w.only;
      exit = w.exit;
      course = course_then disk w.first a n w.course course;
      ours = ours_on disk store desk_lists store_lists a n course w.ours;
      rest = λ well. absurd cc;
      no_failure = λ well. absurd cc;
      cause = λ bad. ⊎_elim (λ more. inl (rw (← w.no_failure refl) more)) (λ full. inr full) cause;
    }

    left_by : {A E : Type 0} (ended : Result A E) → OnOk ended (IsResting n)
        → OnOk ended (disk.faults n.store.disk ≡ disk.faults a.store.disk)
        → OnErr ended ((disk.faults a.store.disk < disk.faults n.store.disk) ⊎ LacksRoom disk n)
        → Left n (is_err ended) began
    left_by (Ok u) rest same cause = left_well rest same
    left_by (Err e) rest same cause = left_badly cause

  -- who took the lock sealed, or broke off
  pub left_then : {A E : Type 0} (a n : StoreHalfState D) (began : List (StoreHalfState D))
      (was now : Bool) (ended : Result A E) → Left a was began → was ≡ false → Course disk a n
      → OnOk ended (IsResting n)
      → OnOk ended (disk.faults n.store.disk ≡ disk.faults a.store.disk)
      → OnErr ended ((disk.faults a.store.disk < disk.faults n.store.disk) ⊎ LacksRoom disk n)
      → now ≡ is_err ended → Left n now began
  left_then a n began was now ended w well course rest same cause is =
      let at = subst (λ (b : Bool). Left a b began) well w in
      subst (λ (b : Bool). Left n b began) (sym is) (left_by a n began at course ended rest same cause)

  -- what is left has come from the half that a front of the list has
  module _ (only_now : (x : D) (c : List ℕ) → disk.honest x
      → disk.crash_states_since x (disk.moment x) c → IsOutcome (disk.unsynced x) c)
      (a first : StoreHalfState D) (began front : List (StoreHalfState D)) (broken : Bool)
      (w : Left a broken began) (begins : IsPrefix front began) (only : front ≡ first ∷ []) where
    same_first : first ≡ w.first
    same_first =
        let one = subst (λ (l : List (StoreHalfState D)). IsPrefix l began) only begins in
        one_begins first w.first
        (subst (λ (l : List (StoreHalfState D)). IsPrefix (first ∷ []) l) w.only one)

    flushed_well : broken ≡ false → Flushes disk first a (Ok tt)
    flushed_well well =
        subst (λ (x : StoreHalfState D). Flushes disk x a (Ok tt)) (sym same_first)
        (flushes_well disk only_now w.first a w.exit w.course (w.rest well) (w.no_failure well))

    flushed_badly : (e : Broken) → broken ≡ true → Flushes disk first a (Err e)
    flushed_badly e bad =
        subst (λ (x : StoreHalfState D). Flushes disk x a (Err e)) (sym same_first)
        (flushes_badly disk only_now w.first a w.exit w.course e (w.cause bad))

    -- it ended well or badly, as sealing went on or broke off
    pub flushed : (ended : Result (Unit {0}) Broken) → broken ≡ is_err ended → Flushes disk first a ended
    flushed (Ok u) is = flushed_well is
    flushed (Err e) is = flushed_badly e is
