-- A course of the half that a plane seals by.
use Rattle.std.proofs.Common.{◌≡◌, ◌⊎◌, ◌<◌, ℕ, List, Ok, Err, inl, inr, false, ◌∙◌}
use Rattle.fp_disk.specs.Crashes.{EachCrash}
use Rattle.fp_disk.specs.Outcomes.{IsOutcome}
use Rattle.fp_disk.specs.declared.disk.Disk.{Ghosts}
use Rattle.fp_group_commit.specs.Tokens.{Identity}
use Rattle.fp_committer.specs.Course.{Course, HasCause, LacksRoom}
use Rattle.fp_committer.specs.declared.fault.CommitFault.{CommitFault}
use Rattle.fp_committer.specs.declared.fault.CommitFault.TheVariants.{Memory, StoreFailed}
use Rattle.fp_committer.proofs.Courses.{course_keeps, course_later}
use Rattle.fp_committer.specs.Halves.{Names}
use Rattle.fp_committer.specs.StoreHalf.{KeptBy, StoreHalfState}
use Rattle.fp_hall.specs.Hall.{IsStoreOf}
use Rattle.fp_plane.specs.Flushing.{Flushes, IsResting}
use Rattle.fp_plane.specs.declared.flushing.Broken.{Broken}

pub ours_on : {D : Type 0} (disk : Ghosts D) (store : Identity) (desk_lists store_lists : Names)
    (a b : StoreHalfState D) → Course disk a b → IsStoreOf store desk_lists store_lists a →
    IsStoreOf store desk_lists store_lists b
ours_on disk store desk_lists store_lists a b course w =
    let later = course_later disk a b course in
    record { ours = later.store ∙ w.ours; named = (later.names.0 ∙ w.named.0, later.names.1 ∙ w.named.1) }

-- want of memory leaves it as it was
pub wants : {D : Type 0} (disk : Ghosts D) (a b : StoreHalfState D) (f : CommitFault) → f ≡ Memory →
    HasCause disk a b f → (b.store.failed ≡ false) × (disk.faults b.store.disk ≡ disk.faults a.store.disk)
wants disk a b StoreFailed is cause = absurd cc
wants disk a b Memory is (inl wanting) = wanting
wants disk a b Memory is (inr full) = let both = full.0 in absurd cc

module _ {D : Type 0} (disk : Ghosts D)
    (only_now : (x : D) (c : List ℕ) → disk.honest x → disk.crash_states_since x (disk.moment x) c →
    IsOutcome (disk.unsynced x) c) (a b : StoreHalfState D) (exit : EachCrash disk a.store.disk (KeptBy a))
    (course : Course disk a b) where
  pub flushes_well : IsResting b → disk.faults b.store.disk ≡ disk.faults a.store.disk → Flushes disk a b (Ok tt)
  flushes_well rest same = record {
    course = course;
    any_moment = course_keeps disk only_now a b exit course;
    rest = rest;
    no_failure =
        same;
    cause = tt;
  }

  pub flushes_badly : (e : Broken) → (disk.faults a.store.disk < disk.faults b.store.disk) ⊎ LacksRoom disk b → Flushes disk a b (Err e)
  flushes_badly e cause = record {
    course = course;
    any_moment = course_keeps disk only_now a b exit course;
    rest = tt;
    no_failure = tt;
    cause =
        cause;
  }
