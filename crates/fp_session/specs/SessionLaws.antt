-- Going on is of any length.
use Rattle.std.proofs.Common.{refl, ◌∙◌}
use Rattle.fp_disk.specs.Moments.{leaves_map, leaves_then}
use Rattle.fp_disk.specs.declared.disk.Disk.{Ghosts}
use Rattle.fp_edit.specs.Flags.{State}
use Rattle.fp_recovery.specs.Stands.{StandsFor}
use Rattle.fp_committer.specs.CourseLaws.{course_still, course_then}
use Rattle.fp_committer.specs.WorksLaws.{no_works, works_on}
use Rattle.fp_session.specs.Session.{Keeps, LeavesFlags, SessionState, disk_of}

module _ {D : Type 0} (disk : Ghosts D) where
  pub keeps_itself : (s : SessionState D) → Keeps disk s s
  keeps_itself s = record {
    honest = (λ h. h, λ h. h);
    no_failure = refl;
    ready = λ r. r;
    called = no_works disk s.half.store;
    course = course_still disk s.half;
  }

  pub keeps_on : (a b c : SessionState D) → Keeps disk a b → Keeps disk b c → Keeps disk a c
  keeps_on a b c h k = record {
    honest = (λ x. k.honest.0 (h.honest.0 x), λ x. h.honest.1 (k.honest.1 x));
    no_failure = k.no_failure ∙ h.no_failure;
    ready = λ r. k.ready (h.ready r);
    called = works_on disk a.half.store b.half.store c.half.store h.called k.called;
    course = course_then disk a.half b.half c.half h.course k.course;
  }

  pub flags_on : (a b c : SessionState D) (P : State → Type 0) → LeavesFlags disk a b P
      → LeavesFlags disk b c P → LeavesFlags disk a c P
  flags_on a b c P h k = (
    (λ x. k.0.0 (h.0.0 x), λ x. h.0.1 (k.0.1 x)),
    λ x. leaves_then disk.moment disk.crash_states_since (disk_of a) (disk_of b) (disk_of c) (λ o.
        (flags : State) × P flags × StandsFor o flags) (h.1 x) (k.1 (h.0.0 x)),
  )

  pub flags_as : (a b : SessionState D) (P Q : State → Type 0) → ((s : State) → P s → Q s)
      → LeavesFlags disk a b P → LeavesFlags disk a b Q
  flags_as a b P Q f h = (
    h.0,
    λ x. leaves_map disk.moment disk.crash_states_since (disk_of a) (disk_of b) (λ o.
        (flags : State) × P flags × StandsFor o flags) (λ o. (flags : State) × Q flags
        × StandsFor o flags)
        (λ o s. (s.0, f s.0 s.1, s.2)) (h.1 x),
  )
