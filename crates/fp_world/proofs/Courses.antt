-- A list of events, one after another.
use Rattle.std.proofs.Common.{◌≡◌, ◌≤◌, ℕ, List, [], ◌∷◌, ◌++◌, refl, sym, ap, subst, ◌∙◌, arith, append_assoc}
use Rattle.std.proofs.lemmas.List.{append-nil}
use Rattle.fp_disk.specs.Crashes.{AtAnyMoment, EachCrash, SameHonesty}
use Rattle.fp_disk.specs.Outcomes.{IsOutcome}
use Rattle.fp_disk.specs.Moments.{leaves_map, leaves_still, leaves_then}
use Rattle.fp_disk.specs.declared.disk.Disk.{Ghosts}
use Rattle.fp_edit.specs.Edits.{Change}
use Rattle.fp_desk.specs.Desk.{DeskState, log}
use Rattle.fp_committer.specs.Kept.{KeptFrom}
use Rattle.fp_committer.proofs.Keeps.{kept_low, kept_more}
use Rattle.fp_world.specs.Events.{accepted_by, told_after}
use Rattle.fp_world.specs.Machine.{Run, accepted_edits, told_by}
use Rattle.fp_world.specs.World.{Course, StepsTo, WorldState, desk_of, disk_of, machine, told_of}
use Rattle.fp_world.specs.declared.event.Answer.{Answer}
use Rattle.fp_world.specs.declared.event.Event.{Event}
use Rattle.fp_world.specs.declared.event.Answer.TheVariants as answer

-- what is told never falls
pub told_rises : (told : ℕ) (a : Answer) → told ≤ told_after told a
told_rises told answer.NotNow = omega arith
told_rises told answer.Memory = omega arith
told_rises told (answer.Refused f) = omega arith
told_rises told (answer.Fault f) = omega arith
told_rises told (answer.Ticket n) = omega arith
told_rises told (answer.Drawn n) = omega arith
told_rises told answer.Done = omega arith
told_rises told (answer.Sealed n) = omega arith
told_rises told (answer.Settled n) = omega arith
told_rises told (answer.Acked n) = omega arith
told_rises told answer.Waiting = omega arith
told_rises told (answer.Phase n) = omega arith
told_rises told (answer.Published n) = omega arith
told_rises told (answer.Handed h) = omega arith
told_rises told answer.Nothing = omega arith
told_rises told (answer.Reply n r) = omega arith

module _ {D : Type 0} (disk : Ghosts D) where
  -- one event more
  pub course_more : (old mid new : WorldState D) (events : List Event) (answers : List Answer) (e : Event)
      (a : Answer) → Course disk old events answers mid → StepsTo disk mid e a new →
      Course disk old (events ++ e ∷ []) (answers ++ a ∷ []) new
  course_more old mid new [] [] e a r s = (new, subst (λ (m : WorldState D). StepsTo disk m e a new) r s, refl)
  course_more old mid new [] (b ∷ answers) e a r s = absurd r
  course_more old mid new (f ∷ events) [] e a r s = absurd r
  course_more old mid new (f ∷ events) (b ∷ answers) e a r s = (r.0, r.1, course_more r.0 mid new events answers e a r.2 s)

  pub course_runs : (old new : WorldState D) (events : List Event) (answers : List Answer) →
      Course disk old events answers new → Run (machine old) events answers (machine new)
  course_runs old new [] [] r = ap (λ (w : WorldState D). machine w) r
  course_runs old new [] (b ∷ answers) r = absurd r
  course_runs old new (f ∷ events) [] r = absurd r
  course_runs old new (f ∷ events) (b ∷ answers) r = let first = r.1 in (machine r.0, first.steps, course_runs r.0 new events answers r.2)

  pub course_told : (old new : WorldState D) (events : List Event) (answers : List Answer) →
      Course disk old events answers new → told_of new ≡ told_by (told_of old) answers
  course_told old new [] [] r = ap (λ (w : WorldState D). told_of w) r
  course_told old new [] (b ∷ answers) r = absurd r
  course_told old new (f ∷ events) [] r = absurd r
  course_told old new (f ∷ events) (b ∷ answers) r = let first = r.1 in
      course_told r.0 new events answers r.2 ∙ ap (λ (n : ℕ). told_by n answers) first.told

  pub course_log : (old new : WorldState D) (events : List Event) (answers : List Answer) →
      Course disk old events answers new → (log (desk_of new) ≡ log (desk_of old) ++ accepted_edits events answers) ×
      ((desk_of new).store ≡ (desk_of old).store)
  course_log old new [] [] r = (
    ap (λ (w : WorldState D). log (desk_of w)) r ∙ sym (append-nil (log (desk_of old))),
    ap (λ (w : WorldState D). (desk_of w).store) r,
  )
  course_log old new [] (b ∷ answers) r = absurd r
  course_log old new (f ∷ events) [] r = absurd r
  course_log old new (f ∷ events) (b ∷ answers) r =
      let first = r.1 in let rest = course_log r.0 new events answers r.2 in (
        rest.0 ∙ ap (λ (l : List Change). l ++ accepted_edits events answers) first.log ∙
            append_assoc (log (desk_of old)) (accepted_by f b) (accepted_edits events answers),
        rest.1 ∙ first.desk,
      )

  pub course_honest : (old new : WorldState D) (events : List Event) (answers : List Answer) →
      Course disk old events answers new → SameHonesty disk (disk_of old) (disk_of new)
  course_honest old new [] [] r = subst (λ (w : WorldState D). SameHonesty disk (disk_of old) (disk_of w)) (sym r) ((λ h. h), (λ h. h))
  course_honest old new [] (b ∷ answers) r = absurd r
  course_honest old new (f ∷ events) [] r = absurd r
  course_honest old new (f ∷ events) (b ∷ answers) r =
      let first = r.1 in let rest = course_honest r.0 new events answers r.2 in let here = first.honest in
      ((λ h. rest.0 (here.0 h)), (λ h. here.1 (rest.1 h)))

  -- a crash at any moment keeps what was told at the start, and after it what was told by then
  pub course_leaves : ((d : D) (c : List ℕ) → disk.honest d → disk.crash_states_since d (disk.moment d) c →
      IsOutcome (disk.unsynced d) c) → (old new : WorldState D) (events : List Event) (answers : List Answer) →
      EachCrash disk (disk_of old) (KeptFrom (desk_of old) (told_of old)) → Course disk old events answers new
      → AtAnyMoment disk (disk_of old) (disk_of new) (KeptFrom (desk_of new) (told_of old))
  course_leaves only_now old new [] [] now r =
      subst (λ (w : WorldState D). AtAnyMoment disk (disk_of old) (disk_of w) (KeptFrom (desk_of w) (told_of old)))
      (sym r)
      (λ h. leaves_still disk.moment disk.crash_states_since (disk_of old) (KeptFrom (desk_of old) (told_of old))
      (λ c left. now h c (only_now (disk_of old) c h left)))
  course_leaves only_now old new [] (b ∷ answers) now r = absurd r
  course_leaves only_now old new (f ∷ events) [] now r = absurd r
  course_leaves only_now old new (f ∷ events) (b ∷ answers) now r = λ h.
      let mid = r.0 in let first = r.1 in let on = first.honest in let told = first.told in
      let rises = told_rises (told_of old) b in let grows = course_log mid new events answers r.2 in
      leaves_then disk.moment disk.crash_states_since (disk_of old) (disk_of mid) (disk_of new) (KeptFrom (desk_of new) (told_of old))
      (leaves_map disk.moment disk.crash_states_since (disk_of old) (disk_of mid)
      (KeptFrom (desk_of mid) (told_of old)) (KeptFrom (desk_of new) (told_of old))
      (λ c k. kept_more (desk_of mid) (desk_of new) (accepted_edits events answers) (told_of old) c grows.1
      grows.0 k) (first.any_moment h))
      (leaves_map disk.moment disk.crash_states_since (disk_of mid) (disk_of new)
      (KeptFrom (desk_of new) (told_of mid)) (KeptFrom (desk_of new) (told_of old))
      (λ c k. kept_low (desk_of new).store.start (log (desk_of new)) (told_of mid) (told_of old) c
      (omega (arith, told, rises)) k) (course_leaves only_now mid new events answers first.exit r.2 (on.0 h)))

  pub course_exit : (old new : WorldState D) (events : List Event) (answers : List Answer) →
      EachCrash disk (disk_of old) (KeptFrom (desk_of old) (told_of old)) → Course disk old events answers new →
      EachCrash disk (disk_of new) (KeptFrom (desk_of new) (told_of new))
  course_exit old new [] [] now r = subst (λ (w : WorldState D). EachCrash disk (disk_of w) (KeptFrom (desk_of w) (told_of w))) (sym r) now
  course_exit old new [] (b ∷ answers) now r = absurd r
  course_exit old new (f ∷ events) [] now r = absurd r
  course_exit old new (f ∷ events) (b ∷ answers) now r = let first = r.1 in course_exit r.0 new events answers first.exit r.2
