-- What a run over a session leaves of it and of its disk.
use Rattle.std.proofs.Common.{◌≡◌, ◌≢◌, ◌⊎◌, ◌<◌, ◌≤◌, ◌+◌, ◌++◌, ℕ, Bool, List, [], true, MatchResult, Option, Ok, Err, Result}
use Rattle.std.proofs.Common.{refl, sym, ap, subst, inl, inr, ◌∙◌, arith}
use Rattle.std.proofs.lemmas.Option.{IfSome_then}
use Rattle.fp_disk.specs.Crashes.{AtAnyMoment, EachCrash, SameHonesty}
use Rattle.fp_disk.specs.Moments.{leaves_map, leaves_then}
use Rattle.fp_disk.specs.Outcomes.{IsOutcome, LeavesOnly}
use Rattle.fp_disk.specs.declared.disk.Disk.{Ghosts}
use Rattle.fp_disk.specs.declared.history.CallKind.{CallKind}
use Rattle.fp_edit.specs.Flags.{State}
use Rattle.fp_edit.specs.Log.{after_all}
use Rattle.fp_journal.specs.Pieces.{ThenReads}
use Rattle.fp_recovery.specs.Room.{IsFull}
use Rattle.fp_recovery.specs.Stands.{StandsFor}
use Rattle.fp_session.specs.Asks.{Ask}
use Rattle.fp_session.specs.Run.{IsAfterPrefix, IsRunWritten, IsToldBy}
use Rattle.fp_session.specs.RunPromise.{RunPromise}
use Rattle.fp_disk.specs.History.{MakesSome}
use Rattle.fp_slots.specs.declared.slots.Step.{Step}
use Rattle.fp_slots.specs.declared.slots.Step.TheVariants.{Begin}
use Rattle.fp_desk.specs.Desk.{settled_revision}
use Rattle.fp_committer.specs.Kept.{IsAfterFirst}
use Rattle.fp_committer.specs.Works.{BreaksOff, Leads, calls_of, work_calls}
use Rattle.fp_committer.specs.WorksLaws.{breaks_on, works_break}
use Rattle.fp_session.specs.Session.{Begins, disk_of, Fails, flags_of, HasPlace, IsReady, Keeps, LacksRoomFor}
use Rattle.fp_session.specs.Session.{LeavesFlags, SessionState, StandsAhead, Steps}
use Rattle.fp_committer.specs.Course as committer
use Rattle.fp_committer.specs.CourseLaws.{course_then}
use Rattle.fp_committer.proofs.Courses.{course_keeps, half_through, runs}
use Rattle.fp_session.specs.SessionLaws.{flags_as, flags_on, keeps_itself, keeps_on}
use Rattle.fp_session.specs.StoreRun.{StoreRun}
use Rattle.fp_session.specs.Streams as plane
use Rattle.fp_session.specs.declared.edit_store.EditStore.{Ghosts as StoreGhosts}
use Rattle.fp_session.specs.declared.fault.ApplyFault.{ApplyFault}
use Rattle.fp_session.specs.declared.fault.ApplyFault.TheVariants.{Device, StoreFailed, Memory, CommitMemory}
use Rattle.fp_session.proofs.RunLemmas.{written-flags, written-script}
use Rattle.fp_commands.specs.Disks.{Asked, BlamesRun, CallsSomeWorks, IsLeftOnDisk, IsOnlyRead, IsStreamFault, LacksRoom, opening_calls}
use Rattle.fp_commands.specs.Faults.{of_run}
use Rattle.fp_commands.specs.Files.{Streams, failures, RunsOnDisk}
use Rattle.fp_commands.specs.declared.fault.CommandFault.{CommandFault}
use Rattle.fp_commands.specs.declared.fault.CommandFault.TheVariants as command
use Rattle.fp_commands.proofs.Told.{file_refused-run, refused-run}

-- ---- flags in memory

-- as a place where edits go
abbrev pub set_store : StoreGhosts State
set_store = record {
  state = λ s. s;
  may_stand = λ s flags. flags ≡ s;
  has_place = λ s change. Unit {0};
  rests = λ s. Unit {0};
  waits = λ s. ⊥;
  owes = λ s. ⊥;
  steps = λ a b. ⊥;
  continues_to = λ a b. Unit {0};
  fails_on = λ f a b. ⊥;
  leaves = λ a b P. Unit {0};
  leads_to_itself = λ s. tt;
  leads_on = λ a b c h k. tt;
  leaves_on = λ a b c P h k. tt;
  leaves_as = λ a b P Q f h. tt;
}

-- no run over them fails to keep edits
pub set-course : (A : Type 0) (P : State → Type 0) (a b : State) (f : ApplyFault) →
    StoreRun {A = A} set_store P a b (Err f) → IsStreamFault (of_run f)
set-course A P a b Device h = tt
set-course A P a b StoreFailed h = absurd h.failed
set-course A P a b Memory h = tt
set-course A P a b CommitMemory h = absurd h.failed

-- ---- a session

-- as a place where edits go
abbrev pub session_store : {D : Type 0} → Ghosts D → StoreGhosts (SessionState D)
session_store disk = record {
  state = λ s. flags_of s;
  may_stand = λ s flags. IsAfterFirst s.desk (settled_revision s.desk) flags;
  has_place = λ s change. HasPlace s change;
  rests = λ s. s.half.store.compaction.next ≡ Begin;
  waits = λ s. s.desk.waiting ≢ [];
  owes = λ s. s.owes ≡ true;
  steps = λ a b. Steps disk a b;
  continues_to = λ a b. Keeps disk a b;
  fails_on = λ f a b. Fails disk f a b;
  leaves = λ a b P. LeavesFlags disk a b P;
  leads_to_itself = λ s. keeps_itself disk s;
  leads_on = λ a b c h k. keeps_on disk a b c h k;
  leaves_on = λ a b c P h k. flags_on disk a b c P h k;
  leaves_as = λ a b P Q f h. flags_as disk a b P Q f h;
}

-- A run over a session that was opened on a disk and gave it back, over streams: it was asked what was read, as `asked` says
module _ {D R W : Type 0} (disk : Ghosts D) (remaining : R → Option (List ℕ)) (contents : W → Option (List ℕ))
    (Reads : List ℕ → List Ask → Type 0) (most : ℕ)
    (MayEnd : Type 0 → List ℕ → Option (List ℕ) → CommandFault → Type 0) (old new : Streams R W)
    (d0 d1 : D) (s k : SessionState D) (stands : disk.honest d0 → StandsFor (disk.bytes d0) (flags_of s))
    (only : disk.honest d0 → (other : State) → StandsFor (disk.bytes d0) other → other ≡ flags_of s)
    (ready : IsReady disk s) (first : Begins disk s) (begins : s.half.store.compaction.next ≡ Begin)
    (well : disk.faults (disk_of s) ≡ disk.faults d0)
    (opened : ThenReads opening_calls (disk.calls d0) (disk.calls (disk_of s)))
    (read : AtAnyMoment disk d0 (disk_of s) (IsOutcome (disk.unsynced d0)))
    (honest : SameHonesty disk d0 (disk_of s)) (here : d1 ≡ disk_of k)
    (keeps : EachCrash disk d1 (StandsAhead k.desk)) (Of : (List Ask → Type 0) → Type 0)
    (asked : (P : List Ask → Type 0) → Of P → Asked (remaining old.reader.inner) Reads P)
    (both : (P Q : List Ask → Type 0) → Of P → Of Q → Of (λ xs. P xs × Q xs))
    (may_end : (f : ApplyFault) → MayEnd (disk.honest d0) (disk.bytes d0) (remaining old.reader.inner) (of_run f))
    (only_now : (x : D) (c : List ℕ) → disk.honest x → disk.crash_states_since x (disk.moment x) c →
    IsOutcome (disk.unsynced x) c)
    (counts_now : (x : D) (t : ℕ) (c : List ℕ) → disk.honest x → t ≤ disk.moment x →
    IsOutcome (disk.unsynced x) c → disk.crash_states_since x t c)
    (present : (x : D) → disk.honest x → IsOutcome (disk.unsynced x) (disk.bytes x)) where
  abbrev start : State
  start = flags_of s

  abbrev left : Option (List ℕ)
  left = remaining old.reader.inner

  -- some first of what is asked leads there
  abbrev LedTo : State → Type 0
  LedTo u = Of (λ xs. IsAfterPrefix start xs u)

  abbrev Lacks : Type 0
  Lacks = LacksRoom (disk.honest d0) (disk.bytes d0) (disk.unsynced d1) left Reads ⊎ (disk.faults d0 < disk.faults d1)

  abbrev Promise : Result Bool ApplyFault → Type 0
  Promise outcome = RunPromise (session_store disk) Of most s k (contents old.writer.inner)
      (contents new.writer.inner) old.writer.failures new.writer.failures outcome

  abbrev Course : ApplyFault → Type 0
  Course f = StoreRun {A = Bool} (session_store disk) LedTo s k (Err f)

  leads : disk.honest d0 → (c : List ℕ) → ((u : State) × LedTo u × StandsFor c u) → IsLeftOnDisk (disk.bytes d0) c left Reads
  leads h c t = λ start there. (
    t.0,
    t.2,
    inr (subst (λ x. Asked left Reads (λ xs. IsAfterPrefix x xs t.0)) (sym (only h start there))
        (asked (λ xs. IsAfterPrefix (flags_of s) xs t.0) t.1)),
  )

  module _ (moved : LeavesFlags disk s k LedTo) where
    -- it keeps its word as before
    ran-honest : SameHonesty disk d0 d1
    ran-honest = (λ h. subst disk.honest (sym here) (moved.0.0 (honest.0 h)), λ h. honest.1 (moved.0.1 (subst disk.honest here h)))

    -- at each moment of it
    ran-any_moment : AtAnyMoment disk d0 d1 (λ c. IsOutcome (disk.unsynced d0) c ⊎ IsLeftOnDisk (disk.bytes d0) c left Reads)
    ran-any_moment = λ h.
        let m = disk.moment in let since = disk.crash_states_since in
        let Q : List ℕ → Type 0 = λ c. IsOutcome (disk.unsynced d0) c ⊎ IsLeftOnDisk (disk.bytes d0) c left Reads
        in
        subst (λ x. LeavesOnly m since d0 x Q) (sym here)
        (leaves_then m since d0 (disk_of s) (disk_of k) Q
        (leaves_map m since d0 (disk_of s) (IsOutcome (disk.unsynced d0)) Q (λ c o. inl o) (read h))
        (leaves_map m since (disk_of s) (disk_of k) (λ c. (u : State) × LedTo u × StandsFor c u) Q
        (λ c t. inr (leads h c t)) (moved.1 (honest.0 h))))

    -- at its end
    ran-left : disk.honest d0 → IsLeftOnDisk (disk.bytes d0) (disk.bytes d1) left Reads
    ran-left h =
        let l = moved.1 (honest.0 h) in let there = moved.0.0 (honest.0 h) in
        subst (λ x. IsLeftOnDisk (disk.bytes d0) (disk.bytes x) left Reads) (sym here)
        (leads h (disk.bytes (disk_of k))
        (l.each (disk.bytes (disk_of k))
        (counts_now (disk_of k) (disk.moment (disk_of s)) (disk.bytes (disk_of k)) there l.later
        (present (disk_of k) there))))

    -- why the store failed
    lacks : (x : SessionState D) → Keeps disk s x → ((u : State) → IsAfterFirst x.desk (settled_revision x.desk) u → LedTo u)
        → LacksRoomFor disk x.desk (disk_of k) ⊎ (disk.faults (disk_of x) < disk.faults (disk_of k)) → Lacks
    lacks x led there (inl l) = inl (record {
      start = start;
      flags = l.flags;
      batch = l.batch;
      stood = stands;
      some = l.some;
      asked = asked (λ xs. IsAfterPrefix start xs l.flags × IsAfterPrefix start xs (after_all l.flags l.batch))
          (both (λ xs. IsAfterPrefix start xs l.flags) (λ xs. IsAfterPrefix start xs (after_all l.flags l.batch))
          (there l.flags l.from) (there (after_all l.flags l.batch) l.to));
      generation = l.generation;
      last = l.last;
      full = λ h. subst (λ y. IsFull (disk.unsynced y) l.flags (record { first = 0; changes = l.batch })
          l.generation) (sym here) (l.full (moved.0.0 (honest.0 h)));
    })
    lacks x led there (inr more) = let same = led.no_failure in let at = ap disk.faults here in inr (omega (arith, more, same, at, well))

    ran-cause : (f : ApplyFault) → Course f → of_run f ≡ command.StoreFailed → Lacks
    ran-cause StoreFailed c is = lacks c.before c.led c.asked (c.failed.cause (c.led.ready ready))
    ran-cause Device c is = absurd cc
    ran-cause Memory c is = absurd cc
    ran-cause CommitMemory c is = absurd cc

  -- its calls, where it broke off
  broke : BreaksOff disk s.half.store k.half.store → CallsSomeWorks (disk.calls d0) (disk.calls d1)
  broke off = record {
    begun = disk.calls (disk_of s);
    opened = opened;
    works = off.works;
    next = off.next;
    last = off.last;
    lead = subst (λ (p : Step). Leads p off.works off.next) begins off.lead;
    may = off.may;
    calls = subst (λ (l : List CallKind). MakesSome (work_calls off.last)
        (disk.calls (disk_of s) ++ calls_of off.works) l) (sym (ap disk.calls here)) off.calls;
  }

  ran-broke : (f : ApplyFault) → Course f → CallsSomeWorks (disk.calls d0) (disk.calls d1)
  ran-broke Device went = broke (works_break disk s.half.store k.half.store went.called)
  ran-broke Memory went = broke (works_break disk s.half.store k.half.store went.called)
  ran-broke StoreFailed failed =
      broke (breaks_on disk s.half.store failed.before.half.store k.half.store failed.led.called failed.failed.called)
  ran-broke CommitMemory failed =
      broke (breaks_on disk s.half.store failed.before.half.store k.half.store failed.led.called failed.failed.called)

  -- by the course of a committer
  ran-course : (f : ApplyFault) → Course f → committer.Course disk s.half k.half
  ran-course Device went = went.course
  ran-course Memory went = went.course
  ran-course StoreFailed c = course_then disk s.half c.before.half k.half c.led.course c.failed.course
  ran-course CommitMemory c = course_then disk s.half c.before.half k.half c.led.course c.failed.course

  ran-committed : committer.Course disk s.half k.half → (from : State) ×
      (disk.honest d0 → StandsFor (disk.bytes d0) from) × committer.RunsCommitter disk d0 d1 from
  ran-committed course = (
    s.half.store.store.start,
    λ h. subst (λ (u : State). StandsFor (disk.bytes d0) u) first.start (stands h),
    runs disk d0 d1 s.half.store k.half.store read honest here
        (half_through disk s.half k.half first.none.0 first.none.1 course
        (course_keeps disk only_now s.half k.half first.exit course) k.half.store refl),
  )

  -- and where memory was wanting the disk didn't fail
  ran-wants : (f : ApplyFault) → Course f → of_run f ≡ command.Memory → disk.faults d1 ≡ disk.faults d0
  ran-wants Device went is = absurd cc
  ran-wants Memory went is = ap disk.faults here ∙ went.no_failure ∙ well
  ran-wants StoreFailed c is = absurd cc
  ran-wants CommitMemory c is = ap disk.faults here ∙ c.failed.cause (c.led.ready ready) ∙ c.led.no_failure ∙ well

  -- what failed
  ran-blamed : (f : ApplyFault) → Course f → plane.Blames {A = Bool} (failures old) (failures new) (Err f) →
      BlamesRun {A = Bool} (disk.faults d0 + failures old) (disk.faults d1 + failures new) (Err (of_run f))
  ran-blamed Device went rose = let same = went.no_failure in let at = ap disk.faults here in omega (arith, rose, same, at, well)
  ran-blamed Memory went rose = tt
  ran-blamed StoreFailed went rose = tt
  ran-blamed CommitMemory went rose = tt

  pub ran : (outcome : Result Bool ApplyFault) (result : Result Bool CommandFault) →
      MatchResult outcome (λ told. result ≡ Ok told) (λ f. result ≡ Err (of_run f)) → Promise outcome →
      plane.Blames (failures old) (failures new) outcome
      → ((f : ApplyFault) → outcome ≡ Err f → f ≢ Device → new.reader.failures ≡ old.reader.failures) →
      RunsOnDisk disk remaining contents Reads most MayEnd old new d0 d1 result
  ran (Ok told) result is p blames calm = subst (RunsOnDisk disk remaining contents Reads most MayEnd old new d0 d1) (sym is) (record {
    run = record {
      start = start;
      flags = flags_of k;
      stood = stands;
      sure = λ h c o. let t = keeps ((ran-honest p.any_moment).0 h) c o in subst (λ u. StandsFor c u) (p.kept t.0 t.1) t.2;
      run = IfSome_then left (asked (λ xs. IsRunWritten start xs told (contents old.writer.inner)
          (contents new.writer.inner) (flags_of k)) p.run) (λ input a. (
            a.0,
            a.1,
            (
              a.2,
              λ all. (
                written-script start a.0 told (contents old.writer.inner) (contents new.writer.inner) (flags_of k) a.2 all,
                written-flags start a.0 told (contents old.writer.inner) (contents new.writer.inner) (flags_of k) a.2 all,
              ),
            ),
          ));
    };
    called = record {
      begun = disk.calls (disk_of s);
      opened = opened;
      works = p.course.called.works;
      lead = subst (λ (x : Step). Leads x p.course.called.works Begin) begins
          (subst (λ (x : Step). Leads s.half.store.compaction.next p.course.called.works x) p.rests
          p.course.called.lead);
      calls = ap disk.calls here ∙ p.course.called.calls;
    };
    left = ran-left p.any_moment;
    any_moment = ran-any_moment p.any_moment;
    committed = inr (ran-committed p.course.course);
    told = λ h. tt;
    fault = tt;
    nothing_written = tt;
    nothing_stood = λ h none. absurd (none start (stands h));
    only_read = tt;
    unread = tt;
    cause = tt;
    memory = tt;
    device = let same = p.course.no_failure in let at = ap disk.faults here in omega (arith, blames, same, at, well);
    read = tt;
    no_failure = ap disk.faults here ∙ p.course.no_failure ∙ well;
    honest = ran-honest p.any_moment;
  })
  ran (Err f) result is p blames calm = subst (RunsOnDisk disk remaining contents Reads most MayEnd old new d0 d1) (sym is) (record {
    run = tt;
    called = inr (ran-broke f p.course);
    left = ran-left p.any_moment;
    any_moment = ran-any_moment p.any_moment;
    committed = inr (ran-committed (ran-course f p.course));
    told = λ h same. inr (λ h1 c o. let t = keeps h1 c o in λ at there. (
      t.0,
      flags_of k,
      f,
      t.2,
      refl,
      subst (λ x. Asked left Reads (λ xs. IsToldBy x xs most f (contents old.writer.inner)
          (contents new.writer.inner) (flags_of k) t.0)) (sym (only h at there))
          (asked (λ xs. IsToldBy start xs most f (contents old.writer.inner) (contents new.writer.inner) (flags_of k)
          t.0) (p.told same t.0 t.1)),
    ));
    fault = may_end f;
    nothing_written = refused-run (new.writer ≡ old.writer) f;
    nothing_stood = λ h none. absurd (none start (stands h));
    only_read = refused-run (IsOnlyRead disk d0 d1) f;
    unread = file_refused-run (new.reader ≡ old.reader) f;
    cause = ran-cause p.any_moment f p.course;
    memory = ran-wants f p.course;
    device = ran-blamed f p.course blames;
    read = λ not. calm f refl (λ is. not (ap of_run is));
    no_failure = tt;
    honest = ran-honest p.any_moment;
  })
