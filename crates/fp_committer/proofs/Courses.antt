-- A half that goes on, step by step, and what any moment of that leaves.
use Rattle.std.proofs.Common.{◌≡◌, ◌⊎◌, Ok, Err, ◌+◌, ℕ, List, [], ◌∷◌, ◌++◌, length, refl, sym, ap, subst, ◌∙◌, inl}
use Rattle.std.proofs.Common.{inr, arith, append-nil, append_assoc, length-append}
use mathlib.Core.List.{IsPrefix}
use Rattle.std.specs.Prelude.{OnOk, Result}
use Rattle.fp_disk.specs.Crashes.{AtAnyMoment, EachCrash, SameHonesty}
use Rattle.fp_disk.specs.History.{MakesSome}
use Rattle.fp_disk.specs.Moments.{leaves_still}
use Rattle.fp_disk.specs.Outcomes.{IsOutcome}
use Rattle.fp_disk.specs.declared.disk.Disk.{Ghosts}
use Rattle.fp_disk.specs.declared.history.CallKind.{CallKind}
use Rattle.fp_disk.specs.declared.history.CallKind.TheVariants.{Sync, Write}
use Rattle.fp_edit.specs.Edits.{Change}
use Rattle.fp_slots.specs.State.{IsEarly}
use Rattle.fp_group_commit.specs.Store.{Leaves, StoreState}
use Rattle.fp_group_commit.specs.declared.phase.Phase.TheVariants.{Idle}
use Rattle.fp_recovery.specs.Stands.{StandsFor}
use Rattle.fp_edit.specs.Log.{after_all}
use Rattle.fp_group_commit.specs.Tokens.{Identity}
use Rattle.fp_committer.specs.Course.{CallsOn, Course, GoesThrough, GoesWell, KeptThrough, ListsOn, Passes, Reaches, RunsCommitter}
use Rattle.fp_committer.specs.CourseLaws.{course_still}
use Rattle.fp_committer.specs.Committer.{DeskHalfState, HaveDrawn, HaveSettled}
use Rattle.fp_committer.specs.Halves.{HalfState, Names}
use Rattle.fp_committer.specs.Kept.{KeptOf}
use Rattle.fp_committer.specs.StoreHalf.{KeepsHalf, KeptBy, StoreHalfState}
use Rattle.fp_committer.specs.Way.{batch_sealed, batch_staged, nothing_drawn}
use Rattle.fp_committer.specs.declared.fault.CommitFault.{CommitFault}
use Rattle.fp_committer.specs.Works.{BreaksOff, batch_calls, whole_batch}
use Rattle.fp_committer.specs.WorksLaws.{breaks_on, works_on}
use Rattle.fp_committer.specs.declared.event.Answer.{Answer}
use Rattle.fp_committer.proofs.Keeps.{front_kept, kept_longer, kept_low}
use Rattle.fp_committer.proofs.Moments.{honest_on, idle_keeps, next_moment, weaker}

-- ---- lists
begins_itself : {A : Type 0} (xs : List A) → IsPrefix xs xs
begins_itself xs = ([], append-nil xs)

begins_on : {A : Type 0} (xs ys zs : List A) → IsPrefix xs ys → IsPrefix ys zs → IsPrefix xs zs
begins_on xs ys zs p q = (p.0 ++ q.0, sym (append_assoc xs p.0 q.0) ∙ ap (λ (l : List _). l ++ q.0) p.1 ∙ q.1)

begins_as : {A : Type 0} (xs ys : List A) → ys ≡ xs → IsPrefix xs ys
begins_as xs ys is = ([], append-nil xs ∙ sym is)

module _ {D : Type 0} (disk : Ghosts D) where
  -- ---- calls
  -- an event of the half is one
  pub by_event : {a b : StoreHalfState D} {e : Answer} → KeepsHalf disk a e b → CallsOn disk a b
  by_event k = record { same = k.same; any_moment = k.any_moment; exit = k.exit; honest = k.honest }

  -- what a half keeps is kept by one with the same lists
  pub kept_as : (a b : StoreHalfState D) → b.half ≡ a.half → b.store.store ≡ a.store.store → (c : List ℕ) → KeptBy a c → KeptBy b c
  kept_as a b half store c k =
      subst (λ (x : HalfState). KeptOf b.store.store.start x.all (b.store.store.start.revision + length x.settled) c) (sym half)
      (subst (λ (x : Identity). KeptOf x.start a.half.all (x.start.revision + length a.half.settled) c) (sym store) k)

  pub calls_then : (a b c : StoreHalfState D) → CallsOn disk a b → CallsOn disk b c → CallsOn disk a c
  calls_then a b c h k = record {
    same = (k.same.0 ∙ h.same.0, k.same.1 ∙ h.same.1, k.same.2 ∙ h.same.2);
    any_moment = next_moment disk a.store.disk b.store.disk c.store.disk (KeptBy c) h.honest
        (weaker disk a.store.disk b.store.disk (KeptBy b) (KeptBy c) (kept_as b c k.same.0 k.same.2) h.any_moment) k.any_moment;
    exit = k.exit;
    honest = honest_on disk a.store.disk b.store.disk c.store.disk h.honest k.honest;
  }

  -- ---- courses
  pub course_calls : (a b : StoreHalfState D) → CallsOn disk a b → Course disk a b
  course_calls a b h = record { by = b ∷ []; each = (inl h, refl) }

  pub course_lists : (a b : StoreHalfState D) → ListsOn disk a b → Course disk a b
  course_lists a b h = record { by = b ∷ []; each = (inr h, refl) }

  -- what holds of two halves one of which came after the other
  pub record Later (a b : StoreHalfState D) : Type 0 where
    pub store : b.store.store ≡ a.store.store
    pub names : (b.half.own ≡ a.half.own) × (b.half.there ≡ a.half.there)
    pub all : IsPrefix a.half.all b.half.all
    pub settled : IsPrefix a.half.settled b.half.settled
    pub honest : SameHonesty disk a.store.disk b.store.disk

  later_then : (a b c : StoreHalfState D) → Later a b → Later b c → Later a c
  later_then a b c h k = record {
    store = k.store ∙ h.store;
    names = (k.names.0 ∙ h.names.0, k.names.1 ∙ h.names.1);
    all = begins_on a.half.all b.half.all c.half.all h.all k.all;
    settled = begins_on a.half.settled b.half.settled c.half.settled h.settled k.settled;
    honest = honest_on disk a.store.disk b.store.disk c.store.disk h.honest k.honest;
  }

  later_step : (a b : StoreHalfState D) → CallsOn disk a b ⊎ ListsOn disk a b → Later a b
  later_step a b (inl h) = record {
    store = h.same.2;
    names = (ap (λ (x : HalfState). x.own) h.same.0, ap (λ (x : HalfState). x.there) h.same.0);
    all = begins_as a.half.all b.half.all (ap (λ (x : HalfState). x.all) h.same.0);
    settled = begins_as a.half.settled b.half.settled (ap (λ (x : HalfState). x.settled) h.same.0);
    honest = h.honest;
  }
  later_step a b (inr h) = record {
    store = ap (λ (x : StoreState D). x.store) h.store;
    names = h.names;
    all = h.all;
    settled = h.settled;
    honest = subst (λ (x : StoreState D). SameHonesty disk a.store.disk x.disk) (sym h.store) (λ x. x, λ x. x);
  }

  passes_later : (a b : StoreHalfState D) (xs : List (StoreHalfState D)) → Passes disk a xs b → Later a b
  passes_later a b [] h = subst (λ (x : StoreHalfState D). Later a x) (sym h) (record {
    store = refl;
    names = (refl, refl);
    all = begins_itself a.half.all;
    settled = begins_itself a.half.settled;
    honest = (λ x. x, λ x. x);
  })
  passes_later a b (x ∷ xs) h = later_then a x b (later_step a x h.0) (passes_later x b xs h.1)

  pub course_later : (a b : StoreHalfState D) → Course disk a b → Later a b
  course_later a b h = passes_later a b h.by h.each

  -- what a half keeps, a course from an earlier one to a later one keeps
  kept_within : (a x b : StoreHalfState D) → Later a x → Later x b → (c : List ℕ) → KeptBy x c → KeptThrough a b c
  kept_within a x b h k c kept =
      let len = ap length h.settled.1 in let more = length-append a.half.settled h.settled.0 in
      let start = ap (λ (i : Identity). i.start.revision) h.store in
      let low : KeptOf x.store.store.start x.half.all (a.store.store.start.revision + length a.half.settled) c =
      kept_low x.store.store.start x.half.all (x.store.store.start.revision + length x.half.settled)
      (a.store.store.start.revision + length a.half.settled) c (omega (arith, len, more, start)) kept in
      let long = kept_longer x.store.store.start x.half.all k.all.0 (a.store.store.start.revision + length a.half.settled) c low in
      subst (λ (i : Identity). KeptOf i.start b.half.all (a.store.store.start.revision + length a.half.settled) c) h.store
      (subst (λ (l : List Change). KeptOf x.store.store.start l (a.store.store.start.revision + length a.half.settled) c) k.all.1 long)

  module _ (only_now : (x : D) (c : List ℕ) → disk.honest x → disk.crash_states_since x (disk.moment x) c →
      IsOutcome (disk.unsynced x) c) where
    still_keeps : (a : D) (P : List ℕ → Type 0) → EachCrash disk a P → AtAnyMoment disk a a P
    still_keeps a P keeps = λ h. leaves_still disk.moment disk.crash_states_since a P (λ c left. keeps h c (only_now a c h left))

    exit_of : (a b : StoreHalfState D) → CallsOn disk a b ⊎ ListsOn disk a b → EachCrash disk b.store.disk (KeptBy b)
    exit_of a b (inl h) = h.exit
    exit_of a b (inr h) = h.exit

    -- one step
    step_keeps : (a x b : StoreHalfState D) → CallsOn disk a x ⊎ ListsOn disk a x → Later x b →
        AtAnyMoment disk a.store.disk x.store.disk (KeptThrough a b)
    step_keeps a x b (inl h) k = weaker disk a.store.disk x.store.disk (KeptBy x) (KeptThrough a b)
        (kept_within a x b (later_step a x (inl h)) k) h.any_moment
    step_keeps a x b (inr h) k = subst (λ (s : StoreState D). AtAnyMoment disk s.disk x.store.disk (KeptThrough a b)) h.store
        (still_keeps x.store.disk (KeptThrough a b) (λ o c out. kept_within a x b (later_step a x (inr h)) k c (h.exit o c out)))

    passes_keep : (a b : StoreHalfState D) (xs : List (StoreHalfState D)) → EachCrash disk a.store.disk (KeptBy a) →
        Passes disk a xs b → AtAnyMoment disk a.store.disk b.store.disk (KeptThrough a b)
    passes_keep a b [] keeps h = subst
        (λ (x : StoreHalfState D). AtAnyMoment disk a.store.disk x.store.disk (KeptThrough a x)) (sym h)
        (still_keeps a.store.disk (KeptBy a) keeps)
    passes_keep a b (x ∷ xs) keeps h =
        let on = later_step a x h.0 in let behind = passes_later x b xs h.1 in
        next_moment disk a.store.disk x.store.disk b.store.disk (KeptThrough a b) on.honest (step_keeps a x b h.0 behind)
        (weaker disk x.store.disk b.store.disk (KeptThrough x b) (KeptThrough a b) (through a x b on)
        (passes_keep x b xs (exit_of a x h.0) h.1))
      where
        through : (a x b : StoreHalfState D) → Later a x → (c : List ℕ) → KeptThrough x b c → KeptThrough a b c
        through a x b on c kept =
            let len = ap length on.settled.1 in let more = length-append a.half.settled on.settled.0 in
            let start = ap (λ (i : Identity). i.start.revision) on.store in
            subst (λ (i : Identity). KeptOf i.start b.half.all (a.store.store.start.revision + length a.half.settled) c) on.store
            (kept_low x.store.store.start b.half.all (x.store.store.start.revision + length x.half.settled)
            (a.store.store.start.revision + length a.half.settled) c (omega (arith, len, more, start)) kept)

    -- whatever a crash leaves at any moment of a course keeps all that was settled as it began
    pub course_keeps : (a b : StoreHalfState D) → EachCrash disk a.store.disk (KeptBy a) → Course disk a b →
        AtAnyMoment disk a.store.disk b.store.disk (KeptThrough a b)
    course_keeps a b keeps h = passes_keep a b h.by keeps h.each

    -- a store that nothing was done with
    pub fresh_through : (t : StoreState D) → t.sealed ≡ [] → t.phase ≡ Idle → EachCrash disk t.disk (Leaves t) → GoesThrough disk t t
    fresh_through t none idle leaves =
        let names : Names = record { all = 0; settled = 0 } in
        let half : HalfState = record { own = names; there = names; all = []; settled = [] } in
        let first : StoreHalfState D = record { store = t; progress = nothing_drawn; drawn = []; half = half } in
        record {
          first = first;
          last = first;
          from = refl;
          to = refl;
          fresh = (refl, refl);
          course = course_still disk first;
          any_moment = still_keeps t.disk (KeptOf t.store.start [] t.store.start.revision)
              (λ h c out. front_kept t.store.start [] [] [] t.store.start.revision c refl (omega arith)
              (subst (λ (l : List Change). StandsFor c (after_all t.store.start l)) none (idle_keeps t idle c (leaves h c out))));
        }

  -- and one whose half went on
  unfoldable pub half_through : (a b : StoreHalfState D) → a.half.all ≡ [] → a.half.settled ≡ [] → Course disk a b →
      AtAnyMoment disk a.store.disk b.store.disk (KeptThrough a b) → (t : StoreState D) → t ≡ b.store →
      GoesThrough disk a.store t
  half_through a b none_drawn none_settled course moment t is = record {
    first = a;
    last = b;
    from = refl;
    to = sym is;
    fresh = (none_drawn, none_settled);
    course = course;
    any_moment = subst (λ (x : StoreState D). AtAnyMoment disk a.store.disk x.disk
        (KeptOf a.store.store.start b.half.all a.store.store.start.revision)) (sym is)
        (weaker disk a.store.disk b.store.disk (KeptThrough a b) (KeptOf a.store.store.start b.half.all a.store.store.start.revision)
        (λ c kept. kept_low a.store.store.start b.half.all (a.store.store.start.revision + length a.half.settled)
        a.store.store.start.revision c (omega arith) kept) moment);
  }

  -- and a disk from its opening on
  unfoldable pub runs : (before after : D) (t s : StoreState D) →
      AtAnyMoment disk before t.disk (IsOutcome (disk.unsynced before)) → SameHonesty disk before t.disk →
      after ≡ s.disk → GoesThrough disk t s → RunsCommitter disk before after t.store.start
  runs before after t s opening honest given r =
      let P : List ℕ → Type 0 = (λ c. IsOutcome (disk.unsynced before) c ⊎ KeptOf t.store.start r.last.half.all
      t.store.start.revision c) in record {
        opened = t;
        closed = s;
        start_is = refl;
        opening = opening;
        run = r;
        given_back = sym given;
        any_moment = next_moment disk before t.disk after P honest
            (weaker disk before t.disk (IsOutcome (disk.unsynced before)) P (λ c o. inl o) opening)
            (subst (λ (x : D). AtAnyMoment disk t.disk x P) (sym given)
            (weaker disk t.disk s.disk (KeptOf t.store.start r.last.half.all t.store.start.revision) P
            (λ c k. inr k) r.any_moment));
      }

  -- ---- works
  pub well_then : (a b c : StoreState D) → GoesWell disk a b → GoesWell disk b c → GoesWell disk a c
  well_then a b c h k = record { well = k.well; no_failure = k.no_failure ∙ h.no_failure; works = works_on disk a b c h.works k.works }

  pub some_first : (k : CallKind) (kinds old new : List CallKind) → MakesSome (k ∷ []) old new → MakesSome (k ∷ kinds) old new
  some_first k kinds old new (inl s) = inl s
  some_first k kinds old new (inr s) = inr (none kinds (old ++ k ∷ []) new s)
    where
      none : (kinds old new : List CallKind) → new ≡ old → MakesSome kinds old new
      none [] old new is = is
      none (k ∷ kinds) old new is = inl is

  module _ (a b c d : StoreHalfState D) (room : GoesWell disk a.store b.store) (early : IsEarly b.store.compaction.next) where
    -- a batch broke off as it was written
    pub unwritten : MakesSome (Write ∷ []) (disk.calls b.store.disk) (disk.calls c.store.disk) → BreaksOff disk a.store c.store
    unwritten calls = breaks_on disk a.store b.store c.store room.works (record {
      works = [];
      next = b.store.compaction.next;
      last = whole_batch;
      lead = refl;
      may = early;
      calls = subst (λ (l : List CallKind). MakesSome batch_calls l (disk.calls c.store.disk)) (sym (append-nil (disk.calls b.store.disk)))
          (some_first Write (Sync ∷ Write ∷ Sync ∷ []) (disk.calls b.store.disk) (disk.calls c.store.disk) calls);
    })

    module _ (written : disk.calls c.store.disk ≡ disk.calls b.store.disk ++ Write ∷ []) where
      -- or behind that
      pub unsealed : MakesSome (Sync ∷ Write ∷ Sync ∷ []) (disk.calls c.store.disk) (disk.calls d.store.disk) →
          BreaksOff disk a.store d.store
      unsealed calls = breaks_on disk a.store b.store d.store room.works (record {
        works = [];
        next = b.store.compaction.next;
        last = whole_batch;
        lead = refl;
        may = early;
        calls = subst (λ (l : List CallKind). MakesSome batch_calls l (disk.calls d.store.disk))
            (sym (append-nil (disk.calls b.store.disk)))
            (inr (subst (λ (l : List CallKind). MakesSome (Sync ∷ Write ∷ Sync ∷ []) l (disk.calls d.store.disk)) written calls));
      })

      -- or it was sealed
      pub whole : Reaches disk (Sync ∷ Write ∷ Sync ∷ []) d.progress c d →
          disk.faults c.store.disk ≡ disk.faults b.store.disk → c.store.compaction.next ≡ b.store.compaction.next →
          GoesWell disk a.store d.store
      whole r same next = well_then a.store b.store d.store room (record {
        well = r.well;
        no_failure = r.no_failure ∙ same;
        works = record {
          works = whole_batch ∷ [];
          lead = (early, r.next ∙ next);
          calls = r.called ∙ ap (λ (l : List CallKind). l ++ Sync ∷ Write ∷ Sync ∷ []) written ∙
              append_assoc (disk.calls b.store.disk) (Write ∷ []) (Sync ∷ Write ∷ Sync ∷ []);
        };
      })

    -- where there was room its calls were the four alone
    pub alone_by : b ≡ a → Reaches disk (Write ∷ []) batch_staged b c → (r : Result (Unit {0}) CommitFault) →
        OnOk r (Reaches disk (Sync ∷ Write ∷ Sync ∷ []) batch_sealed c d) → OnOk r (Reaches disk batch_calls batch_sealed a d)
    alone_by same wrote (Ok x) made = subst (λ (z : StoreHalfState D). Reaches disk batch_calls batch_sealed z d) same (record {
      progress = made.progress;
      well = made.well;
      no_failure = made.no_failure ∙ wrote.no_failure;
      next = made.next ∙ wrote.next;
      called = made.called ∙ ap (λ (l : List CallKind). l ++ Sync ∷ Write ∷ Sync ∷ []) wrote.called ∙
          append_assoc (disk.calls b.store.disk) (Write ∷ []) (Sync ∷ Write ∷ Sync ∷ []);
    })
    alone_by same wrote (Err e) made = tt

    -- where the last of its calls were made
    pub whole_by : Reaches disk (Write ∷ []) batch_staged b c → (r : Result (Unit {0}) CommitFault) →
        OnOk r (Reaches disk (Sync ∷ Write ∷ Sync ∷ []) batch_sealed c d) → OnOk r (GoesWell disk a.store d.store)
    whole_by wrote (Ok x) made = whole wrote.called
        (record {
          progress = refl;
          well = made.well;
          no_failure = made.no_failure;
          next = made.next;
          called =
              made.called;
        }) wrote.no_failure wrote.next
    whole_by wrote (Err e) made = tt

-- ---- a half whose desk draws and settles beside it
module _ {D : Type 0} (disk : Ghosts D) (a b : DeskHalfState) (h n : StoreHalfState D) (count : ℕ)
    (exit : EachCrash disk n.store.disk (KeptBy n)) where
  pub drawn_lists : HaveDrawn a b h n count → ListsOn disk h n
  drawn_lists d = record {
    store = ap (λ (x : StoreHalfState D). x.store) d.other;
    names = (ap (λ (x : StoreHalfState D). x.half.own) d.other, ap (λ (x : StoreHalfState D). x.half.there) d.other);
    all = (d.group.changes, sym (ap (λ (x : StoreHalfState D). x.half.all) d.other));
    settled = ([], append-nil h.half.settled ∙ sym (ap (λ (x : StoreHalfState D). x.half.settled) d.other));
    exit = exit;
  }

  pub settled_lists : HaveSettled a b h n count → ListsOn disk h n
  settled_lists s = record {
    store = ap (λ (x : StoreHalfState D). x.store) s.other;
    names = (ap (λ (x : StoreHalfState D). x.half.own) s.other, ap (λ (x : StoreHalfState D). x.half.there) s.other);
    all = ([], append-nil h.half.all ∙ sym (ap (λ (x : StoreHalfState D). x.half.all) s.other));
    settled = (a.desk.drawn, sym (ap (λ (x : StoreHalfState D). x.half.settled) s.other));
    exit = exit;
  }
