-- The halves of a committer while what waits is kept.
use Rattle.std.proofs.Common.{◌≡◌, ◌≢◌, ◌<◌, ◌≤◌, ◌+◌, ◌-◌, ℕ, true, false, List, [], ◌∷◌, ◌++◌, length, take, refl, sym, ap, subst}
use Rattle.std.proofs.Common.{◌∙◌, inl, inr, arith, append_assoc, append-nil, length-append}
use Rattle.std.specs.Prelude.{◌⊎◌, ◌↔◌, Bool, IsTrue, OnOk, Result}
use Rattle.std.proofs.lemmas.List.{take_at}
use Rattle.fp_disk.specs.Crashes.{AtAnyMoment, EachCrash, SameHonesty}
use Rattle.fp_disk.specs.Moments.{leaves_still}
use Rattle.fp_disk.specs.Outcomes.{IsOutcome}
use Rattle.fp_disk.specs.declared.disk.Disk.{Ghosts}
use Rattle.fp_edit.specs.Edits.{Change}
use Rattle.fp_edit.specs.Flags.{State}
use Rattle.fp_edit.specs.Log.{after, after_all}
use Rattle.fp_edit.proofs.Followed.{after-append}
use Rattle.fp_group_commit.specs.Store.{StoreState, sealed_set}
use Rattle.fp_group_commit.specs.Tokens.{Identity}
use Rattle.fp_group_commit.specs.declared.phase.Phase.TheVariants.{Idle}
use Rattle.fp_recovery.specs.Stands.{StandsFor}
use Rattle.fp_desk.specs.Desk.{DeskState, log, settled_revision}
use Rattle.fp_committer.specs.Committer.{Agree, AreHalves, DeskHalfState, HaveDrawn, HaveSettled}
use Rattle.fp_committer.specs.CourseLaws.{course_still, course_then}
use Rattle.fp_committer.specs.Course.{CallsOn, Course, FailsBy, GoesWell, HasCause, LacksRoom}
use Rattle.fp_committer.specs.Halves.{ArePair, HalfState}
use Rattle.fp_committer.specs.Kept.{IsAfterFirst}
use Rattle.fp_committer.specs.StoreHalf.{KeptBy, StoreHalfState}
use Rattle.fp_committer.specs.Works.{BreaksOff}
use Rattle.fp_committer.specs.WorksLaws.{works_break}
use Rattle.fp_committer.specs.declared.fault.CommitFault.{CommitFault}
use Rattle.fp_committer.specs.declared.fault.CommitFault.TheVariants.{Memory, StoreFailed}
use Rattle.fp_committer.proofs.Courses.{course_calls, course_lists, drawn_lists, settled_lists}
use Rattle.fp_committer.proofs.Keeps.{told_kept}
use Rattle.fp_committer.proofs.Moments.{honest_on, next_moment, weaker}
use Rattle.fp_session.specs.Session.{AreAtRest, AreOne, IsInStep, LacksRoomFor, StandsAhead, StaysAhead}

-- ---- a desk
-- a front of the log is ahead of what is settled
front_ahead : (d : DeskState) (xs rest : List Change) → log d ≡ xs ++ rest → length d.settled ≤ length xs
    → IsAfterFirst d (settled_revision d) (after_all d.store.start xs)
front_ahead d xs rest is le =
    let r = d.store.start.revision in
    let count : length xs ≡ (r + length xs) - r = omega arith in
    let cut : take ((r + length xs) - r) (log d) ≡ xs =
    ap (λ (l : List Change). take ((r + length xs) - r) l) is ∙ take_at xs rest ((r + length xs) - r) count in
    let len = ap length is in let more = length-append xs rest in
    (r + length xs, omega (arith, le), omega (arith, len, more), ap (λ (l : List Change). after_all d.store.start l) (sym cut))

-- what is ahead of a desk was ahead of it when less was settled
pub ahead_on : (d e : DeskState) → e.store ≡ d.store → log e ≡ log d → length d.settled ≤ length e.settled → (u : State)
    → IsAfterFirst e (settled_revision e) u → IsAfterFirst d (settled_revision d) u
ahead_on d e store all more u a = grind arith

stands_on : (d e : DeskState) → e.store ≡ d.store → log e ≡ log d → length d.settled ≤ length e.settled → (c : List ℕ)
    → StandsAhead e c → StandsAhead d c
stands_on d e store all more c s = (s.0, ahead_on d e store all more s.0 s.1, s.2)

pub lacks_on : {D : Type 0} (disk : Ghosts D) (now : D) (d e : DeskState) → e.store ≡ d.store → log e ≡ log d
    → length d.settled ≤ length e.settled → LacksRoomFor disk e now → LacksRoomFor disk d now
lacks_on disk now d e store all more l = record {
  flags = l.flags;
  batch = l.batch;
  from = ahead_on d e store all more l.flags l.from;
  to = ahead_on d e store all more (after_all l.flags l.batch) l.to;
  some = l.some;
  generation = l.generation;
  last = l.last;
  full = l.full;
}

-- ---- both halves
-- what the store's half keeps is ahead of the desk
pub kept_ahead : {D : Type 0} (a : DeskHalfState) (b : StoreHalfState D) → AreOne a b → (c : List ℕ) → KeptBy b c → StandsAhead a.desk c
kept_ahead a b one c k =
    let kept = told_kept a.desk b (settled_revision a.desk) one.halves.same one.agree.0 one.agree.1 one.whole (omega arith) c k in
    (after a.desk.store.start (log a.desk) kept.0, (kept.0, kept.1, kept.2, refl), kept.3)

module _ {D : Type 0} (a : DeskHalfState) (b : StoreHalfState D) (one : AreOne a b) where
  -- where nothing is drawn it is what is sealed
  only_sealed : b.drawn ≡ [] → b.store.sealed ≡ b.half.settled → (c : List ℕ) → KeptBy b c → StandsFor c (sealed_set b.store)
  only_sealed none sealed c k =
      let r = b.store.store.start.revision in let low = k.1 in let high = k.2 in
      let whole : b.half.all ≡ b.half.settled ++ [] = one.whole ∙ ap (λ (l : List Change). b.half.settled ++ l) none in
      let len = ap length whole in let same = ap length (append-nil b.half.settled) in
      let count : length b.half.settled ≡ k.0 - r = omega (arith, low, high, len, same) in
      let cut : take (k.0 - r) b.half.all ≡ b.store.sealed =
      ap (λ (l : List Change). take (k.0 - r) l) whole ∙ take_at b.half.settled [] (k.0 - r) count ∙ sym sealed in
      subst (λ (l : List Change). StandsFor c (after_all b.store.store.start l)) cut k.3

  pub in_step : (disk : Ghosts D) → AreAtRest a b → (b.store.phase ≡ Idle) × (b.drawn ≡ []) × (b.store.sealed ≡ b.half.settled)
      → EachCrash disk b.store.disk (KeptBy b) → IsInStep disk b.store a.desk
  in_step disk rest idle exit = record {
    same = sym one.halves.same;
    rest = (idle.0, rest.1);
    settled = idle.2 ∙ one.agree.0;
    none_drawn = sym one.agree.1 ∙ idle.1;
    accepts = rest.2;
    keeps = λ h c o. only_sealed idle.1 idle.2 c (exit h c o);
  }

  -- no room for what is drawn is none for edits on their way
  pub lacks_drawn : (disk : Ghosts D) → 0 < length a.desk.drawn → LacksRoom disk b → LacksRoomFor disk a.desk b.store.disk
  lacks_drawn disk some l =
      let d = a.desk in let start = d.store.start in
      let set : after_all b.store.store.start b.half.settled ≡ after_all start d.settled =
      ap (λ (x : Identity). after_all x.start b.half.settled) one.halves.same ∙ ap (λ (x : List Change). after_all start x) one.agree.0 in
      let len = ap length one.agree.1 in let more = length-append d.settled d.drawn in
      let then : after_all start (d.settled ++ d.drawn) ≡ after_all (after_all b.store.store.start b.half.settled) b.drawn =
      after-append start d.settled d.drawn ∙ ap (λ (x : List Change). after_all (after_all start d.settled) x) (sym one.agree.1)
      ∙ ap (λ (u : State). after_all u b.drawn) (sym set) in
      record {
        flags = after_all b.store.store.start b.half.settled;
        batch = b.drawn;
        from = subst (λ (u : State). IsAfterFirst d (settled_revision d) u) (sym set)
            (front_ahead d d.settled (d.drawn ++ d.waiting) refl (omega arith));
        to = subst (λ (u : State). IsAfterFirst d (settled_revision d) u) then
            (front_ahead d (d.settled ++ d.drawn) d.waiting (sym (append_assoc d.settled d.drawn d.waiting)) (omega (arith, more)));
        some = omega (arith, some, len);
        generation = b.store.compaction.generation;
        last = l.last;
        full = λ h c o. let f = l.full h c o in record { stands = f.stands; full = f.full; generation_is = f.generation_is };
      }

  module _ (disk : Ghosts D) where
    -- the store's half calls the disk
    module _ (n : StoreHalfState D) (k : CallsOn disk b n) where
      pub one_on : AreOne a n
      one_on = record {
        halves = record {
          pair = subst (λ (x : HalfState). ArePair a.half x) (sym k.same.0) one.halves.pair;
          same = k.same.2 ∙ one.halves.same;
        };
        agree = (ap (λ (x : HalfState). x.settled) k.same.0 ∙ one.agree.0, k.same.1 ∙ one.agree.1);
        whole = ap (λ (x : HalfState). x.all) k.same.0 ∙ one.whole ∙ ap (λ (x : HalfState). x.settled ++ b.drawn) (sym k.same.0)
            ∙ ap (λ (l : List Change). n.half.settled ++ l) (sym k.same.1);
      }

      pub calls_stay : StaysAhead disk a b a n
      calls_stay = record {
        one = one_on;
        log = (refl, refl);
        settled = omega arith;
        course = course_calls disk b n k;
        any_moment = weaker disk b.store.disk n.store.disk (KeptBy n) (StandsAhead a.desk) (kept_ahead a n one_on) k.any_moment;
        honest = k.honest;
      }

    module _ (only_now : (x : D) (c : List ℕ) → disk.honest x → disk.crash_states_since x (disk.moment x) c → IsOutcome (disk.unsynced x) c)
        (exit : EachCrash disk b.store.disk (KeptBy b)) where
      -- nothing is done
      pub still : AtAnyMoment disk b.store.disk b.store.disk (StandsAhead a.desk)
      still = λ h. leaves_still disk.moment disk.crash_states_since b.store.disk (StandsAhead a.desk)
          (λ c left. kept_ahead a b one c (exit h c (only_now b.store.disk c h left)))

      -- the disk is let alone, and the desk goes on with the same edits
      pub desk_stays : (x : DeskHalfState) (y : StoreHalfState D) → AreOne x y → y.store ≡ b.store → x.desk.store ≡ a.desk.store
          → log x.desk ≡ log a.desk → length a.desk.settled ≤ length x.desk.settled → Course disk b y → StaysAhead disk a b x y
      desk_stays x y both store same all more course = record {
        one = both;
        log = (same, all);
        settled = more;
        course = course;
        any_moment = subst (λ (s : StoreState D). AtAnyMoment disk b.store.disk s.disk (StandsAhead a.desk)) (sym store) still;
        honest = subst (λ (s : StoreState D). SameHonesty disk b.store.disk s.disk) (sym store) (λ h. h, λ h. h);
      }

      pub stays_itself : StaysAhead disk a b a b
      stays_itself = desk_stays a b one refl refl refl (omega arith) (course_still disk b)

-- one after another
pub stays_then : {D : Type 0} (disk : Ghosts D) (a : DeskHalfState) (b : StoreHalfState D) (x : DeskHalfState) (y : StoreHalfState D)
    (z : DeskHalfState) (w : StoreHalfState D) → StaysAhead disk a b x y → StaysAhead disk x y z w → StaysAhead disk a b z w
stays_then disk a b x y z w h k =
    let first = h.settled in let second = k.settled in record {
      one = k.one;
      log = (k.log.0 ∙ h.log.0, k.log.1 ∙ h.log.1);
      settled = omega (arith, first, second);
      course = course_then disk b y w h.course k.course;
      any_moment = next_moment disk b.store.disk y.store.disk w.store.disk (StandsAhead a.desk) h.honest h.any_moment
          (weaker disk y.store.disk w.store.disk (StandsAhead x.desk) (StandsAhead a.desk)
          (stands_on a.desk x.desk h.log.0 h.log.1 h.settled) k.any_moment);
      honest = honest_on disk b.store.disk y.store.disk w.store.disk h.honest k.honest;
    }

-- ---- a batch
-- it is drawn
module _ {D : Type 0} (disk : Ghosts D)
    (only_now : (x : D) (c : List ℕ) → disk.honest x → disk.crash_states_since x (disk.moment x) c → IsOutcome (disk.unsynced x) c)
    (a : DeskHalfState) (b : StoreHalfState D) (one : AreOne a b) (exit : EachCrash disk b.store.disk (KeptBy b))
    (x : DeskHalfState) (y : StoreHalfState D) {count : ℕ} (h : HaveDrawn a x b y count) (both : AreHalves x y × Agree x y) where
  drawn_one : AreOne x y
  drawn_one =
      let none = h.drawn.none_out in let is = h.other in let whole = one.whole in let drawn = one.agree.1 in
      record { halves = both.0; agree = both.1; whole = grind (arith, none, is, whole, drawn, append-nil) }

  drawn_log : (x.desk.store ≡ a.desk.store) × (log x.desk ≡ log a.desk) × (length a.desk.settled ≤ length x.desk.settled)
  drawn_log =
      let none = h.drawn.none_out in let parts = h.drawn.longest.parts in let new = h.drawn.new_is in
      grind (arith, none, parts, new, append_assoc)

  drawn_some : 0 < length x.desk.drawn
  drawn_some =
      let some = h.drawn.longest.some in let is = ap (λ (d : DeskState). length d.drawn) h.drawn.new_is in omega (arith, some, is)

  store_stays : y.store ≡ b.store
  store_stays = ap (λ (s : StoreHalfState D). s.store) h.other

  -- and sealed, or that broke off
  module _ (drawn_exit : EachCrash disk y.store.disk (KeptBy y)) (n : StoreHalfState D) (k : CallsOn disk y n) where
    sealed_one : AreOne x n
    sealed_one = one_on x y drawn_one disk n k

    pub sealed_stays : StaysAhead disk a b x n
    sealed_stays = stays_then disk a b x y x n
        (desk_stays a b one disk only_now exit x y drawn_one store_stays drawn_log.0 drawn_log.1 drawn_log.2
        (course_lists disk b y (drawn_lists disk a x b y count drawn_exit h)))
        (calls_stay x y drawn_one disk n k)

    pub sealed_fails : (f : CommitFault) → HasCause disk y n f → f ≡ StoreFailed
        → LacksRoomFor disk a.desk n.store.disk ⊎ (disk.faults b.store.disk < disk.faults n.store.disk)
    sealed_fails f (inl fails) is = inr (subst (λ (s : StoreState D). disk.faults s.disk < disk.faults n.store.disk) store_stays
        (subst (λ (e : CommitFault). FailsBy disk y.store n.store e) is fails).1)
    sealed_fails f (inr lacks) is = inl (lacks_on disk n.store.disk a.desk x.desk drawn_log.0 drawn_log.1 drawn_log.2
        (lacks_drawn x n sealed_one disk drawn_some lacks.1))

    pub sealed_wants : (f : CommitFault) → HasCause disk y n f → f ≡ Memory → disk.faults n.store.disk ≡ disk.faults b.store.disk
    sealed_wants f (inl fails) is = (subst (λ (e : CommitFault). FailsBy disk y.store n.store e) is fails).1
        ∙ ap (λ (s : StoreState D). disk.faults s.disk) store_stays
    sealed_wants f (inr lacks) is = let both : StoreFailed ≡ Memory = sym lacks.0 ∙ is in absurd cc

    pub sealed_well : GoesWell disk y.store n.store → disk.faults n.store.disk ≡ disk.faults b.store.disk
    sealed_well well = well.no_failure ∙ ap (λ (s : StoreState D). disk.faults s.disk) store_stays

    pub sealed_breaks : GoesWell disk y.store n.store → BreaksOff disk b.store n.store
    sealed_breaks well = subst (λ (s : StoreState D). BreaksOff disk s n.store) store_stays (works_break disk y.store n.store well.works)

    -- and settled
    module _ (z : DeskHalfState) (w : StoreHalfState D) {revision : ℕ} (s : HaveSettled x z n w revision)
        (then : AreHalves z w × Agree z w) (settled_exit : EachCrash disk w.store.disk (KeptBy w)) where
      settled_one : AreOne z w
      settled_one =
          let is = s.other in let whole = sealed_one.whole in let drawn = sealed_one.agree.1 in
          record { halves = then.0; agree = then.1; whole = grind (arith, is, whole, drawn, append-nil) }

      settled_log : (z.desk.store ≡ x.desk.store) × (log z.desk ≡ log x.desk) × (length x.desk.settled ≤ length z.desk.settled)
      settled_log = let new = s.settled in grind (arith, new, append_assoc, length-append)

      pub settled_stays : StaysAhead disk a b z w
      settled_stays = stays_then disk a b x n z w sealed_stays
          (desk_stays x n sealed_one disk only_now k.exit z w settled_one (ap (λ (t : StoreHalfState D). t.store) s.other)
          settled_log.0 settled_log.1 settled_log.2
          (course_lists disk n w (settled_lists disk x z n w revision settled_exit s)))

-- a list that isn't told of having something has nothing
pub nothing_left : (xs : List Change) (b : Bool) → (IsTrue b ↔ (xs ≢ [])) → b ≡ false → xs ≡ []
nothing_left [] b says not = refl
nothing_left (x ∷ xs) b says not = let both : false ≡ true = sym not ∙ says.1 (λ e. cc) in absurd cc

pub ok_more : {A E : Type 0} (r : Result A E) (P Q : Type 0) → (P → Q) → OnOk r P → OnOk r Q
ok_more r P Q f p = grind arith
