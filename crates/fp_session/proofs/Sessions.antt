-- An edit on its way through a session.
use Rattle.std.proofs.Common.{◌≡◌, ◌⊎◌, ◌≤◌, ◌+◌, ℕ, true, false, None, List, [], ◌∷◌, ◌++◌, length, refl, sym, ap, subst, ◌∙◌, arith}
use Rattle.std.proofs.Common.{append_assoc, inr, length-append}
use Rattle.std.specs.Prelude.{Bool, Option, Some, suc}
use Rattle.std.proofs.lemmas.List.{take-append-le, take_all}
use Rattle.fp_disk.specs.Crashes.{AtAnyMoment, SameHonesty}
use Rattle.fp_disk.specs.declared.disk.Disk.{Ghosts}
use Rattle.fp_base.specs.Tests.{first_failed}
use Rattle.fp_edit.specs.Admits.{has_revision, has_room, is_as_expected, IsRefusedOrWanting, keys_from, present, refusal}
use Rattle.fp_edit.specs.declared.edit.EditFault.{EditFault}
use Rattle.fp_edit.specs.declared.edit.EditFault.TheVariants as fault
use Rattle.fp_edit.specs.Edits.{change_in, joint, Proposal, single}
use Rattle.fp_edit.specs.Parts.{ProposedPart}
use Rattle.fp_edit.specs.Flags.{State}
use Rattle.fp_edit.specs.Log.{after}
use Rattle.fp_edit.proofs.Runs.{revision-after_all}
use Rattle.fp_desk.specs.Desk.{DeskState, head, IsAccepted, log, settled_revision}
use Rattle.fp_recovery.specs.Stands.{StandsFor}
use Rattle.fp_group_commit.specs.Store.{StoreState}
use Rattle.fp_committer.specs.Committer.{DeskHalfState}
use Rattle.fp_committer.specs.Halves.{ArePair, HalfState}
use Rattle.fp_committer.specs.Kept.{IsAfterFirst}
use Rattle.fp_committer.specs.StoreHalf.{StoreHalfState}
use Rattle.fp_committer.specs.Course.{FailsBy}
use Rattle.fp_committer.specs.CourseLaws.{course_still}
use Rattle.fp_committer.specs.WorksLaws.{no_works, works_break}
use Rattle.fp_committer.specs.declared.fault.CommitFault.{CommitFault}
use Rattle.fp_committer.specs.declared.fault.CommitFault.TheVariants as commit
use Rattle.fp_session.specs.Session.{AreAtRest, AreOne, CanFail, disk_of, Fails, IsInStep, Keeps, LeavesFlags, SessionState}

module _ (d mid : DeskState) (edit : Proposal) (acc : IsAccepted d mid edit) where
  pub mid_store : mid.store ≡ d.store
  mid_store = ap (λ (x : DeskState). x.store) acc.new_is

  pub mid_in_step : {D : Type 0} (disk : Ghosts D) (s : StoreState D) → IsInStep disk s d → IsInStep disk s mid
  mid_in_step disk s i = record {
    same = mid_store ∙ i.same;
    rest = i.rest;
    settled = i.settled ∙ sym (ap (λ (x : DeskState). x.settled) acc.new_is);
    none_drawn = ap (λ (x : DeskState). x.drawn) acc.new_is ∙ i.none_drawn;
    accepts = ap (λ (x : DeskState). x.stopped) acc.new_is ∙ i.accepts;
    keeps = i.keeps;
  }

  mid_log : log mid ≡ log d ++ change_in edit ∷ []
  mid_log = let new = acc.new_is in grind (arith, new, append_assoc)

  pub mid_revision : (r : ℕ) → r ≡ mid.store.start.revision + length (log mid) → r ≡ (head mid).revision
  mid_revision r is = is ∙ sym (revision-after_all mid.store.start (log mid))

  -- some first of the edits that were there are the same
  first_same : (n : ℕ) → n ≤ d.store.start.revision + length (log d)
      → after mid.store.start (log mid) n ≡ after d.store.start (log d) n
  first_same n le = let new = acc.new_is in grind (arith, new, mid_log, take-append-le)

  -- the edit adds no flags but those after it
  pub mid_ahead : (u : State) → IsAfterFirst mid (settled_revision mid) u → IsAfterFirst d (settled_revision d) u ⊎ (u ≡ head mid)
  mid_ahead u a = let new = acc.new_is in grind (arith, new, mid_log, first_same, take_all, length-append)

-- the same at the desk's half
module _ {D : Type 0} (a x : DeskHalfState) (b : StoreHalfState D) (edit : Proposal) (acc : IsAccepted a.desk x.desk edit) where
  pub mid_one : x.half ≡ a.half → AreOne a b → AreOne x b
  mid_one half one = record {
    halves = record {
      pair = subst (λ (h : HalfState). ArePair h b.half) (sym half) one.halves.pair;
      same = one.halves.same ∙ sym (mid_store a.desk x.desk edit acc);
    };
    agree = (
      one.agree.0 ∙ sym (ap (λ (d : DeskState). d.settled) acc.new_is),
      one.agree.1 ∙ sym (ap (λ (d : DeskState). d.drawn) acc.new_is),
    );
    whole = one.whole;
  }

  pub mid_rest : AreAtRest a b → AreAtRest x b
  mid_rest rest = (rest.0, rest.1, ap (λ (d : DeskState). d.stopped) acc.new_is ∙ rest.2)

-- ---- a session whose view is `a`
module _ {D : Type 0} (disk : Ghosts D) (s a : SessionState D) (is : s ≡ a) where
  -- no time goes by
  pub stays_put : LeavesFlags disk a a (IsAfterFirst a.desk (settled_revision a.desk)) → (b : SessionState D) → disk_of b ≡ disk_of s
      → LeavesFlags disk a b (IsAfterFirst a.desk (settled_revision a.desk))
  stays_put still b same =
      subst (λ (x : D). SameHonesty disk (disk_of a) x × AtAnyMoment disk (disk_of a) x (λ c.
      (flags : State) × IsAfterFirst a.desk (settled_revision a.desk) flags × StandsFor c flags)) (ap disk_of (sym is) ∙ sym same) still

  -- at another desk it goes on as before
  pub keeps_desk : (mid : DeskState) → (IsInStep disk s.half.store s.desk → IsInStep disk s.half.store mid)
      → Keeps disk a (record { half = s.half; desk = mid; stopped = s.stopped; owes = s.owes })
  keeps_desk mid on =
      subst (λ (x : SessionState D). Keeps disk x (record { half = s.half; desk = mid; stopped = s.stopped; owes = s.owes })) is
      (record {
        honest = (λ h. h, λ h. h);
        no_failure = refl;
        ready = λ r. (r.0, on r.1);
        called = no_works disk s.half.store;
        course = course_still disk s.half;
      })

  -- where it stopped it fails and does nothing
  pub stopped_fails : s.stopped ≡ true → Fails disk commit.StoreFailed a a
  stopped_fails stopped = subst (λ (x : SessionState D). Fails disk commit.StoreFailed x x) is (record {
    honest = (λ h. h, λ h. h);
    cause = λ ready. (let both : true ≡ false = sym stopped ∙ ready.0 in absurd cc);
    called = works_break disk s.half.store s.half.store (no_works disk s.half.store);
    course = course_still disk s.half;
  })

-- why a step of a compaction wasn't taken
pub can_fail : {D : Type 0} (disk : Ghosts D) (a b : SessionState D) (f : CommitFault) →
    FailsBy disk a.half.store b.half.store f → CanFail disk f a b
can_fail disk a b commit.StoreFailed fails = inr fails.1
can_fail disk a b commit.Memory fails = fails.1

-- ---- refusals
never_memory : (a b c : Bool) (k : Option ℕ) →
    first_failed ((a, fault.Conflict k) ∷ (b, fault.SetTooLarge) ∷ (c, fault.RevisionsUsed) ∷ []) ≡ Some fault.Memory
    → ⊥
never_memory a b c k h = grind arith

never_in_set : (s : State) (b c : Bool) (at : ℕ) (ps : List ProposedPart) →
    first_failed (keys_from s at ps ++ (b, fault.SetTooLarge) ∷ (c, fault.RevisionsUsed) ∷ []) ≡ Some fault.Memory → ⊥
never_in_set s b c at [] h = never_memory true b c None h
never_in_set s b c at (p ∷ ps) h = by_test (never_in_set s b c (suc at) ps) (is_as_expected s p) h
  where
    by_test : (first_failed (keys_from s (suc at) ps ++ (b, fault.SetTooLarge) ∷ (c, fault.RevisionsUsed) ∷ []) ≡
        Some fault.Memory → ⊥) → (t : Bool) →
        first_failed ((t, fault.ConflictIn at (present s p)) ∷ keys_from s (suc at) ps ++ (b, fault.SetTooLarge) ∷
        (c, fault.RevisionsUsed) ∷ []) ≡ Some fault.Memory → ⊥
    by_test behind true h = behind h
    by_test behind false h = absurd cc

-- the fault of a test is none of want of memory
never_wanting : (s : State) (p : Proposal) → refusal s p ≡ Some fault.Memory → ⊥
never_wanting s (single p) h = never_memory (is_as_expected s p) (has_room s (change_in (single p))) (has_revision s) (present s p) h
never_wanting s (joint ps) h = never_in_set s (has_room s (change_in (joint ps))) (has_revision s) 0 ps h

pub refused_known : (s : State) (p : Proposal) (f : EditFault) → refusal s p ≡ Some f → IsRefusedOrWanting s p f
refused_known s p (fault.Conflict current) h = h
refused_known s p (fault.ConflictIn at current) h = h
refused_known s p fault.SetTooLarge h = h
refused_known s p fault.RevisionsUsed h = h
refused_known s p fault.Memory h = absurd (never_wanting s p h)
