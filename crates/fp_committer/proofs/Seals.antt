-- A batch's four calls, one event after another, each where it is due, and the steps of a compaction
-- that make room for it.
use Rattle.std.proofs.Common.{◌≡◌, ◌≢◌, ◌⊎◌, ◌<◌, ◌≤◌, ◌+◌, ◌^◌, ℕ, true, false, List, [], ◌∷◌, Ok, Err, refl, sym, ap}
use Rattle.std.proofs.Common.{subst, ◌∙◌, inl, inr}
use Rattle.std.specs.Prelude.{IfErr, OnErr, OnOk, Result}
use Rattle.fp_disk.specs.Crashes.{EachCrash}
use Rattle.fp_disk.specs.History.{MakesSome}
use Rattle.fp_disk.specs.declared.disk.Disk.{Ghosts}
use Rattle.fp_disk.specs.declared.history.CallKind.{CallKind}
use Rattle.fp_disk.specs.declared.history.CallKind.TheVariants.{Sync}
use Rattle.fp_edit.specs.Edits.{Change}
use Rattle.fp_edit.specs.Flags.{State}
use Rattle.fp_edit.specs.Log.{after_all}
use Rattle.fp_record.specs.Group.{Group}
use Rattle.fp_recovery.specs.Room.{IsFullFor}
use Rattle.fp_recovery.specs.Stands.{StandsFor}
use Rattle.fp_group_commit.specs.Store.{StoreState, sealed_set}
use Rattle.fp_group_commit.specs.declared.fault.StoreFault.TheVariants as fault
use Rattle.fp_group_commit.specs.declared.phase.Phase.{Phase}
use Rattle.fp_group_commit.specs.declared.phase.Phase.TheVariants.{Idle, Staged, BodySynced, GateOpened}
use Rattle.fp_committer.specs.Course.{CallsOn, FailsBy, HasCause, LacksRoom}
use Rattle.fp_committer.specs.Halves.{HalfState}
use Rattle.fp_committer.specs.Room.{Halts, Proceeds, StaysAt}
use Rattle.fp_committer.specs.StoreHalf.{IsOut, IsStoreHalf, MakesOne, RisesFor, changes_held, progress_of}
use Rattle.fp_committer.specs.Way.{Advances, Progress, Seals, Taken, Way}
use Rattle.fp_committer.specs.Way.{batch_drawn, gate_opened, batch_sealed, nothing_drawn}
use Rattle.fp_committer.specs.Works.{BreaksOff}
use Rattle.fp_committer.specs.WorksLaws.{works_break}
use Rattle.fp_committer.specs.declared.event.Answer.{Answer}
use Rattle.fp_committer.specs.declared.event.Answer.TheVariants as answer
use Rattle.fp_committer.specs.declared.fault.CommitFault.{CommitFault}
use Rattle.fp_committer.specs.declared.fault.CommitFault.TheVariants.{Memory, StoreFailed}
use Rattle.fp_committer.specs.declared.held.Held.{Held}
use Rattle.fp_committer.specs.declared.held.Held.TheVariants as held
use Rattle.fp_committer.proofs.Keeps.{Half, Kept, kept_now, kept_then}
use Rattle.fp_committer.proofs.Moments.{idle_keeps, weaker}
use Rattle.fp_committer.proofs.Out.{held_same, stood}

-- ---- a call that takes the batch on
module _ (May : Way → Type 0) (to : Progress) where
  pub went : (a : Answer) (old new : Way) → a ≡ answer.Done → Advances May to old a new → new ≡ record old { progress = to }
  went a old new is does = (subst (λ (x : Answer). Advances May to old x new) is does).2

  -- where it was due and wasn't done, the device failed, and so the store
  pub broke : (kind : CallKind) (a : Answer) (old new : Way) (before now : ℕ) (calls more : List CallKind) →
      a ≢ answer.Done → Advances May to old a new → old.failed ≡ false → May old → RisesFor a before now →
      MakesOne kind a calls more
      → ((new.failed ≡ true) × (before < now)) × MakesSome (kind ∷ []) calls more
  broke kind answer.NotNow old new before now calls more not does well may rises made = absurd (does.1 may)
  broke kind answer.Memory old new before now calls more not does well may rises made = absurd does
  broke kind (answer.Refused f) old new before now calls more not does well may rises made = absurd does
  broke kind (answer.Fault fault.Device) old new before now calls more not does well may rises made =
      ((ap (λ (w : Way). w.failed) does.2, rises), made)
  broke kind (answer.Fault fault.Failed) old new before now calls more not does well may rises made =
      let both : true ≡ false = sym does.0 ∙ well in absurd cc
  broke kind (answer.Fault fault.Memory) old new before now calls more not does well may rises made = absurd does
  broke kind (answer.Fault fault.Stranger) old new before now calls more not does well may rises made = absurd does
  broke kind (answer.Ticket n) old new before now calls more not does well may rises made = absurd does
  broke kind (answer.Drawn n) old new before now calls more not does well may rises made = absurd does
  broke kind answer.Done old new before now calls more not does well may rises made = absurd (not refl)
  broke kind (answer.Sealed n) old new before now calls more not does well may rises made = absurd does
  broke kind (answer.Settled n) old new before now calls more not does well may rises made = absurd does
  broke kind (answer.Acked n) old new before now calls more not does well may rises made = absurd does
  broke kind answer.Waiting old new before now calls more not does well may rises made = absurd does
  broke kind (answer.Phase p) old new before now calls more not does well may rises made = absurd does

-- ---- and seals it
module _ (t : Taken) where
  pub sealed : (a : Answer) (revision : ℕ) (old new : Way) → a ≡ answer.Sealed revision → Seals t old a new →
      (new.progress ≡ batch_sealed) × (new.failed ≡ old.failed) × (new.compaction.next ≡ old.compaction.next)
  sealed a revision old new is does =
      let at = (subst (λ (x : Answer). Seals t old x new) is does).5 in
      (ap (λ (w : Way). w.progress) at, ap (λ (w : Way). w.failed) at, ap (λ (w : Way). w.compaction.next) at)

  pub unsealed : (a : Answer) (old new : Way) (before now : ℕ) (calls more : List CallKind) →
      ((n : ℕ) → a ≢ answer.Sealed n) → Seals t old a new → old.failed ≡ false → old.progress ≡ gate_opened →
      RisesFor a before now → MakesOne Sync a calls more
      → ((new.failed ≡ true) × (before < now)) × MakesSome (Sync ∷ []) calls more
  unsealed answer.NotNow old new before now calls more not does well may rises made = absurd (does.1 may)
  unsealed answer.Memory old new before now calls more not does well may rises made = absurd does
  unsealed (answer.Refused f) old new before now calls more not does well may rises made = absurd does
  unsealed (answer.Fault fault.Device) old new before now calls more not does well may rises made =
      ((ap (λ (w : Way). w.failed) does.2, rises), made)
  unsealed (answer.Fault fault.Failed) old new before now calls more not does well may rises made =
      let both : true ≡ false = sym does.0 ∙ well in absurd cc
  unsealed (answer.Fault fault.Memory) old new before now calls more not does well may rises made = absurd does
  unsealed (answer.Fault fault.Stranger) old new before now calls more not does well may rises made = absurd does
  unsealed (answer.Ticket n) old new before now calls more not does well may rises made = absurd does
  unsealed (answer.Drawn n) old new before now calls more not does well may rises made = absurd does
  unsealed answer.Done old new before now calls more not does well may rises made = absurd does
  unsealed (answer.Sealed n) old new before now calls more not does well may rises made = absurd (not n refl)
  unsealed (answer.Settled n) old new before now calls more not does well may rises made = absurd does
  unsealed (answer.Acked n) old new before now calls more not does well may rises made = absurd does
  unsealed answer.Waiting old new before now calls more not does well may rises made = absurd does
  unsealed (answer.Phase p) old new before now calls more not does well may rises made = absurd does

-- ---- where it is held

flying_out : (p : Phase) → progress_of held.InFlight p ≢ nothing_drawn
flying_out Idle e = absurd cc
flying_out Staged e = absurd cc
flying_out BodySynced e = absurd cc
flying_out GateOpened e = absurd cc

-- and nothing is held where nothing is drawn
pub none_held : (h : Held) (p : Phase) → progress_of h p ≡ nothing_drawn → h ≡ held.Nothing
none_held held.Nothing p at = refl
none_held (held.Drawn group) p at = absurd cc
none_held held.InFlight p at = absurd (flying_out p at)
none_held (held.Sealed receipt) p at = absurd cc

-- ---- steps of a compaction beside it
module _ {D : Type 0} (disk : Ghosts D) {h : Held} {s : StoreState D} {half : HalfState}
    (w : IsStoreHalf disk.honest disk.unsynced h s half) where
  -- with no batch on its way a crash leaves what is sealed
  pub rests : s.phase ≡ Idle → EachCrash disk s.disk (λ c. StandsFor c (sealed_set s))
  rests idle = λ honest c out. idle_keeps s idle c (w.now honest c out)

  -- the store stayed at what is sealed, and the batch where it was
  pub stays_half : (n : StoreState D) → StaysAt disk s n → IsStoreHalf disk.honest disk.unsynced h n half
  stays_half n k = stood disk.honest disk.unsynced w n k.phase (k.store, k.sealed, k.staged) (λ honest c out. inl (k.now honest c out))

  pub stays_calls : (n : StoreState D) → StaysAt disk s n → (p q : Progress) →
      CallsOn disk (Half s p (changes_held h s) half) (Half n q (changes_held h n) half)
  stays_calls n k p q = record {
    same = (refl, held_same s n h k.staged, k.store);
    any_moment = weaker disk s.disk n.disk (λ c. StandsFor c (sealed_set s)) (Kept n half)
        (λ c stands. kept_then disk w n k.store c (inl stands)) k.any_moment;
    exit = kept_now disk (stays_half n k);
    honest = k.honest;
  }

-- by what it answered
pub either_way : {A E : Type 0} (r : Result A E) (P R : Type 0) (Q : E → Type 0) → OnOk r P → IfErr r Q → (P → R) → ((e : E) → Q e → R) → R
either_way (Ok x) P R Q p q f h = f p
either_way (Err e) P R Q p q f h = h e q

pub halted : {D : Type 0} (disk : Ghosts D) (a b : StoreState D) (f : CommitFault) → Halts disk a b f → FailsBy disk a b f
halted disk a b StoreFailed h = h.cause refl
halted disk a b Memory h = h.memory refl

-- there is no room for what is drawn, and no generation to make it
abbrev pub IsUsedUp : {D : Type 0} → Ghosts D → StoreState D → StoreState D → Group → CommitFault → Type 0
IsUsedUp disk a b group f = (f ≡ StoreFailed) × Proceeds disk a b × (2 ^ 64 ≤ b.compaction.generation + 1)
    × EachCrash disk b.disk (λ c. IsFullFor c (sealed_set b) group b.compaction.generation)

module _ {D : Type 0} (disk : Ghosts D) (s n : StoreState D) (half : HalfState) (group : Group)
    (o : IsOut (held.Drawn group) s half.settled) where
  pub lacks : IsUsedUp disk s n group StoreFailed → LacksRoom disk (Half n batch_drawn group.changes half)
  lacks full =
      let set : sealed_set n ≡ after_all n.store.start half.settled =
      ap (λ (l : List Change). after_all n.store.start l) (full.1.stays.sealed ∙ o.1) in record {
        drawn = refl;
        last = full.2;
        full = λ h c out. (let f = subst (λ (u : State). IsFullFor c u group n.compaction.generation) set
            (full.3 h c out) in record { stands = f.stands; full = f.full; generation_is = f.generation_is });
      }

  pub no_room_made : (p : Progress) (l : List Change) (r : Result (Unit {0}) CommitFault) →
      IfErr r (λ f. Halts disk s n f ⊎ IsUsedUp disk s n group f) →
      IfErr r (HasCause disk (Half s p l half) (Half n batch_drawn group.changes half))
  no_room_made p l (Ok x) h = tt
  no_room_made p l (Err f) (inl h) = inl (halted disk s n f h)
  no_room_made p l (Err f) (inr full) = inr (full.0, lacks (refl, full.1, full.2, full.3), full.1.no_failure)

pub broke_off : {D : Type 0} (disk : Ghosts D) (s n : StoreState D) (group : Group)
    (r : Result (Unit {0}) CommitFault) → IfErr r (λ f. Halts disk s n f ⊎ IsUsedUp disk s n group f) →
    OnErr r (BreaksOff disk s n)
broke_off disk s n group (Ok x) h = tt
broke_off disk s n group (Err f) (inl h) = h.works
broke_off disk s n group (Err f) (inr full) = works_break disk s n full.1.works

pub stayed : {D : Type 0} (disk : Ghosts D) (s n : StoreState D) (group : Group) (f : CommitFault) →
    Halts disk s n f ⊎ IsUsedUp disk s n group f → StaysAt disk s n
stayed disk s n group f (inl h) = h.stays
stayed disk s n group f (inr full) = full.1.stays
