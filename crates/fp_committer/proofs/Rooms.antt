-- A store over the steps of compactions, and how few of them are left.
use Rattle.std.proofs.Common.{◌≡◌, ◌≢◌, ◌<◌, ◌≤◌, ◌+◌, ◌-◌, ◌*◌, ◌^◌, ℕ, true, false, [], ◌∷◌, ◌++◌, refl, sym, ap}
use Rattle.std.proofs.Common.{subst, ◌∙◌, inl, inr, arith, append-nil}
use Rattle.std.specs.Prelude.{◌↔◌, Bool, IsTrue, length, nat_le, nat_lt}
use borrow.Author.Tests.{leb-true, leb-false}
use Rattle.fp_disk.specs.Crashes.{AtAnyMoment, EachCrash, SameHonesty}
use Rattle.fp_disk.specs.History.{MakesSome}
use Rattle.fp_disk.specs.declared.disk.Disk.{Ghosts}
use Rattle.fp_edit.specs.Flags.{State}
use Rattle.fp_edit.specs.Log.{after_all}
use Rattle.fp_group_commit.specs.declared.phase.Phase.TheVariants.{Idle}
use Rattle.fp_record.specs.Encoding.{batch_len}
use Rattle.fp_record.specs.Group.{Group}
use Rattle.fp_recovery.specs.Stands.{StandsFor}
use Rattle.fp_slots.specs.State.{HasBegun, IsEarly}
use Rattle.fp_slots.specs.declared.places.TheConstants.{IMAGE_PLACE}
use Rattle.fp_slots.specs.declared.slots.Step.{Step}
use Rattle.fp_slots.specs.declared.slots.Step.TheVariants.{Begin, Close, SyncClose, Part, Tail, SyncBody, Open, SyncOpen}
use Rattle.fp_compaction.specs.Steps.{calls_of, next_step}
use Rattle.fp_group_commit.specs.Calls.{Compacts}
use Rattle.fp_group_commit.specs.Changes.{HasNoRoom, HasRoom}
use Rattle.fp_group_commit.specs.Store.{Leaves, MayCompact, StoreState, sealed_set}
use Rattle.fp_group_commit.specs.Tokens.{Identity}
use Rattle.fp_committer.specs.Room.{Halts, Proceeds, StaysAt}
use Rattle.fp_committer.specs.Works.{BreaksOff, Works, compaction_step}
use Rattle.fp_committer.specs.WorksLaws.{breaks_on, works_on}
use Rattle.fp_committer.specs.declared.fault.CommitFault.{CommitFault}
use Rattle.fp_committer.proofs.Moments.{honest_on, idle_keeps, next_moment, weaker}

-- ---- steps
module _ {D : Type 0} (disk : Ghosts D) where
  pub kept_as : (a b : StoreState D) → b.store ≡ a.store → b.sealed ≡ a.sealed → sealed_set b ≡ sealed_set a
  kept_as a b store sealed = ap (λ (x : Identity). after_all x.start b.sealed) store ∙ ap (λ l. after_all a.store.start l) sealed

  -- a call that leaves what a store at rest leaves
  pub stays_at : (a b : StoreState D) → b.store ≡ a.store → b.sealed ≡ a.sealed → b.staged ≡ a.staged → b.phase ≡ a.phase → a.phase ≡ Idle
      → AtAnyMoment disk a.disk b.disk (Leaves a) → EachCrash disk b.disk (Leaves b) → SameHonesty disk a.disk b.disk → StaysAt disk a b
  stays_at a b store sealed staged step idle moment exit same = record {
    store = store;
    sealed = sealed;
    staged = staged;
    phase = step;
    any_moment = weaker disk a.disk b.disk (Leaves a) (λ c. StandsFor c (sealed_set a)) (idle_keeps a idle) moment;
    now = λ h c o. idle_keeps b (step ∙ idle) c (exit h c o);
    honest = same;
  }

  pub stays_then : (a b c : StoreState D) → StaysAt disk a b → StaysAt disk b c → StaysAt disk a c
  stays_then a b c h k =
      let same : sealed_set b ≡ sealed_set a = kept_as a b h.store h.sealed in record {
        store = k.store ∙ h.store;
        sealed = k.sealed ∙ h.sealed;
        staged = k.staged ∙ h.staged;
        phase = k.phase ∙ h.phase;
        any_moment = next_moment disk a.disk b.disk c.disk (λ o. StandsFor o (sealed_set a)) h.honest h.any_moment
            (weaker disk b.disk c.disk (λ o. StandsFor o (sealed_set b)) (λ o. StandsFor o (sealed_set a))
            (λ o stands. subst (λ (s : State). StandsFor o s) same stands) k.any_moment);
        now = k.now;
        honest = honest_on disk a.disk b.disk c.disk h.honest k.honest;
      }

  pub proceeds_then : (a b c : StoreState D) → Proceeds disk a b → Proceeds disk b c → Proceeds disk a c
  proceeds_then a b c h k = record {
    stays = stays_then a b c h.stays k.stays;
    well = k.well;
    no_failure = k.no_failure ∙ h.no_failure;
    works = works_on disk a b c h.works k.works;
  }

  pub halts_then : (a b c : StoreState D) (f : CommitFault) → Proceeds disk a b → Halts disk b c f → Halts disk a c f
  halts_then a b c f h k = record {
    stays = stays_then a b c h.stays k.stays;
    works = breaks_on disk a b c h.works k.works;
    cause = λ is. (let more = (k.cause is).1 in let same = h.no_failure in ((k.cause is).0, omega (arith, more, same)));
    memory = λ is. ((k.memory is).0, (k.memory is).1 ∙ h.no_failure);
  }

  -- one step
  pub works_step : (a b : StoreState D) → b.compaction.next ≡ next_step a.compaction.next a.compaction.left
      → disk.calls b.disk ≡ disk.calls a.disk ++ calls_of a.compaction.next a.may_open → Works disk a b
  works_step a b next calls = record {
    works = compaction_step a.compaction.next a.may_open ∷ [];
    lead = (refl, a.compaction.left, next);
    calls = calls ∙ ap (λ l. disk.calls a.disk ++ l) (sym (append-nil (calls_of a.compaction.next a.may_open)));
  }

  -- and one that broke off
  pub breaks_step : (a b : StoreState D) →
      MakesSome (calls_of a.compaction.next a.may_open) (disk.calls a.disk) (disk.calls b.disk) → BreaksOff disk a b
  breaks_step a b calls = record {
    works = [];
    next = a.compaction.next;
    last = compaction_step a.compaction.next a.may_open;
    lead = refl;
    may = refl;
    calls = subst (λ l. MakesSome (calls_of a.compaction.next a.may_open) l (disk.calls b.disk))
        (sym (append-nil (disk.calls a.disk))) calls;
  }

-- where there was room none was taken
pub none_then : {D : Type 0} (P : StoreState D → Type 0) (said : Bool) (a b c : StoreState D) → (P a → b ≡ a) → (IsTrue said ↔ P b) →
    said ≡ false → P a → c ≡ a
none_then P said a b c same says not there =
    let both : false ≡ true = sym not ∙ says.1 (subst P (sym (same there)) there) in absurd cc

-- ---- how many are left
-- before none runs again, at most: a new one writes so many bytes of head and image
abbrev pub steps_left : Step → ℕ → ℕ → ℕ
steps_left Begin left most = most + 8
steps_left Close left most = left + 7
steps_left SyncClose left most = left + 6
steps_left Part left most = left + 5
steps_left Tail left most = 4
steps_left SyncBody left most = 3
steps_left Open left most = 2
steps_left SyncOpen left most = 1

-- and before the last generation is used up
abbrev pub work_left : {D : Type 0} → StoreState D → ℕ
work_left s = (2 ^ 64 - s.compaction.generation) * (IMAGE_PLACE + s.store.start.limit + 9)
    + steps_left s.compaction.next s.compaction.left (IMAGE_PLACE + s.store.start.limit)

-- ---- how many compactions ended
-- where one ran it runs still, or it came to its end
pub record RanOn {D : Type 0} (a b : StoreState D) : Type 0 where
  pub none : a.compaction.next ≡ Begin → b ≡ a
  pub runs : a.compaction.next ≢ Begin → b.compaction.next ≢ Begin → b.compaction.generation ≡ a.compaction.generation
  pub ended : a.compaction.next ≢ Begin → b.compaction.next ≡ Begin → b.compaction.generation ≡ a.compaction.generation + 1

ran_by : (p : Step) (left g h k : ℕ) → p ≢ Begin → (p ≢ SyncOpen → h ≡ g) → (p ≡ SyncOpen → h ≡ g + 1) → g ≡ k
    → (next_step p left ≢ Begin → h ≡ k) × (next_step p left ≡ Begin → h ≡ k + 1)
ran_by p left g h k on stays turned same = grind arith

pub ran_then : {D : Type 0} (faults : D → ℕ) (a b c : StoreState D) → RanOn a b → b.compaction.next ≢ Begin →
    Compacts faults b c → RanOn a c
ran_then faults a b c ran on step =
    let begins = λ (at : a.compaction.next ≡ Begin). on (ap (λ (s : StoreState _). s.compaction.next) (ran.none at) ∙ at) in
    let by = λ (runs : a.compaction.next ≢ Begin).
    ran_by b.compaction.next b.compaction.left b.compaction.generation c.compaction.generation
    a.compaction.generation on (λ not. (step.slots_stay not).1) (λ at. (step.slots_turn at).1) (ran.runs runs on) in record {
      none = λ at. absurd (begins at);
      runs = λ runs more. (by runs).0 (λ at. more (step.next ∙ at));
      ended = λ runs at. (by runs).1 (sym step.next ∙ at);
    }

-- ---- where a step may not be taken
-- none runs, and no generation is left
pub used_up : {D : Type 0} (s : StoreState D) → s.phase ≡ Idle → (MayCompact s → ⊥) → (s.compaction.next ≡ Begin) ×
    (2 ^ 64 ≤ s.compaction.generation + 1)
used_up s idle never = (begins, large)
  where
    nothing_else : (p : Step) → ((p ≡ Begin → ⊥) → ⊥) → p ≡ Begin
    nothing_else p not = grind arith

    begins : s.compaction.next ≡ Begin
    begins = nothing_else s.compaction.next (λ not. never (record { next = λ b. absurd (not b); still = λ t. idle }))

    large : 2 ^ 64 ≤ s.compaction.generation + 1
    large = elim (nat_lt (s.compaction.generation + 1) (2 ^ 64)) as
        (λ t. nat_lt (s.compaction.generation + 1) (2 ^ 64) ≡ t → 2 ^ 64 ≤ s.compaction.generation + 1) [
          | true ↦ λ e. absurd (never (record { next = λ _. leb-true _ _ e; still = λ t. idle }))
          | false ↦ λ e. (let no = leb-false _ _ e in omega (arith, no))
        ] refl

-- there is no room, though none runs
pub no_room : {D : Type 0} (s : StoreState D) (group : Group) (b : Bool) → (IsTrue b ↔ HasRoom s group) → b ≡ false →
    s.compaction.next ≡ Begin → 0 < length group.changes → length group.changes ≤ 64 → HasNoRoom s group
no_room s group b says not begins some few =
    elim (nat_le (batch_len group) s.most) as (λ t. nat_le (batch_len group) s.most ≡ t → HasNoRoom s group) [
      | false ↦ λ e. inl (leb-false _ _ e)
      | true ↦ λ e. elim (nat_le (batch_len group + 6) s.room) as (λ t. nat_le (batch_len group + 6) s.room ≡ t → HasNoRoom s group) [
        | false ↦ λ f. let narrow = leb-false _ _ f in inr (inl (omega (arith, narrow)))
        | true ↦ λ f. inr (inr (λ allowed.
            let both : false ≡ true = sym not ∙
            says.1 (record {
              some = some;
              few = few;
              short = leb-true _ _ e;
              fits = leb-true _ _ f;
              early =
                  subst (λ (x : Step). IsEarly x) (sym begins) tt;
              tail =
                  λ runs. absurd (subst (λ (x : Step). HasBegun x) begins runs);
              allowed = allowed;
            }) in absurd cc))
      ] refl
    ] refl
