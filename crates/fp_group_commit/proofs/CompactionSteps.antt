-- A step of a compaction, in each of its kinds.
use Rattle.std.proofs.Common.{◌≡◌, ◌≢◌, ◌⊎◌, ◌<◌, ◌≤◌, ◌+◌, ◌-◌, ◌*◌, ◌/◌, ◌^◌, ℕ, false, List, [], ◌∷◌, ◌++◌, length}
use Rattle.std.proofs.Common.{refl, sym, ap, subst, ◌∙◌, inl, inr, arith}
use Rattle.fp_disk.specs.Outcomes.{LeavesOnly}
use Rattle.fp_disk.specs.Moments.{leaves_map}
use Rattle.fp_disk.specs.declared.disk.Disk.{Ghosts}
use Rattle.fp_edit.specs.Edits.{Change}
use Rattle.fp_edit.specs.Flags.{State}
use Rattle.fp_edit.specs.Flags as flags
use Rattle.fp_pending.specs.Following.{Follows}
use Rattle.fp_edit.specs.Log.{after_all}
use Rattle.fp_edit.proofs.Followed.{limit-after_all}
use Rattle.fp_gate.specs.declared.gate.TheConstants.{OPEN}
use Rattle.fp_journal.specs.declared.journal.Phase as journal_phases
use Rattle.fp_journal.specs.declared.journal.Phase.TheVariants.{Failed}
use Rattle.fp_journal.specs.declared.slot.Slot.{Slot}
use Rattle.fp_journal.specs.Chain.{with_length, with_gate}
use Rattle.fp_journal.specs.State.{IsOnWay, JournalState, room}
use Rattle.fp_journal.specs.State as journal
use Rattle.fp_layout.specs.Size.{other_side, slot_of}
use Rattle.fp_slots.specs.declared.places.TheConstants.{VERSION}
use Rattle.fp_recovery.specs.Stands.{TakesBatch, Spells}
use Rattle.fp_slots.specs.State.{HasBegun, IsEarly, SameSlots, SlotsState}
use Rattle.fp_slots.specs.declared.places.TheConstants.{IMAGE_PLACE}
use Rattle.fp_slots.specs.declared.slots.Step.{Step}
use Rattle.fp_slots.specs.declared.slots.Step.TheVariants.{Begin, Close, SyncOpen}
use Rattle.fp_compaction.specs.Batches.{tail_of}
use Rattle.fp_compaction.specs.Sets.{IsKeptIn, IsPlannedFor, LeavesSet}
use Rattle.fp_compaction.specs.Steps.{StartsImage, BreaksOff, HasImageRoom, MayStep, Stays, TakesStep, Turns, next_left, next_step}
use Rattle.fp_group_commit.specs.declared.phase.Phase.TheVariants.{Idle}
use Rattle.fp_group_commit.specs.Calls.{Breaks, Compacts, PlansImage}
use Rattle.fp_group_commit.specs.Inside.{Inside, is_failed, journal_phase, seen}
use Rattle.fp_group_commit.specs.Store.{MayCompact, StoreState, Leaves, sealed_set, coming}
use Rattle.fp_group_commit.specs.Sound.{IsFlight, IsPlan, IsSound}
use Rattle.fp_group_commit.proofs.Steps.{begun_stays, begun_unless, breaks, by_place, early_next, fits_other, goes}
use Rattle.fp_group_commit.proofs.Steps.{is_well, late, leaves_of, most_of, placed_as, placed_turned, room_same, taken}
use Rattle.fp_group_commit.proofs.Steps.{way_at, wide_of}
use Rattle.fp_group_commit.proofs.BatchSteps.{Moved}
use Rattle.fp_group_commit.proofs.Sizes.{halves}

-- ---- a step of a compaction
-- a store whose set has caught up where a compaction begins, as a step may be taken
pub record MayStepOn {D : Type 0} (disk : Ghosts D) (s : Inside D) (set : State) (first : ℕ) (ahead copies : List Change) : Type 0 where
  pub sound : IsSound disk.honest disk.unsynced s set first ahead copies
  pub begin : s.slots.step ≡ Begin → set ≡ sealed_set (seen s)
  pub may : MayCompact (seen s)
  pub well : s.slots.journal.phase ≢ Failed

module _ {D : Type 0} (disk : Ghosts D) {s : Inside D} {set : State} {first : ℕ} {ahead copies : List Change}
    (i : IsSound disk.honest disk.unsynced s set first ahead copies) where
  -- the set has caught up, where no batch is on its way
  pub caught : (later : State) (left : List Change) → after_all later left ≡ after_all set ahead →
      Follows later left → ((s.phase ≡ Idle → ⊥) → left ≡ ahead) →
      IsSound disk.honest disk.unsynced s later first left copies
  caught later left keeps follows still = record {
    set_is = keeps ∙ i.set_is;
    follows = follows;
    going = i.going;
    flight = flight i.flight;
    size = i.size;
    placed = i.placed;
    kept_is = i.kept_is;
    planned = i.planned;
  }
    where
      flight : ((s.phase ≡ Idle) × (s.slots.journal.begun ≡ false)) ⊎ IsFlight s first ahead copies →
          ((s.phase ≡ Idle) × (s.slots.journal.begun ≡ false)) ⊎ IsFlight s first left copies
      flight (inl rest) = inl rest
      flight (inr f) = inr (record {
        on_way = f.on_way;
        none = still f.on_way ∙ f.none;
        copied = f.copied;
        follows = f.follows;
        place = f.place;
        lawful = f.lawful;
        short = f.short;
        takes = f.takes;
        len = f.len;
        fits = f.fits;
        early = f.early;
        ready = f.ready;
        beside = f.beside;
      })

  caught_all : (s.phase ≡ Idle → ahead ≡ []) → set ≡ sealed_set (seen s)
  caught_all done = ap (λ (l : List Change). after_all set l) (sym (none i.flight)) ∙ i.set_is
    where
      none : ((s.phase ≡ Idle) × (s.slots.journal.begun ≡ false)) ⊎ IsFlight s first ahead copies → ahead ≡ []
      none (inl rest) = done rest.0
      none (inr f) = f.none

  pub may_step : MayCompact (seen s) → s.slots.journal.phase ≢ Failed → MayStep s.slots
  may_step may well = record {
    next = may.next;
    still = λ tail way. subst (λ (p : journal_phases.Phase). IsOnWay p)
        (goes s.slots.journal.phase (journal_phase s.phase) well i.going ∙ ap journal_phase (may.still tail)) way;
  }

  pub has_place : set ≡ sealed_set (seen s) → HasImageRoom s.slots set
  has_place is =
      let limit : set.limit ≡ s.store.start.limit = ap (λ (t : State). t.limit) is ∙ limit-after_all s.store.start s.sealed in
      let half = i.placed.half in let least = i.placed.allowed.least in let most = i.placed.allowed.greatest in
      let wide = wide_of i.size (other_side i.placed.side) s.slots.other i.placed.its in
      record {
        least = omega (arith, limit, half, least);
        short = omega (arith, limit, half, most);
        wide =
            omega (arith, limit, half, wide, least);
      }

  module _ (t : SlotsState D) (taken_step : TakesStep disk s.slots t) where
    abbrev Now : Inside D
    Now = Moved s s.phase t

    kept_step : disk.honest t.journal.disk → IsKeptIn (disk.unsynced t.journal.disk) t i.size (sealed_set (seen s))
    kept_step h = let back = taken_step.honest.1 h in taken_step.kept back i.size (sealed_set (seen s)) (i.kept_is back) (late disk i)

    pub step_leaves : disk.honest s.slots.journal.disk →
        LeavesOnly disk.moment disk.crash_states_since s.slots.journal.disk t.journal.disk (Leaves (seen s))
    step_leaves h = leaves_map disk.moment disk.crash_states_since s.slots.journal.disk t.journal.disk
        (LeavesSet s.slots.journal (sealed_set (seen s)) (coming (seen s))) (Leaves (seen s)) (leaves_of disk i)
        (taken_step.stands h i.size (sealed_set (seen s)) (coming (seen s)) (i.kept_is h) (taken disk i) (late disk i))

    module _ (same : SameSlots s.slots t)
        (going : (t.journal.phase ≡ journal_phase s.phase) ⊎ (t.journal.phase ≡ Failed))
        (begun : HasBegun t.step → HasBegun s.slots.step) (early : IsFlight s first ahead copies → IsEarly t.step)
      where
        same_flight : IsFlight s first ahead copies → IsFlight Now first ahead copies
        same_flight f = record {
          on_way = f.on_way;
          none = f.none;
          copied = f.copied;
          follows = f.follows;
          place = f.place;
          lawful = f.lawful;
          short = subst (λ (b : List ℕ). length b ≤ t.journal.slot.most) (sym same.2)
              (subst (λ (x : Slot). length s.slots.journal.staged ≤ x.most) (sym same.0.1) f.short);
          takes = subst (λ (v : ℕ). TakesBatch v (sealed_set (seen s)) t.journal.staged (coming (seen s))) (sym same.5)
              (subst (λ (b : List ℕ). TakesBatch s.slots.version (sealed_set (seen s)) b (coming (seen s)))
              (sym same.2) f.takes);
          len = ap length same.2 ∙ f.len;
          fits = (let left = room_same s.slots.journal t.journal same.0.1 same.0.2 same.1 in
              let l = ap length same.2 in let fits = f.fits in omega (arith, left, l, fits));
          early = early f;
          ready = λ growing. same.9 ∙ f.ready (begun growing.0, f.early) ∙ sym (ap with_gate same.2);
          beside = λ growing. (let fits = f.beside (begun growing.0, f.early) in
              subst (λ (x : Slot). x.start + length (t.text ++ OPEN ∷ with_length t.journal.staged) < x.stop) (sym same.3)
              (subst (λ (x : List ℕ). s.slots.other.start + length (x ++ OPEN ∷ with_length t.journal.staged) <
              s.slots.other.stop) (sym same.7)
              (subst (λ (x : List ℕ). s.slots.other.start + length (s.slots.text ++ OPEN ∷ with_length x) <
              s.slots.other.stop) (sym same.2) fits)));
        }

        same_or : ((s.phase ≡ Idle) × (s.slots.journal.begun ≡ false)) ⊎ IsFlight s first ahead copies →
            ((s.phase ≡ Idle) × (t.journal.begun ≡ false)) ⊎ IsFlight Now first ahead copies
        same_or (inl rest) = inl (rest.0, same.10 ∙ rest.1)
        same_or (inr f) = inr (same_flight f)

        pub sound_same : IsSound disk.honest disk.unsynced Now set first ahead copies
        sound_same = record {
          set_is = i.set_is;
          follows = i.follows;
          going = going;
          flight = same_or i.flight;
          size = i.size;
          placed = placed_as i.size s.store.start.limit s.slots t i.placed same.0.1 same.3;
          kept_is = kept_step;
          planned = λ runs. (let q = i.planned (begun runs) in let head = q.head in let front = q.front in
              let text = ap length same.7 in let at = same.8 in record {
                spells = subst (λ (x : List ℕ). (p : Spells i.size x (sealed_set (seen s))) × (p.version ≡ VERSION)) (sym same.7) q.spells;
                head = omega (arith, head, at);
                front = omega (arith, front, text, at);
              });
        }

    -- as it begins
    module _ (is : set ≡ sealed_set (seen s)) (b : StartsImage (flags.size set.flags) set.limit s.slots t)
        (next : t.step ≡ Close) (planned : (size : ℕ) → set.limit ≡ size / 2 → IsPlannedFor t size set)
        (well : s.slots.journal.phase ≢ Failed) where
      half : set.limit ≡ i.size / 2
      half = ap (λ (x : State). x.limit) is ∙ limit-after_all s.store.start s.sealed ∙ i.placed.half

      plan_now : IsPlan i.size Now
      plan_now = let head = b.head in let short = b.short in let h = half in let text = b.text in record {
        spells = subst (λ (x : State). IsPlannedFor t i.size x) is (planned i.size half);
        head = omega (arith, head, short, h);
        front = omega (arith, text);
      }

      begins_flight : IsFlight s first ahead copies → IsFlight Now first ahead copies
      begins_flight f =
          let staged : t.journal.staged ≡ s.slots.journal.staged = ap (λ (j : JournalState D). j.staged) b.journal in
          let way : IsOnWay s.slots.journal.phase =
          subst (λ (p : journal_phases.Phase). IsOnWay p)
          (sym (goes s.slots.journal.phase (journal_phase s.phase) well i.going)) (way_at s.phase f.on_way) in
          record {
            on_way = f.on_way;
            none = f.none;
            copied = f.copied;
            follows = f.follows;
            place = f.place;
            lawful = f.lawful;
            short = subst (λ (j : JournalState D). length j.staged ≤ j.slot.most) (sym b.journal) f.short;
            takes = subst (λ (v : ℕ). TakesBatch v (sealed_set (seen s)) t.journal.staged (coming (seen s)))
                (sym b.version) (subst (λ (l : List ℕ). TakesBatch s.slots.version (sealed_set (seen s)) l
                (coming (seen s))) (sym staged) f.takes);
            len = ap length staged ∙ f.len;
            fits = subst (λ (j : JournalState D). length j.staged + 6 ≤ room j) (sym b.journal) f.fits;
            early = subst (λ (x : Step). IsEarly x) (sym next) tt;
            ready = λ growing. b.ready way ∙ sym (ap with_gate staged);
            beside = λ growing. (let its : t.other ≡ slot_of i.size (other_side i.placed.side) = b.other ∙ i.placed.its in
                let most = most_of i.size i.placed.side s.slots.journal.slot i.placed.mine in let short = f.short in
                let l = ap length staged in
                let large = i.placed.allowed.least in let text = b.text in let head = plan_now.head in
                fits_other i.size (other_side i.placed.side) t.other t.text t.journal.staged its large
                (omega (arith, most, short, l, large, text, head)));
          }

      begins_or : ((s.phase ≡ Idle) × (s.slots.journal.begun ≡ false)) ⊎ IsFlight s first ahead copies →
          ((s.phase ≡ Idle) × (t.journal.begun ≡ false)) ⊎ IsFlight Now first ahead copies
      begins_or (inl rest) = inl (rest.0, ap (λ (j : JournalState D). j.begun) b.journal ∙ rest.1)
      begins_or (inr f) = inr (begins_flight f)

      pub sound_begun : IsSound disk.honest disk.unsynced Now set first ahead copies
      sound_begun = record {
        set_is = i.set_is;
        follows = i.follows;
        going = subst (λ (j : JournalState D). (j.phase ≡ journal_phase s.phase) ⊎ (j.phase ≡ Failed)) (sym b.journal) i.going;
        flight = begins_or i.flight;
        size = i.size;
        placed = placed_as i.size s.store.start.limit s.slots t i.placed (ap (λ (j : JournalState D). j.slot) b.journal) b.other;
        kept_is = kept_step;
        planned = λ runs. plan_now;
      }

    -- as the slots are turned
    pub sound_turned : s.slots.step ≡ SyncOpen → Turns s.slots t → t.step ≡ Begin →
        IsSound disk.honest disk.unsynced Now set first ahead copies
    sound_turned at turn next =
        let rest = at_rest i.flight in record {
          set_is = i.set_is;
          follows = i.follows;
          going = inl (turn.phase ∙ sym (ap journal_phase rest));
          flight = inl (rest, turn.begun);
          size = i.size;
          placed = placed_turned i.size s.store.start.limit s.slots t i.placed turn.mine turn.its;
          kept_is = kept_step;
          planned = λ runs. absurd (subst (λ (x : Step). HasBegun x) next runs);
        }
      where
        at_rest : ((s.phase ≡ Idle) × (s.slots.journal.begun ≡ false)) ⊎ IsFlight s first ahead copies → s.phase ≡ Idle
        at_rest (inl r) = r.0
        at_rest (inr f) = absurd (subst (λ (x : Step). IsEarly x) at f.early)

  -- ---- a step was taken, whichever it was
  module _ (t : SlotsState D) (taken_step : TakesStep disk s.slots t) (k : MayStepOn disk s set first ahead copies)
      (order : t.step ≡ next_step s.slots.step s.slots.left)
      (begun : s.slots.step ≡ Begin → StartsImage (flags.size set.flags) set.limit s.slots t)
      (planned : s.slots.step ≡ Begin → (size : ℕ) → set.limit ≡ size / 2 → IsPlannedFor t size set)
      (stays : s.slots.step ≢ Begin → s.slots.step ≢ SyncOpen → Stays s.slots t) (turned : s.slots.step ≡ SyncOpen → Turns s.slots t) where
    abbrev pub Then : Inside D
    Then = Moved s s.phase t

    phase_is : s.slots.journal.phase ≡ journal_phase s.phase
    phase_is = goes s.slots.journal.phase (journal_phase s.phase) k.well i.going

    early_then : IsFlight s first ahead copies → IsEarly t.step
    early_then f = subst (λ (x : Step). IsEarly x) (sym order)
        (early_next s.slots.step s.slots.left f.early (λ tail. f.on_way (k.may.still tail)))

    by_stays : Stays s.slots t → HasBegun s.slots.step → IsSound disk.honest disk.unsynced Then set first ahead copies
    by_stays st runs = sound_same t taken_step st.slots (inl (st.phase ∙ phase_is)) (λ later. runs) early_then

    sound_between : s.slots.step ≢ Begin → s.slots.step ≢ SyncOpen → IsSound disk.honest disk.unsynced Then set first ahead copies
    sound_between off on = by_stays (stays off on) (begun_unless s.slots.step off)

    sound_begin : s.slots.step ≡ Begin → IsSound disk.honest disk.unsynced Then set first ahead copies
    sound_begin at = sound_begun t taken_step (k.begin at) (begun at)
        (order ∙ ap (λ (x : Step). next_step x s.slots.left) at) (planned at) k.well

    sound_end : s.slots.step ≡ SyncOpen → IsSound disk.honest disk.unsynced Then set first ahead copies
    sound_end at = sound_turned t taken_step at (turned at) (order ∙ ap (λ (x : Step). next_step x s.slots.left) at)

    pub sound_taken : IsSound disk.honest disk.unsynced Then set first ahead copies
    sound_taken = by_place s.slots.step _ sound_begin sound_between sound_end

    -- ---- phase, room, and what a crash leaves
    phase_now : t.journal.phase ≡ s.slots.journal.phase
    phase_now = by_place s.slots.step _
        (λ at. ap (λ (j : JournalState D). j.phase) (begun at).journal)
        (λ off on. (stays off on).phase)
        (λ at. let turn = turned at in turn.phase ∙ sym turn.still)

    most_now : t.journal.slot.most ≡ s.slots.journal.slot.most
    most_now = by_place s.slots.step _
        (λ at. ap (λ (j : JournalState D). j.slot.most) (begun at).journal)
        (λ off on. ap (λ (x : Slot). x.most) (stays off on).slots.0.1)
        (λ at. ap (λ (x : Slot). x.most) (turned at).mine ∙
        most_of i.size (other_side i.placed.side) s.slots.other i.placed.its ∙
        sym (most_of i.size i.placed.side s.slots.journal.slot i.placed.mine))

    room_now : s.slots.step ≢ SyncOpen → room t.journal ≡ room s.slots.journal
    room_now on = by_place s.slots.step _
        (λ at. ap room (begun at).journal)
        (λ off on. let same = (stays off on).slots in room_same s.slots.journal t.journal same.0.1 same.0.2 same.1)
        (λ at. absurd (on at))

    pub begun_now : journal.has_begun t.journal.phase t.journal.begun ≡ journal.has_begun s.slots.journal.phase s.slots.journal.begun
    begun_now = by_place s.slots.step _
        (λ at. ap (λ (j : JournalState D). journal.has_begun j.phase j.begun) (begun at).journal)
        (λ off on. ap (λ (p : journal_phases.Phase). journal.has_begun p t.journal.begun) (stays off on).phase ∙
        ap (journal.has_begun s.slots.journal.phase) (stays off on).slots.10)
        (λ at. let turn = turned at in
        ap (λ (p : journal_phases.Phase). journal.has_begun p t.journal.begun) turn.phase ∙
        sym (ap (λ (p : journal_phases.Phase). journal.has_begun p s.slots.journal.begun) turn.still))

    pub leaves_then : (c : List ℕ) → Leaves (seen s) c → Leaves (seen Then) c
    leaves_then c (inl stands) = inl stands
    leaves_then c (inr both) = inr (both.0, begun_now ∙ both.1, both.2)

    slots_now : s.slots.step ≢ SyncOpen → (t.other ≡ s.slots.other) × (t.generation ≡ s.slots.generation) ×
        (t.version ≡ s.slots.version) × (t.may_open ≡ s.slots.may_open)
    slots_now on = by_place s.slots.step _
        (λ at. ((begun at).other, (begun at).generation, (begun at).version, (begun at).may_open))
        (λ off on. let same = (stays off on).slots in (same.3, same.4, same.5, same.6))
        (λ at. absurd (on at))

    tail_now : s.slots.step ≢ Begin → s.slots.step ≢ SyncOpen → tail_of t ≡ tail_of s.slots
    tail_now off on = let same = (stays off on).slots in let text = ap length same.7 in let head = same.8 in omega (arith, text, head)

    head_now : s.slots.step ≢ Begin → s.slots.step ≢ SyncOpen → t.head ≡ s.slots.head
    head_now off on = (stays off on).slots.8

    -- what the slot that was turned to has, but for head, image and tail
    gained_now : s.slots.step ≡ SyncOpen → room t.journal ≡ 2 * s.store.start.limit - (s.slots.head + tail_of s.slots)
    gained_now at =
        let room = (turned at).room in let wide = wide_of i.size (other_side i.placed.side) s.slots.other i.placed.its in
        let front = (i.planned (begun_unless s.slots.step (λ e. let both : Begin ≡ SyncOpen = sym e ∙ at in absurd (cc both)))).front in
        let half = i.placed.half in let even = halves i.size i.placed.allowed in
        omega (arith, room, wide, front, half, even)

    plans_now : s.slots.step ≡ Begin → PlansImage (seen s) (seen Then)
    plans_now at =
        let b = begun at in let text = b.text in let short = b.short in let own : set ≡ sealed_set (seen s) = k.begin at in
        let limit : set.limit ≡ s.store.start.limit = ap (λ (x : State). x.limit) own ∙ limit-after_all s.store.start s.sealed in
        let sizes : flags.size set.flags ≡ flags.size (sealed_set (seen s)).flags = ap (λ (x : State). flags.size x.flags) own in
        record {
          head = b.head ∙ ap (λ (n : ℕ). IMAGE_PLACE + n) sizes;
          small = omega (arith, short, limit, sizes);
          left = b.left;
          tail = omega (arith, text);
        }

    pub compacts : (faults : D → ℕ) → faults t.journal.disk ≡ faults s.slots.journal.disk →
        (s.slots.step ≢ Begin → t.left ≡ next_left s.slots.step s.slots.left) → t.generation < 2 ^ 64 →
        Compacts faults (seen s) (seen Then)
    compacts faults no_failure left numbered = record {
      next = order;
      left = left;
      well_before = is_well s.slots.journal.phase k.well;
      well_now = ap is_failed phase_now ∙ is_well s.slots.journal.phase k.well;
      no_failure = no_failure;
      most = most_now;
      begun = plans_now;
      head_stays = head_now;
      tail_stays = tail_now;
      numbered = numbered;
      slots_stay = slots_now;
      slots_turn = λ at. ((turned at).its, (turned at).generation, (turned at).version, (turned at).may_open);
      room_stays = room_now;
      room_gained = gained_now;
    }

  -- ---- the device failed in a step
  module _ (t : SlotsState D) (taken_step : TakesStep disk s.slots t) (order : t.step ≡ s.slots.step)
      (off : BreaksOff disk.faults s.slots t) where
    pub sound_broken : IsSound disk.honest disk.unsynced (Moved s s.phase t) set first ahead copies
    sound_broken = sound_same t taken_step off.slots (inr off.failed)
        (λ runs. subst (λ (x : Step). HasBegun x) order runs)
        (λ f. subst (λ (x : Step). IsEarly x) (sym order) f.early)

    pub begun_broken : journal.has_begun s.slots.journal.phase s.slots.journal.begun ≡ s.slots.journal.begun →
        journal.has_begun t.journal.phase t.journal.begun ≡ journal.has_begun s.slots.journal.phase
        s.slots.journal.begun
    begun_broken told = begun_stays s.slots.journal.phase t.journal.phase s.slots.journal.begun t.journal.begun told off.slots.10 off.failed

    pub leaves_broken : journal.has_begun s.slots.journal.phase s.slots.journal.begun ≡ s.slots.journal.begun →
        (c : List ℕ) → Leaves (seen s) c → Leaves (seen (Moved s s.phase t)) c
    leaves_broken told c (inl stands) = inl stands
    leaves_broken told c (inr both) = inr (both.0, begun_broken told ∙ both.1, both.2)

    pub breaks_step : (left : t.left ≡ s.slots.left) → s.slots.journal.phase ≢ Failed →
        Breaks disk.faults (seen s) (seen (Moved s s.phase t))
    breaks_step left well = breaks disk.faults s (Moved s s.phase t) well off.failed off.cause refl
        (off.slots.0, off.slots.3, off.slots.4, off.slots.5, off.slots.6, order, off.slots.7, off.slots.8, left) off.slots.1

-- the set is made to catch up first
pub caught_up : {D : Type 0} (disk : Ghosts D) {s : Inside D} {v : StoreState D} {set : State} {first : ℕ}
    {ahead copies : List Change} → IsSound disk.honest disk.unsynced s set first ahead copies → seen s ≡ v →
    MayCompact v → s.slots.journal.phase ≢ Failed
    → (later : State) (left : List Change) → after_all later left ≡ after_all set ahead → Follows later left →
    ((s.phase ≡ Idle → ⊥) → left ≡ ahead) → (s.slots.step ≡ Begin → s.phase ≡ Idle → left ≡ []) →
    MayStepOn disk s later first left copies
caught_up {D} disk i view may well later left keeps follows still done =
    let now = caught disk i later left keeps follows still in
    record {
      sound = now;
      begin = λ at. caught_all disk now (done at);
      may =
          subst (λ (k : StoreState D). MayCompact k) (sym view) may;
      well = well;
    }
