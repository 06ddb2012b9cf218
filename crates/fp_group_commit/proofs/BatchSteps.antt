-- A batch that goes on its way, or breaks off, from call to call; and the calls, by what the slots answer.
use Rattle.std.proofs.Common.{◌≡◌, ◌≢◌, ◌⊎◌, ◌<◌, ◌≤◌, ◌+◌, ℕ, Bool, false, List, [], ◌∷◌, ◌++◌, length, refl, sym, ap}
use Rattle.std.proofs.Common.{subst, ◌∙◌, inl, inr, arith, length-append, true}
use Rattle.fp_disk.specs.Outcomes.{IsOutcome, LeavesOnly}
use Rattle.fp_edit.specs.Edits.{Change}
use Rattle.fp_edit.specs.Flags.{State}
use Rattle.fp_pending.specs.Following.{Follows}
use Rattle.fp_edit.specs.Log.{after_all}
use Rattle.fp_edit.proofs.Followed.{after-append}
use Rattle.fp_edit.proofs.Runs.{revision-after_all}
use Rattle.fp_gate.specs.declared.gate.TheConstants.{OPEN}
use Rattle.fp_journal.specs.declared.journal.Phase as journal_phases
use Rattle.fp_journal.specs.declared.journal.Phase.TheVariants as at
use Rattle.fp_journal.specs.declared.journal.Phase.TheVariants.{Failed}
use Rattle.fp_journal.specs.declared.slot.Slot.{Slot}
use Rattle.fp_journal.specs.Chain.{with_length, spell, with_gate}
use Rattle.fp_journal.specs.State.{JournalState, room}
use Rattle.fp_journal.proofs.Gates.{text-more}
use Rattle.fp_layout.specs.Size.{other_side, slot_of}
use Rattle.fp_record.specs.Group.{Group}
use Rattle.fp_record.specs.WellFormed.{IsBatch}
use Rattle.fp_record.specs.Encoding.{encoding_of_batch}
use Rattle.std.specs.List.{AllByRecursion}
use Rattle.fp_slots.specs.declared.places.TheConstants.{VERSION}
use Rattle.fp_recovery.specs.Stands.{IsAllowed, TakesBatch, Leads, Spells, StandsFor}
use Rattle.fp_slots.specs.State.{HasBegun, IsEarly, IsGrowing, SlotsState, SamePlan}
use Rattle.fp_slots.specs.declared.slots.Step.{Step}
use Rattle.fp_compaction.specs.Batches.{HasRoomFor, tail_of, LeavesNext, LeavesSealed, KeepsNext, PlansNext}
use Rattle.fp_compaction.specs.Sets.{IsKeptIn, IsPlaced, IsPlannedFor}
use Rattle.fp_group_commit.proofs.Fronts.{leads_all}
use Rattle.fp_group_commit.specs.declared.fault.StoreFault.{StoreFault}
use Rattle.fp_group_commit.specs.declared.fault.StoreFault.TheVariants as fault
use Rattle.fp_record.specs.Encoding.{batch_len}
use Rattle.fp_group_commit.specs.Changes.{GoesOn}
use Rattle.fp_group_commit.specs.declared.phase.Phase.{Phase}
use Rattle.fp_group_commit.specs.declared.phase.Phase.TheVariants.{Idle, Staged}
use Rattle.fp_group_commit.specs.Calls.{Breaks, IsStrange, RefusesBy, SameRoom, CallsDisk, MovesOn}
use Rattle.fp_group_commit.specs.Tokens.{Identity, ReceiptState, IsReceipt}
use Rattle.fp_group_commit.specs.Inside.{Inside, is_failed, journal_phase, seen}
use Rattle.fp_group_commit.specs.Store.{StoreState, is_opened, sealed_set, coming, Leaves}
use Rattle.fp_group_commit.specs.Sound.{IsFlight, IsPlan, IsSound}
use Rattle.fp_group_commit.proofs.Steps.{SameBeside, breaks, fits_other, placed_as, room_same, same_room, wide_of}
use Rattle.fp_group_commit.proofs.Steps.{beside_of, beside_plan, beside_then, begun_shut, exit_has, goes, idle_or}
use Rattle.fp_group_commit.proofs.Steps.{is_well, kept_on, kept_plan_now, makes_all, next_leaves, not_idle, open_leaves}
use Rattle.fp_group_commit.proofs.Steps.{sealed_leaves, leads, well_at}
use Rattle.std.specs.Prelude.{Result, Ok, Err}
use Rattle.fp_disk.specs.Crashes.{AtAnyMoment, SameHonesty}
use Rattle.fp_disk.specs.History.{Makes}
use Rattle.fp_disk.specs.Moments.{leaves_map}
use Rattle.fp_disk.specs.declared.disk.Disk.{Ghosts}
use Rattle.fp_disk.specs.declared.disk.DiskFault.{DiskFault}
use Rattle.fp_disk.specs.declared.history.CallKind.{CallKind}
use Rattle.fp_compaction.specs.Calls.{MakesCall, MovesBatch}

-- a store at this phase, over these slots
abbrev pub Moved : {D : Type 0} → Inside D → Phase → SlotsState D → Inside D
Moved s p t = record { store = s.store; sealed = s.sealed; staged = s.staged; phase = p; slots = t }

-- ---- a batch goes on its way, or the device fails
module _ {D : Type 0} (disk : Ghosts D) {s : Inside D} {set : State} {first : ℕ} {ahead copies : List Change}
    (i : IsSound disk.honest disk.unsynced s set first ahead copies) where
  module _ (p : Phase) (t : SlotsState D) (same : SameBeside s.slots t)
      (bodies : t.journal.sealed ≡ s.slots.journal.sealed)
      (kept_is : disk.honest t.journal.disk → IsKeptIn (disk.unsynced t.journal.disk) t i.size (sealed_set (seen s)))
    where
      plan_as : HasBegun t.step → IsPlan i.size (Moved s p t)
      plan_as begun = let q = i.planned (subst (λ (x : Step). HasBegun x) same.5 begun) in let head = q.head in
          let front = q.front in let text = ap length same.6 in let at = same.7 in record {
            spells = subst (λ (x : List ℕ). (p : Spells i.size x (sealed_set (seen s))) × (p.version ≡ VERSION)) (sym same.6) q.spells;
            head = omega (arith, head, at);
            front = omega (arith, front, text, at);
          }

      pub flight_as : IsFlight s first ahead copies → p ≢ Idle → t.journal.staged ≡ s.slots.journal.staged →
          t.coming ≡ s.slots.coming → IsFlight (Moved s p t) first ahead copies
      flight_as f way staged coming_same = record {
        on_way = way;
        none = f.none;
        copied = f.copied;
        follows = f.follows;
        place = f.place;
        lawful = f.lawful;
        short = subst (λ (b : List ℕ). length b ≤ t.journal.slot.most) (sym staged)
            (subst (λ (x : Slot). length s.slots.journal.staged ≤ x.most) (sym same.0.1) f.short);
        takes = subst (λ (v : ℕ). TakesBatch v (sealed_set (seen s)) t.journal.staged (coming (seen s))) (sym same.3)
            (subst (λ (b : List ℕ). TakesBatch s.slots.version (sealed_set (seen s)) b (coming (seen s))) (sym staged)
            f.takes);
        len = ap length staged ∙ f.len;
        fits = (let left = room_same s.slots.journal t.journal same.0.1 same.0.2 bodies in let l = ap length staged in
            let fits = f.fits in omega (arith, left, l, fits));
        early = subst (λ (x : Step). IsEarly x) (sym same.5) f.early;
        ready = λ growing. coming_same ∙ f.ready (subst (λ (x : Step). IsGrowing x) same.5 growing) ∙ sym (ap with_gate staged);
        beside = λ growing. (let fits = f.beside (subst (λ (x : Step). IsGrowing x) same.5 growing) in
            subst (λ (x : Slot). x.start + length (t.text ++ OPEN ∷ with_length t.journal.staged) < x.stop) (sym same.1)
            (subst (λ (x : List ℕ). s.slots.other.start + length (x ++ OPEN ∷ with_length t.journal.staged) <
            s.slots.other.stop) (sym same.6)
            (subst (λ (x : List ℕ). s.slots.other.start + length (s.slots.text ++ OPEN ∷ with_length x) <
            s.slots.other.stop) (sym staged) fits)));
      }

      pub sound_moved : IsFlight s first ahead copies → p ≢ Idle → t.journal.staged ≡ s.slots.journal.staged →
          t.coming ≡ s.slots.coming → (t.journal.phase ≡ journal_phase p) ⊎ (t.journal.phase ≡ Failed) →
          IsSound disk.honest disk.unsynced (Moved s p t) set first ahead copies
      sound_moved f way staged coming_same going = record {
        set_is = i.set_is;
        follows = i.follows;
        going = going;
        flight = inr (flight_as f way staged coming_same);
        size = i.size;
        placed = placed_as i.size s.store.start.limit s.slots t i.placed same.0.1 same.1;
        kept_is = kept_is;
        planned = plan_as;
      }

      -- the set has caught up, and nothing is on its way
      pub sound_at_rest : p ≡ Idle → t.journal.begun ≡ false → (later : State) (left : List Change) →
          after_all later left ≡ after_all set ahead → Follows later left →
          (t.journal.phase ≡ journal_phase p) ⊎ (t.journal.phase ≡ Failed) →
          IsSound disk.honest disk.unsynced (Moved s p t) later first left copies
      sound_at_rest idle begun later left keeps follows going = record {
        set_is = keeps ∙ i.set_is;
        follows = follows;
        going = going;
        flight = inl (idle, begun);
        size = i.size;
        placed = placed_as i.size s.store.start.limit s.slots t i.placed same.0.1 same.1;
        kept_is = kept_is;
        planned = plan_as;
      }

      -- the batch is staged
      abbrev pub StagedNow : Group → Inside D
      StagedNow group = record { store = s.store; sealed = s.sealed; staged = group.changes; phase = Staged; slots = t }

      pub sound_staged : (group : Group) (later : State) (left twice : List Change) →
          after_all later left ≡ after_all set ahead → Follows later left → left ≡ [] → twice ≡ group.changes →
          GoesOn (after_all set ahead) group → IsBatch group
          → t.journal.staged ≡ encoding_of_batch group → length t.journal.staged ≡ batch_len group →
          HasRoomFor s.slots (batch_len group) → AllByRecursion (IsAllowed s.slots.version) group.changes →
          (IsGrowing t.step → t.coming ≡ with_gate t.journal.staged) → t.journal.phase ≡ at.Staged
          → IsSound disk.honest disk.unsynced (StagedNow group) later group.first left twice
      sound_staged group later left twice keeps follows none copied on lawful spelled len has allowed ready phase =
          let place : group.first ≡ (sealed_set (seen s)).revision + 1 = on.0 ∙ ap (λ (x : State). x.revision + 1) i.set_is in
          let goes_on : Follows (sealed_set (seen s)) group.changes = subst (λ (x : State). Follows x group.changes) i.set_is on.1 in
          let left_room = room_same s.slots.journal t.journal same.0.1 same.0.2 bodies in let short = has.short in
          let wide = has.fits in let most = ap (λ (x : Slot). x.most) same.0.1 in
          record {
            set_is = keeps ∙ i.set_is;
            follows = follows;
            going = inl phase;
            flight = inr (record {
              on_way = λ (e : Staged ≡ Idle). absurd (cc e);
              none = none;
              copied = copied;
              follows = goes_on;
              place = place;
              lawful = lawful;
              short = omega (arith, len, short, most);
              takes = record {
                group = group;
                lawful = lawful;
                allowed = subst (λ (v : ℕ). AllByRecursion (IsAllowed v) group.changes) (sym same.3) allowed;
                spelled = spelled;
                follows = place;
                leads = subst (λ (x : State). Leads (sealed_set (seen s)) group.changes x)
                    (sym (after-append s.store.start s.sealed group.changes))
                    (leads_all (sealed_set (seen s)) group.changes goes_on);
              };
              len = len;
              fits = omega (arith, len, left_room, wide);
              early = subst (λ (x : Step). IsEarly x) (sym same.5) has.early;
              ready = ready;
              beside = λ growing.
                  (let q = i.planned (subst (λ (x : Step). HasBegun x) same.5 growing.0) in let head = q.head in
                  let tail = has.tail (subst (λ (x : Step). HasBegun x) same.5 growing.0) in
                  let its : t.other ≡ slot_of i.size (other_side i.placed.side) = same.1 ∙ i.placed.its in
                  let wide_old = wide_of i.size (other_side i.placed.side) s.slots.other i.placed.its in
                  let large = i.placed.allowed.least in let text = ap length same.6 in
                  fits_other i.size (other_side i.placed.side) t.other t.text t.journal.staged its large
                  (omega (arith, head, tail, wide_old, large, text, len)));
            });
            size = i.size;
            placed = placed_as i.size s.store.start.limit s.slots t i.placed same.0.1 same.1;
            kept_is = kept_is;
            planned = λ begins. (let q = plan_as begins in record { spells = q.spells; head = q.head; front = q.front });
          }

  -- ---- what stands against a draw where nothing was written
  pub goes_kept : (group : Group) → GoesOn (after_all set ahead) group → GoesOn (sealed_set (seen s)) group
  goes_kept group on = subst (λ (t : State). GoesOn t group) i.set_is on

  pub refuses : (faults : D → ℕ) → s.slots.journal.phase ≢ Failed → (group : Group) (e : StoreFault) →
      IsStrange (after_all set ahead) group e → RefusesBy faults (seen s) (seen s) group e
  refuses faults well group fault.Device h = absurd h
  refuses faults well group fault.Failed h = absurd h
  refuses faults well group fault.Memory h = (is_well s.slots.journal.phase well, refl, subst (λ (t : State). GoesOn t group) i.set_is h)
  refuses faults well group fault.Stranger h =
      (is_well s.slots.journal.phase well, refl, λ on. h (subst (λ (t : State). GoesOn t group) (sym i.set_is) on))

  -- ---- the batch is sealed
  pub room_taken : IsFlight s first ahead copies → (n : JournalState D) → n.slot ≡ s.slots.journal.slot →
      n.front ≡ s.slots.journal.front → n.sealed ≡ s.slots.journal.sealed ++ s.slots.journal.staged ∷ []
      → room n + batch_len (record { first = 0; changes = s.staged }) + 5 ≡ room s.slots.journal
  room_taken f n slot front sealed =
      let more : JournalState D = record s.slots.journal { sealed = s.slots.journal.sealed ++ s.slots.journal.staged ∷ [] } in
      let same = room_same more n slot front sealed in
      let text = ap length (text-more s.slots.journal.front s.slots.journal.sealed s.slots.journal.staged) ∙
      length-append (s.slots.journal.front ++ spell s.slots.journal.sealed) _ in
      let len = f.len in let fits = f.fits in
      omega (arith, same, text, len, fits)

  pub tail_grows : IsFlight s first ahead copies → (t : SlotsState D) → t.head ≡ s.slots.head →
      (IsGrowing s.slots.step → t.text ≡ s.slots.text ++ OPEN ∷ with_length s.slots.journal.staged) →
      IsGrowing s.slots.step
      → tail_of t ≡ tail_of s.slots + batch_len (record { first = 0; changes = s.staged }) + 5
  tail_grows f t head grown growing =
      let front = (i.planned growing.0).front in let len = f.len in let text = ap length (grown growing) in
      let joined = length-append s.slots.text (OPEN ∷ with_length s.slots.journal.staged) in
      omega (arith, front, len, text, joined, head)

  pub sound_sealed : IsFlight s first ahead copies → (n : Inside D) → n.store ≡ s.store →
      n.sealed ≡ s.sealed ++ s.staged → n.phase ≡ Idle → n.slots.journal.phase ≡ at.Idle →
      n.slots.journal.begun ≡ false → n.slots.journal.slot ≡ s.slots.journal.slot → n.slots.other ≡ s.slots.other →
      n.slots.step ≡ s.slots.step
      → n.slots.head ≡ s.slots.head → (IsGrowing s.slots.step → n.slots.text ≡ s.slots.text ++ OPEN ∷ with_length s.slots.journal.staged)
      → KeepsNext disk s.slots n.slots → PlansNext s.slots n.slots →
      (disk.honest n.slots.journal.disk → disk.honest s.slots.journal.disk) →
      (next_first : ℕ) (rest : List Change) → IsSound disk.honest disk.unsynced n set next_first copies rest
  sound_sealed f n store sealed step phase begun slot other compacts head grown next planned back next_first rest =
      let set_is : set ≡ sealed_set (seen s) = ap (λ (l : List Change). after_all set l) (sym f.none) ∙ i.set_is in
      let kept_is : sealed_set (seen n) ≡ coming (seen s) = ap (λ (x : Identity). after_all x.start n.sealed) store ∙
      ap (λ (l : List Change). after_all s.store.start l) sealed in
      record {
        set_is = ap (λ (t : State). after_all t copies) set_is ∙
            ap (λ (l : List Change). after_all (sealed_set (seen s)) l) f.copied ∙
            sym (after-append s.store.start s.sealed s.staged) ∙ sym kept_is;
        follows = subst (λ (t : State). Follows t copies) (sym set_is)
            (subst (λ (l : List Change). Follows (sealed_set (seen s)) l) (sym f.copied) f.follows);
        going = inl (phase ∙ sym (ap journal_phase step));
        flight = inl (step, begun);
        size = i.size;
        placed = subst (λ (x : Identity). IsPlaced i.size n.slots x.start.limit) (sym store)
            (placed_as i.size s.store.start.limit s.slots n.slots i.placed slot other);
        kept_is = λ h. subst (λ (t : State). IsKeptIn (disk.unsynced n.slots.journal.disk) n.slots i.size t)
            (sym kept_is) (next (back h) i.size (sealed_set (seen s)) (coming (seen s)) (i.kept_is (back h))
            (leads disk i f));
        planned = λ begins.
            (let growing : IsGrowing s.slots.step = (subst (λ (x : Step). HasBegun x) compacts begins, f.early) in
            let q = i.planned growing.0 in let at = q.head in let front = q.front in
            let text = ap length (grown growing) in
            let joined = length-append s.slots.text (OPEN ∷ with_length s.slots.journal.staged) in record {
              spells = subst (λ (t : State). IsPlannedFor n.slots i.size t) (sym kept_is)
                  (planned growing i.size (sealed_set (seen s)) (coming (seen s)) q.spells (leads disk i f));
              head = omega (arith, at, head);
              front = omega (arith, front, head, text, joined);
            });
      }

  pub receipt_of : IsFlight s first ahead copies → (r : ReceiptState) → r.store ≡ s.store →
      r.edits ≡ s.sealed ++ s.staged → r.batch.changes ≡ s.staged → r.batch.first ≡ first → IsReceipt r
  receipt_of f r store edits changes first_is = record {
    before = s.sealed;
    whole = edits ∙ ap (λ (l : List Change). s.sealed ++ l) (sym changes);
    place = first_is ∙ f.place ∙ ap (λ (n : ℕ). n + 1) (revision-after_all s.store.start s.sealed) ∙
        ap (λ (x : Identity). x.start.revision + length s.sealed + 1) (sym store);
    numbered = (let n = f.lawful.revisions in let len = ap length changes in omega (arith, n, len, first_is));
  }

-- ---- what a call of the disk leaves
abbrev pub CountsNow : {D : Type 0} → Ghosts D → Type 0
CountsNow {D} disk = (d : D) (t : ℕ) (c : List ℕ) → disk.honest d → t ≤ disk.moment d →
    IsOutcome (disk.unsynced d) c → disk.crash_states_since d t c

makes : {T E : Type 0} (r : Result T E) (kinds old new : List CallKind) → new ≡ old ++ kinds → Makes kinds old new r
makes (Ok x) kinds old new is = is
makes (Err e) kinds old new is = makes_all kinds old new is

-- the calls are made, and what each crash leaves meanwhile has P, and at the end is left by the store
pub calls_on : {D T E : Type 0} (disk : Ghosts D) → CountsNow disk →
    (kinds : List CallKind) (old new : StoreState D) (P Q : List ℕ → Type 0) (r : Result T E) →
    disk.calls new.disk ≡ disk.calls old.disk ++ kinds → SameHonesty disk old.disk new.disk
    → (disk.honest old.disk → LeavesOnly disk.moment disk.crash_states_since old.disk new.disk Q) →
    ((c : List ℕ) → Q c → P c) → ((c : List ℕ) → Q c → Leaves new c) → CallsDisk disk kinds old new P r
calls_on disk counts_now kinds old new P Q r called honest leaves before after = record {
  called = makes r kinds (disk.calls old.disk) (disk.calls new.disk) called;
  any_moment = λ h. leaves_map disk.moment disk.crash_states_since old.disk new.disk Q P before (leaves h);
  exit = exit_has disk counts_now old.disk new.disk Q (Leaves new) after honest.1 leaves;
  honest = honest;
}

-- ---- a call of a batch on its way, as it begins
pub record OnWay {D : Type 0} (s : Inside D) (p : Phase) (first : ℕ) (ahead copies : List Change) : Type 0 where
  pub here : s.phase ≡ p
  pub well : s.slots.journal.phase ≢ Failed
  pub is : s.slots.journal.phase ≡ journal_phase p
  pub flight : IsFlight s first ahead copies
  pub off : s.phase ≢ Idle

-- slots in which a body was kept ready, where none was on its way, and the set has caught up
pub record Readied {D : Type 0} (disk : Ghosts D) (s : Inside D) (mid : SlotsState D) (later : State) (first : ℕ)
    (left copies : List Change) : Type 0 where
  pub well : s.slots.journal.phase ≢ Failed
  pub plan : SamePlan s.slots mid
  pub here : s.phase ≡ Idle
  pub idle : mid.journal.phase ≡ at.Idle
  pub sound : IsSound disk.honest disk.unsynced (Moved s Idle mid) later first left copies

module _ {D : Type 0} (disk : Ghosts D) {s : Inside D} {set : State} {first : ℕ} {ahead copies : List Change}
    (i : IsSound disk.honest disk.unsynced s set first ahead copies) where
  pub on_way : {v : StoreState D} {p : Phase} → seen s ≡ v → v.phase ≡ p → p ≢ Idle →
      s.slots.journal.phase ≢ Failed → OnWay s p first ahead copies
  on_way {p = p} view begins never well =
      let here : s.phase ≡ p = ap (λ (k : StoreState D). k.phase) view ∙ begins in record {
        here = here;
        well = well;
        is = goes s.slots.journal.phase (journal_phase s.phase) well i.going ∙ ap journal_phase here;
        flight = not_idle s.phase p _ _ here never i.flight;
        off = λ e. never (sym here ∙ e);
      }

  -- nothing was written
  pub shut_at_rest : {v : StoreState D} → seen s ≡ v → v.phase ≡ Idle → (seen s).begun ≡ false
  shut_at_rest view begins =
      let here : s.phase ≡ Idle = ap (λ (k : StoreState D). k.phase) view ∙ begins in
      begun_shut s.slots.journal.phase s.phase s.slots.journal.begun (ap is_opened here)
      (idle_or s.phase _ _ here (λ f. f.on_way) i.flight).1 i.going

  pub readied : {v : StoreState D} → seen s ≡ v → v.phase ≡ Idle → s.slots.journal.phase ≢ Failed →
      (mid : SlotsState D) → SamePlan s.slots mid → (later : State) (left : List Change) →
      after_all later left ≡ after_all set ahead → Follows later left → Readied disk s mid later first left copies
  readied view begins well mid plan later left keeps follows =
      let here : s.phase ≡ Idle = ap (λ (k : StoreState D). k.phase) view ∙ begins in
      let idle : mid.journal.phase ≡ at.Idle = ap (λ (j : JournalState D). j.phase) plan.0 ∙
      goes s.slots.journal.phase (journal_phase s.phase) well i.going ∙ ap journal_phase here in
      let begun : mid.journal.begun ≡ false = ap (λ (j : JournalState D). j.begun) plan.0 ∙
      (idle_or s.phase _ _ here (λ f. f.on_way) i.flight).1 in record {
        well = well;
        plan = plan;
        here = here;
        idle = idle;
        sound = sound_at_rest disk i Idle mid (beside_plan s.slots mid plan)
            (ap (λ (j : JournalState D). j.sealed) plan.0)
            (kept_plan_now s.slots mid plan disk.honest disk.unsynced i.kept_is) refl begun later left keeps follows
            (inl idle);
      }

  -- ---- it moves the batch, or the device fails
  pub breaks_as : (t : SlotsState D) → SameBeside s.slots t → t.journal.sealed ≡ s.slots.journal.sealed →
      s.slots.journal.phase ≢ Failed → t.journal.phase ≡ Failed →
      disk.faults s.slots.journal.disk < disk.faults t.journal.disk →
      Breaks disk.faults (seen s) (seen (Moved s s.phase t))
  breaks_as t same bodies well failed cause = breaks disk.faults s (Moved s s.phase t) well failed cause refl same bodies

  module _ {T : Type 0} {kind : CallKind} {comes : journal_phases.Phase} {opens : Bool} {r : Result T DiskFault}
      (t : SlotsState D) (w : MovesBatch disk kind comes opens s.slots t r) where
    pub sound_on : IsFlight s first ahead copies → t.journal.staged ≡ s.slots.journal.staged → (p : Phase) →
        p ≢ Idle → (t.journal.phase ≡ journal_phase p) ⊎ (t.journal.phase ≡ Failed) →
        IsSound disk.honest disk.unsynced (Moved s p t) set first ahead copies
    sound_on f staged p way going =
        sound_moved disk i p t (beside_of s.slots t w.same) w.sealed (kept_on disk i t w.kept w.call.honest.1) f way
        staged w.same.9 going

    pub moves_on : {A : Type 0} {x : A} (to : Phase) → s.slots.journal.phase ≢ Failed →
        t.journal.phase ≡ journal_phase to → disk.faults t.journal.disk ≡ disk.faults s.slots.journal.disk →
        MovesOn disk.faults to (seen s) (seen (Moved s to t)) (Ok x)
    moves_on to well phase no_failure = record {
      same = (refl, refl, refl);
      ok = record {
        phase = refl;
        well_before = is_well s.slots.journal.phase well;
        well_now = ap is_failed phase ∙
            well_at to;
        no_failure = no_failure;
      };
      phase = tt;
      fault = tt;
      same_room = same_room s (Moved s to t) (beside_of s.slots t w.same) w.sealed;
    }

    pub breaks_off : {A : Type 0} (to : Phase) → s.slots.journal.phase ≢ Failed → t.journal.phase ≡ Failed →
        disk.faults s.slots.journal.disk < disk.faults t.journal.disk →
        MovesOn {T = A} disk.faults to (seen s) (seen (Moved s s.phase t)) (Err fault.Device)
    breaks_off to well failed cause = record {
      same = (refl, refl, refl);
      ok = tt;
      phase = refl;
      fault = breaks_as t (beside_of s.slots t w.same) w.sealed well failed cause;
      same_room = same_room s (Moved s s.phase t) (beside_of s.slots t w.same) w.sealed;
    }

  -- ---- what it leaves
  pub leaves_opened : (t : SlotsState D) → IsFlight s first ahead copies → LeavesNext disk s.slots t →
      s.phase ≢ Idle → (seen s).begun ≡ true → AtAnyMoment disk s.slots.journal.disk t.journal.disk (Leaves (seen s))
  leaves_opened t f stands off begun h =
      leaves_map disk.moment disk.crash_states_since s.slots.journal.disk t.journal.disk
      (λ c. StandsFor c (sealed_set (seen s)) ⊎ StandsFor c (coming (seen s))) (Leaves (seen s))
      (open_leaves (seen s) off begun) (next_leaves disk i t f stands h)

  module _ (counts_now : CountsNow disk) {T A E : Type 0} {kind : CallKind} {r : Result T DiskFault}
      (t : SlotsState D) (call : MakesCall disk kind s.slots t r) (p : Phase) (result : Result A E) where
    pub calls_sealed : LeavesSealed disk s.slots t → CallsDisk disk (kind ∷ []) (seen s) (seen (Moved s p t)) (Leaves (seen s)) result
    calls_sealed stands = calls_on disk counts_now (kind ∷ []) (seen s) (seen (Moved s p t)) (Leaves (seen s))
        (λ c. StandsFor c (sealed_set (seen s))) result call.called call.honest (sealed_leaves disk i t stands)
        (λ c o. inl o) (λ c o. inl o)

    calls_next : IsFlight s first ahead copies → LeavesNext disk s.slots t → (P : List ℕ → Type 0) →
        ((c : List ℕ) → StandsFor c (sealed_set (seen s)) ⊎ StandsFor c (coming (seen s)) → P c) → p ≢ Idle →
        (seen (Moved s p t)).begun ≡ true → CallsDisk disk (kind ∷ []) (seen s) (seen (Moved s p t)) P result
    calls_next f stands P before off begun =
        calls_on disk counts_now (kind ∷ []) (seen s) (seen (Moved s p t)) P
        (λ c. StandsFor c (sealed_set (seen s)) ⊎ StandsFor c (coming (seen s))) result call.called call.honest
        (next_leaves disk i t f stands) before (open_leaves (seen (Moved s p t)) off begun)

    -- the gate begins to open in it, or has begun before
    pub calls_opening : IsFlight s first ahead copies → LeavesNext disk s.slots t → p ≢ Idle →
        (seen (Moved s p t)).begun ≡ true →
        CallsDisk disk (kind ∷ []) (seen s) (seen (Moved s p t)) (Leaves (seen (Moved s p t))) result
    calls_opening f stands off begun =
        calls_next f stands (Leaves (seen (Moved s p t))) (open_leaves (seen (Moved s p t)) off begun) off begun

    pub calls_opened : IsFlight s first ahead copies → LeavesNext disk s.slots t → s.phase ≢ Idle →
        (seen s).begun ≡ true → p ≢ Idle → (seen (Moved s p t)).begun ≡ true →
        CallsDisk disk (kind ∷ []) (seen s) (seen (Moved s p t)) (Leaves (seen s)) result
    calls_opened f stands before opened off begun = calls_next f stands (Leaves (seen s)) (open_leaves (seen s) before opened) off begun

-- ---- a body that was kept ready is staged, or the device fails
module _ {D : Type 0} (disk : Ghosts D) {s : Inside D} {mid : SlotsState D} {later : State} {first : ℕ}
    {left copies : List Change} (b : Readied disk s mid later first left copies)
    {T : Type 0} {kind : CallKind} {comes : journal_phases.Phase} {r : Result T DiskFault} (t : SlotsState D)
    (w : MovesBatch disk kind comes false mid t r) where
  on : SameBeside s.slots t
  on = beside_then s.slots mid t b.plan w.same

  bodies : t.journal.sealed ≡ s.slots.journal.sealed
  bodies = w.sealed ∙ ap (λ (j : JournalState D). j.sealed) b.plan.0

  pub sound_unstaged : t.journal.phase ≡ Failed → IsSound disk.honest disk.unsynced (Moved s s.phase t) later first left copies
  sound_unstaged failed = subst (λ (p : Phase). IsSound disk.honest disk.unsynced (Moved s p t) later first left copies) (sym b.here)
      (sound_at_rest disk b.sound Idle t (beside_of mid t w.same) w.sealed
      (kept_on disk b.sound t w.kept w.call.honest.1) refl w.begun later left refl b.sound.follows (inr failed))

  pub breaks_then : t.journal.phase ≡ Failed → disk.faults mid.journal.disk < disk.faults t.journal.disk →
      Breaks disk.faults (seen s) (seen (Moved s s.phase t))
  breaks_then failed cause = breaks disk.faults s (Moved s s.phase t) b.well failed
      (subst (λ (j : JournalState D). disk.faults j.disk < disk.faults t.journal.disk) b.plan.0 cause) refl on bodies

  -- with these changes as the batch, at this phase
  module _ (changes : List Change) (p : Phase) where
    abbrev Then : Inside D
    Then = record { store = s.store; sealed = s.sealed; staged = changes; phase = p; slots = t }

    pub room_then : SameRoom (seen s) (seen Then)
    room_then = same_room s Then on bodies

    pub calls_then : {A E : Type 0} → CountsNow disk → LeavesSealed disk mid t → (result : Result A E) →
        CallsDisk disk (kind ∷ []) (seen s) (seen Then) (Leaves (seen s)) result
    calls_then counts_now stands result =
        let Sealed : List ℕ → Type 0 = λ c. StandsFor c (sealed_set (seen s)) in
        calls_on disk counts_now (kind ∷ []) (seen s) (seen Then) (Leaves (seen s)) Sealed result
        (w.call.called ∙ ap (λ (j : JournalState D). disk.calls j.disk ++ kind ∷ []) b.plan.0)
        (subst (λ (j : JournalState D). SameHonesty disk j.disk t.journal.disk) b.plan.0 w.call.honest)
        (subst (λ (j : JournalState D). disk.honest j.disk →
        LeavesOnly disk.moment disk.crash_states_since j.disk t.journal.disk Sealed) b.plan.0
        (sealed_leaves disk b.sound t stands)) (λ c o. inl o) (λ c o. inl o)
