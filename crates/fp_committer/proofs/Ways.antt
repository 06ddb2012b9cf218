-- A store as the plain machine has it, from call to call.
use Rattle.std.proofs.Common.{◌≡◌, ◌≢◌, ◌<◌, ◌≤◌, ◌+◌, ℕ, Bool, true, false, List, [], ◌∷◌, ◌++◌, length, refl, sym, ap}
use Rattle.std.proofs.Common.{◌∙◌, inl, inr, arith, length-append}
use Rattle.std.proofs.lemmas.List.{append-nil}
use Rattle.std.specs.Prelude.{if◌then◌else◌}
use Rattle.fp_disk.specs.History.{MakesSome}
use Rattle.fp_disk.specs.declared.history.CallKind.{CallKind}
use Rattle.fp_edit.specs.Edits.{Change}
use Rattle.fp_edit.specs.Flags.{State, size}
use Rattle.fp_edit.specs.Log.{after_all}
use Rattle.fp_record.specs.Encoding.{batch_len}
use Rattle.fp_record.specs.Group.{Group}
use Rattle.fp_slots.specs.declared.slots.Step.{Step}
use Rattle.fp_slots.specs.declared.slots.Step.TheVariants.{Begin, Close, SyncClose, Part, Tail, SyncBody, Open, SyncOpen}
use Rattle.fp_compaction.specs.Steps.{calls_of}
use Rattle.fp_group_commit.specs.Calls.{Breaks, FailsBy, MovesTo, RefusesBy, SameRoom, StopsBy, TakesRoom}
use Rattle.fp_group_commit.specs.Calls as calls
use Rattle.fp_group_commit.specs.Changes.{HasRoom}
use Rattle.fp_group_commit.specs.Store.{Compaction, MayCompact, StoreState, coming, sealed_set, readable_set, reached_at}
use Rattle.fp_group_commit.specs.declared.phase.Phase.{Phase}
use Rattle.fp_group_commit.specs.declared.phase.Phase.TheVariants.{Idle, Staged, BodySynced, GateOpened}
use Rattle.fp_group_commit.specs.Tokens.{Identity, ReceiptState}
use Rattle.fp_group_commit.specs.declared.fault.StoreFault.{StoreFault}
use Rattle.fp_group_commit.specs.declared.fault.StoreFault.TheVariants as fault
use Rattle.fp_committer.specs.StoreHalf.{IsOut, MakesNoMore, MakesOfCompaction, MakesOne, RisesFor, changes_held}
use Rattle.fp_committer.specs.StoreHalf.{in_flight_at, is_in_flight, progress_of, way_at}
use Rattle.fp_committer.specs.Way.{Advances, CanStage, IsAt, MayStep, Progress, Seals, Stages, StepsOn, Taken, Way}
use Rattle.fp_committer.specs.Way.{is_flying, is_read, is_sealed, read_edits, sealed_edits}
use Rattle.fp_committer.specs.Way.{batch_staged, body_synced, gate_opened, batch_sealed}
use Rattle.fp_committer.specs.declared.event.Answer.TheVariants as answer
use Rattle.fp_committer.specs.declared.held.Held.{Held}
use Rattle.fp_committer.specs.declared.held.Held.TheVariants as held

-- ways are the same by their parts
pub way_is : (a b : Way) → a.progress ≡ b.progress → a.failed ≡ b.failed → a.most ≡ b.most → a.room ≡ b.room →
    a.compaction ≡ b.compaction → a ≡ b
way_is a b progress failed most left compaction =
    ap (λ (x : Progress). record a { progress = x }) progress
    ∙ ap (λ (x : Bool). record b { failed = x; most = a.most; room = a.room; compaction = a.compaction }) failed
    ∙ ap (λ (x : ℕ). record b { most = x; room = a.room; compaction = a.compaction }) most
    ∙ ap (λ (x : ℕ). record b { room = x; compaction = a.compaction }) left
    ∙ ap (λ (x : Compaction). record b { compaction = x }) compaction

-- a store and what is held of a batch, without the disk
abbrev pub At : {D : Type 0} → Held → StoreState D → Way
At h s = way_at s (progress_of h s.phase)

-- what was drawn for it, behind what is settled
abbrev pub Given : {D : Type 0} → Held → StoreState D → List Change → Taken
Given h s settled = record { start = s.store.start; settled = settled; drawn = changes_held h s }

-- ---- where the drawn edits are
pub some_in : (xs : List Change) → xs ≢ [] → 0 < length xs
some_in [] never = absurd (never refl)
some_in (x ∷ xs) never = omega arith

pub at_rest : (p : Phase) → p ≡ Idle → is_in_flight p ≡ true → ⊥
at_rest p idle air = let both : false ≡ true = sym (ap is_in_flight idle) ∙ air in absurd cc

-- while a batch is in the store they are in flight
pub in_air : {D : Type 0} (s : StoreState D) (l : List Change) (h : Held) → IsOut h s l →
    is_in_flight s.phase ≡ true → (p : Phase) → progress_of h p ≡ in_flight_at p
in_air s l held.Nothing o air p = absurd (at_rest s.phase o.0 air)
in_air s l (held.Drawn group) o air p = absurd (at_rest s.phase o.0 air)
in_air s l held.InFlight o air p = refl
in_air s l (held.Sealed receipt) o air p = absurd (at_rest s.phase o.0 air)

-- the store's step, by where they are
abbrev pub step_at : Progress → Phase
step_at batch_staged = Staged
step_at body_synced = BodySynced
step_at gate_opened = GateOpened
step_at _ = Idle

step_in_flight : (p : Phase) → is_in_flight p ≡ true → step_at (in_flight_at p) ≡ p
step_in_flight Idle air = absurd cc
step_in_flight Staged air = refl
step_in_flight BodySynced air = refl
step_in_flight GateOpened air = refl

never_at_rest : (p : Phase) → step_at (in_flight_at p) ≡ Idle → ⊥
never_at_rest Idle e = absurd cc
never_at_rest Staged e = absurd cc
never_at_rest BodySynced e = absurd cc
never_at_rest GateOpened e = absurd cc

step_of : {D : Type 0} (s : StoreState D) (l : List Change) (h : Held) → IsOut h s l → step_at (progress_of h s.phase) ≡ s.phase
step_of s l held.Nothing o = sym o.0
step_of s l (held.Drawn group) o = sym o.0
step_of s l held.InFlight o = step_in_flight s.phase o.0
step_of s l (held.Sealed receipt) o = sym o.0

pub when_at : {D : Type 0} (s : StoreState D) (l : List Change) (h : Held) → IsOut h s l → (point : Progress) →
    progress_of h s.phase ≡ point → s.phase ≡ step_at point
when_at s l h o point e = sym (step_of s l h o) ∙ ap step_at e

-- ---- calls of the store
module _ {D : Type 0} (faults : D → ℕ) (May : Way → Type 0) (to : Progress) where
  pub done : (h h2 : Held) (s n : StoreState D) (phase : Phase) → MovesTo faults phase s n → SameRoom s n →
      May (At h s) → progress_of h2 n.phase ≡ to → Advances May to (At h s) answer.Done (At h2 n)
  done h h2 s n phase moves same may is =
      let well = moves.well_before in
      (well, may, way_is (At h2 n) (record (At h s) { progress = to }) is (moves.well_now ∙ sym well) same.most same.room same.compaction)

  pub broke : (h h2 : Held) (s n : StoreState D) → Breaks faults s n → May (At h s) →
      progress_of h2 n.phase ≡ progress_of h s.phase → Advances May to (At h s) (answer.Fault fault.Device) (At h2 n)
  broke h h2 s n b may is =
      (b.well_before, may, way_is (At h2 n) (record (At h s) { failed = true }) is (b.failed) b.room.most b.room.room b.room.compaction)

  pub fails : (e : StoreFault) (h : Held) (s n : StoreState D) → FailsBy faults s n e → n.phase ≡ s.phase →
      May (At h s) → Advances May to (At h s) (answer.Fault e) (At h n)
  fails fault.Device h s n b step may = broke h h s n b may (ap (λ (p : Phase). progress_of h p) step)
  fails fault.Failed h s n b step may = (b.0, ap (λ (x : StoreState D). At h x) b.1)
  fails fault.Memory h s n b step may = absurd b
  fails fault.Stranger h s n b step may = absurd b

module _ {D : Type 0} (faults : D → ℕ) (calls : D → List CallKind) (kind : CallKind) where
  pub calls_of_fail : (e : StoreFault) (s n : StoreState D) → FailsBy faults s n e →
      MakesSome (kind ∷ []) (calls s.disk) (calls n.disk) →
      MakesOne kind (answer.Fault e) (calls s.disk) (calls n.disk)
  calls_of_fail fault.Device s n b made = made
  calls_of_fail fault.Failed s n b made = ap (λ (x : StoreState D). calls x.disk) b.1
  calls_of_fail fault.Memory s n b made = absurd b
  calls_of_fail fault.Stranger s n b made = absurd b

  pub calls_of_refusal : (e : StoreFault) (s n : StoreState D) (group : Group) → RefusesBy faults s n group e →
      MakesSome (kind ∷ []) (calls s.disk) (calls n.disk) →
      MakesOne kind (answer.Fault e) (calls s.disk) (calls n.disk)
  calls_of_refusal fault.Device s n group b made = made
  calls_of_refusal fault.Failed s n group b made = ap (λ (x : StoreState D). calls x.disk) b.1
  calls_of_refusal fault.Memory s n group b made = ap (λ (x : StoreState D). calls x.disk) b.1
  calls_of_refusal fault.Stranger s n group b made = ap (λ (x : StoreState D). calls x.disk) b.1

module _ {D : Type 0} (faults : D → ℕ) where
  pub rise_of_fail : (e : StoreFault) (s n : StoreState D) → FailsBy faults s n e →
      RisesFor (answer.Fault e) (faults s.disk) (faults n.disk)
  rise_of_fail fault.Device s n b = b.cause
  rise_of_fail fault.Failed s n b = ap (λ (x : StoreState D). faults x.disk) b.1
  rise_of_fail fault.Memory s n b = absurd b
  rise_of_fail fault.Stranger s n b = absurd b

  pub rise_of_refusal : (e : StoreFault) (s n : StoreState D) (group : Group) → RefusesBy faults s n group e →
      RisesFor (answer.Fault e) (faults s.disk) (faults n.disk)
  rise_of_refusal fault.Device s n group b = let broke = b.0 in broke.cause
  rise_of_refusal fault.Failed s n group b = ap (λ (x : StoreState D). faults x.disk) b.1
  rise_of_refusal fault.Memory s n group b = ap (λ (x : StoreState D). faults x.disk) b.1
  rise_of_refusal fault.Stranger s n group b = ap (λ (x : StoreState D). faults x.disk) b.1

-- ---- the drawn edits are written
pub can_stage : {D : Type 0} (group : Group) (s : StoreState D) (l : List Change) → HasRoom s group →
    CanStage (Given (held.Drawn group) s l) (At (held.Drawn group) s)
can_stage group s l r = record
    { drawn = refl; few = r.few; short = r.short; room = r.fits; early = r.early; allowed = r.allowed; tail = r.tail }

pub has_room : {D : Type 0} (group : Group) (s : StoreState D) (l : List Change) → group.changes ≢ [] →
    CanStage (Given (held.Drawn group) s l) (At (held.Drawn group) s) → HasRoom s group
has_room group s l some can = record {
  some = some_in group.changes some;
  few = can.few;
  short = can.short;
  fits = can.room;
  early = can.early;
  tail = can.tail;
  allowed = can.allowed;
}

pub cannot_stage : {D : Type 0} (group : Group) (s : StoreState D) (l : List Change) → group.changes ≢ [] →
    (HasRoom s group → ⊥) → CanStage (Given (held.Drawn group) s l) (At (held.Drawn group) s) → ⊥
cannot_stage group s l some never can = never (has_room group s l some can)

pub none_held : {D : Type 0} (h : Held) (s : StoreState D) (t : Taken) →
    ((group : Group) → h ≡ held.Drawn group → ⊥) → CanStage t (At h s) → ⊥
none_held held.Nothing s t other can = let e = can.drawn in absurd cc
none_held (held.Drawn group) s t other can = other group refl
none_held held.InFlight s t other can = never_at_rest s.phase (ap step_at can.drawn)
none_held (held.Sealed receipt) s t other can = let e = can.drawn in absurd cc

pub refused_stage : {D : Type 0} (faults : D → ℕ) (e : StoreFault) (g g2 : Group) (s n : StoreState D) (t : Taken) →
    RefusesBy faults s n g e → e ≢ fault.Stranger → CanStage t (At (held.Drawn g) s) →
    Stages t (At (held.Drawn g) s) (answer.Fault e) (At (held.Drawn g2) n)
refused_stage faults fault.Device g g2 s n t b never can =
    broke faults (CanStage t) batch_staged (held.Drawn g) (held.Drawn g2) s n b.0 can refl
refused_stage faults fault.Failed g g2 s n t b never can = (b.0, ap (λ (x : StoreState _). At (held.Drawn g2) x) b.1)
refused_stage faults fault.Memory g g2 s n t b never can = (b.0, can, ap (λ (x : StoreState _). At (held.Drawn g2) x) b.1)
refused_stage faults fault.Stranger g g2 s n t b never can = absurd (never refl)

-- ---- and sealed
pub seals : {D : Type 0} (faults : D → ℕ) (h : Held) (r : ReceiptState) (s n : StoreState D) (t : Taken)
    (revision : ℕ) → t.start ≡ s.store.start → MovesTo faults Idle s n → TakesRoom s n → n.store ≡ s.store →
    s.sealed ≡ t.settled → s.staged ≡ t.drawn → n.sealed ≡ s.sealed ++ s.staged
    → progress_of h s.phase ≡ gate_opened → revision ≡ n.store.start.revision + length n.sealed →
    Seals t (At h s) (answer.Sealed revision) (At (held.Sealed r) n)
seals faults h r s n t revision same moves takes store settled drawn all point is =
    let well = moves.well_before in
    let start = ap (λ (x : Identity). x.start.revision) store in let start' = ap (λ (x : State). x.revision) same in
    let len = ap length all in let both = length-append s.sealed s.staged in let a = ap length settled in let b = ap length drawn in
    let bytes = ap (λ (l : List Change). batch_len (record { first = 0; changes = l })) drawn in let left = takes.room in (
      well,
      point,
      omega (arith, is, start, start', len, both, a, b),
      omega (arith, bytes, left),
      ((λ grows. let tail = takes.joins grows in omega (arith, bytes, tail)), takes.beside),
      way_is (At (held.Sealed r) n) (record (At h s) {
        progress = batch_sealed;
        room = n.room;
        compaction =
            record (s.compaction) { tail = n.compaction.tail };
      }) refl (moves.well_now ∙ sym well) takes.most refl
          takes.compaction,
    )

pub seal_fails : {D : Type 0} (faults : D → ℕ) (e : StoreFault) (h : Held) (s n : StoreState D) (t : Taken) →
    FailsBy faults s n e → n.phase ≡ s.phase → progress_of h s.phase ≡ gate_opened →
    Seals t (At h s) (answer.Fault e) (At h n)
seal_fails faults fault.Device h s n t b step point = fails faults (IsAt gate_opened) batch_sealed fault.Device h s n b step point
seal_fails faults fault.Failed h s n t b step point = fails faults (IsAt gate_opened) batch_sealed fault.Failed h s n b step point
seal_fails faults fault.Memory h s n t b step point = absurd b
seal_fails faults fault.Stranger h s n t b step point = absurd b

-- ---- and settled
pub not_sealed : {D : Type 0} (h : Held) (s : StoreState D) →
    ((receipt : ReceiptState) → h ≡ held.Sealed receipt → ⊥) → progress_of h s.phase ≢ batch_sealed
not_sealed held.Nothing s other e = absurd cc
not_sealed (held.Drawn group) s other e = absurd cc
not_sealed held.InFlight s other e = never_at_rest s.phase (ap step_at e)
not_sealed (held.Sealed receipt) s other e = other receipt refl

-- ---- what a read gives
read_by : (p : Phase) (now more start : State) (few all : List Change) → is_in_flight p ≡ true →
    now ≡ after_all start few → more ≡ after_all start all →
    reached_at p now more ≡ after_all start (if is_read (in_flight_at p) then all else few)
read_by Idle now more start few all air a b = absurd cc
read_by Staged now more start few all air a b = a
read_by BodySynced now more start few all air a b = a
read_by GateOpened now more start few all air a b = b

sealed_is : {D : Type 0} (s : StoreState D) (few : List Change) → s.sealed ≡ few → sealed_set s ≡ after_all s.store.start few
sealed_is s few is = ap (λ (l : List Change). after_all s.store.start l) is

pub reads_as : {D : Type 0} (s : StoreState D) (l : List Change) (h : Held) → IsOut h s l →
    readable_set s ≡ after_all s.store.start (read_edits (Given h s l) (At h s))
reads_as s l held.Nothing o = ap (λ (p : Phase). reached_at p (sealed_set s) (coming s)) o.0 ∙ sealed_is s l o.1
reads_as s l (held.Drawn group) o = ap (λ (p : Phase). reached_at p (sealed_set s) (coming s)) o.0 ∙ sealed_is s l o.1
reads_as s l held.InFlight o =
    read_by s.phase (sealed_set s) (coming s) s.store.start l (l ++ s.staged) o.0 (sealed_is s l o.1)
    (ap (λ (k : List Change). after_all s.store.start (k ++ s.staged)) o.1)
reads_as s l (held.Sealed receipt) o = ap (λ (p : Phase). reached_at p (sealed_set s) (coming s)) o.0 ∙
    sealed_is s (l ++ receipt.batch.changes) o.1

-- ---- a compaction
flying : (p : Phase) → is_in_flight p ≡ true → is_flying (in_flight_at p) ≡ true
flying Idle air = absurd cc
flying Staged air = refl
flying BodySynced air = refl
flying GateOpened air = refl

-- no batch is in flight exactly where the store has none
still_now : {D : Type 0} (s : StoreState D) (l : List Change) (h : Held) → IsOut h s l → s.phase ≡ Idle →
    is_flying (progress_of h s.phase) ≡ false
still_now s l held.Nothing o idle = refl
still_now s l (held.Drawn group) o idle = refl
still_now s l held.InFlight o idle = absurd (at_rest s.phase idle o.0)
still_now s l (held.Sealed receipt) o idle = refl

still_then : {D : Type 0} (s : StoreState D) (l : List Change) (h : Held) → IsOut h s l →
    is_flying (progress_of h s.phase) ≡ false → s.phase ≡ Idle
still_then s l held.Nothing o still = o.0
still_then s l (held.Drawn group) o still = o.0
still_then s l held.InFlight o still = let both : true ≡ false = sym (flying s.phase o.0) ∙ still in absurd cc
still_then s l (held.Sealed receipt) o still = o.0

pub may_step : {D : Type 0} (h : Held) (s : StoreState D) (l : List Change) → IsOut h s l → MayCompact s → MayStep (At h s)
may_step h s l o may = (may.next, λ at. still_now s l h o (may.still at))

pub may_compact : {D : Type 0} (h : Held) (s : StoreState D) (l : List Change) → IsOut h s l → MayStep (At h s) → MayCompact s
may_compact h s l o may = record { next = may.0; still = λ at. still_then s l h o (may.1 at) }

air_not_sealed_yet : (p : Phase) → is_sealed (in_flight_at p) ≡ false
air_not_sealed_yet Idle = refl
air_not_sealed_yet Staged = refl
air_not_sealed_yet BodySynced = refl
air_not_sealed_yet GateOpened = refl

-- what the store keeps is what the machine says is sealed
kept_is : {D : Type 0} (h : Held) (s : StoreState D) (l : List Change) → IsOut h s l →
    sealed_set s ≡ after_all s.store.start (sealed_edits (Given h s l) (At h s))
kept_is held.Nothing s l o = sealed_is s l o.1
kept_is (held.Drawn group) s l o = sealed_is s l o.1
kept_is held.InFlight s l o = sealed_is s l o.1 ∙
    ap (λ (b : Bool). after_all s.store.start (if b then l ++ s.staged else l)) (sym (air_not_sealed_yet s.phase))
kept_is (held.Sealed receipt) s l o = sealed_is s (l ++ receipt.batch.changes) o.1

pub compacts : {D : Type 0} (faults : D → ℕ) (h : Held) (s n : StoreState D) (l : List Change) (next : Step) →
    IsOut h s l → MayCompact s → calls.Compacts faults s n → n.phase ≡ s.phase → next ≡ n.compaction.next →
    StepsOn (Given h s l) (At h s) (answer.Phase next) (At h n)
compacts faults h s n l next o may c step is =
    let well = c.well_before in (
      well,
      may_step h s l o may,
      record {
        next = c.next;
        begun = λ at. (let plans = c.begun at in let left = plans.left in let head = plans.head in
            let image = ap (λ (t : State). size t.flags) (kept_is h s l o) in let text = plans.tail in
            (omega (arith, head, image), left, text));
        left = c.left;
        head = c.head_stays;
        tail = c.tail_stays;
        stays = λ on. ((c.slots_stay on).1, (c.slots_stay on).2, c.room_stays on);
        turns = λ at. ((c.slots_turn at).1, (c.slots_turn at).2, c.room_gained at);
        rest = way_is (At h n) (record (At h s) { room = n.room; compaction = n.compaction })
            (ap (λ (p : Phase). progress_of h p) step) (c.well_now ∙ sym well) c.most refl refl;
      },
      is,
    )

pub stops : {D : Type 0} (faults : D → ℕ) (e : StoreFault) (h : Held) (s n : StoreState D) (l : List Change) →
    IsOut h s l → MayCompact s → StopsBy faults s n e → StepsOn (Given h s l) (At h s) (answer.Fault e) (At h n)
stops faults fault.Device h s n l o may b = (
  b.well_before,
  may_step h s l o may,
  way_is (At h n) (record (At h s) { failed = true }) (ap (λ (p : Phase). progress_of h p) b.phase) (b.failed)
      b.room.most b.room.room b.room.compaction,
)
stops faults fault.Failed h s n l o may b = (b.0, ap (λ (x : StoreState _). At h x) b.1)
stops faults fault.Memory h s n l o may b = (b.0, b.1, may_step h s l o may, ap (λ (x : StoreState _). At h x) b.2)
stops faults fault.Stranger h s n l o may b = absurd b

-- its calls
at_most_one : (next : Step) (may_open : Bool) → length (calls_of next may_open) ≤ 1
at_most_one Begin b = omega arith
at_most_one Close true = omega arith
at_most_one Close false = omega arith
at_most_one SyncClose b = omega arith
at_most_one Part b = omega arith
at_most_one Tail b = omega arith
at_most_one SyncBody b = omega arith
at_most_one Open b = omega arith
at_most_one SyncOpen b = omega arith

makes_all : (kinds old new : List CallKind) → length kinds ≤ 1 → new ≡ old ++ kinds → MakesNoMore old new
makes_all [] old new few is = inl (is ∙ append-nil old)
makes_all (k ∷ []) old new few is = inr (k, is)
makes_all (k ∷ l ∷ kinds) old new few is = absurd (omega (arith, few))

makes_some : (kinds old new : List CallKind) → length kinds ≤ 1 → MakesSome kinds old new → MakesNoMore old new
makes_some [] old new few s = inl s
makes_some (k ∷ []) old new few (inl s) = inl s
makes_some (k ∷ []) old new few (inr s) = inr (k, s)
makes_some (k ∷ l ∷ kinds) old new few s = absurd (omega (arith, few))

pub calls_of_step : (next : Step) (may_open : Bool) (p : Step) (old new : List CallKind) →
    new ≡ old ++ calls_of next may_open → MakesOfCompaction (answer.Phase p) old new
calls_of_step next may_open p old new is = makes_all (calls_of next may_open) old new (at_most_one next may_open) is

pub calls_of_stop : {D : Type 0} (faults : D → ℕ) (calls : D → List CallKind) (e : StoreFault) (s n : StoreState D) →
    StopsBy faults s n e → MakesSome (calls_of s.compaction.next s.may_open) (calls s.disk) (calls n.disk) →
    MakesOfCompaction (answer.Fault e) (calls s.disk) (calls n.disk)
calls_of_stop faults calls fault.Device s n b made =
    makes_some (calls_of s.compaction.next s.may_open) (calls s.disk) (calls n.disk)
    (at_most_one s.compaction.next s.may_open) made
calls_of_stop faults calls fault.Failed s n b made = ap (λ (x : StoreState _). calls x.disk) b.1
calls_of_stop faults calls fault.Memory s n b made = ap (λ (x : StoreState _). calls x.disk) b.2
calls_of_stop faults calls fault.Stranger s n b made = absurd b

pub rise_of_stop : {D : Type 0} (faults : D → ℕ) (e : StoreFault) (s n : StoreState D) → StopsBy faults s n e →
    RisesFor (answer.Fault e) (faults s.disk) (faults n.disk)
rise_of_stop faults fault.Device s n b = b.cause
rise_of_stop faults fault.Failed s n b = ap (λ (x : StoreState _). faults x.disk) b.1
rise_of_stop faults fault.Memory s n b = ap (λ (x : StoreState _). faults x.disk) b.2
rise_of_stop faults fault.Stranger s n b = absurd b
