-- Two slots of a disk, a journal in the one that rules, and how far
-- the other is on its way to take its place.
use Rattle.std.specs.Prelude.{◌≡◌, ◌≢◌, ◌⊎◌, ◌<◌, ◌≤◌, ◌+◌, ◌^◌, ℕ, Bool, true, false, List, []}
use Rattle.std.specs.Prelude.{◌∷◌, ◌++◌, length, drop, slice_index}
use Rattle.std.specs.Int.{w64, to_be_bytes}
use Rattle.fp_disk.specs.Outcomes.{PendingState, IsOutcome}
use Rattle.fp_journal.specs.Holds.{Holds, IsSynced}
use Rattle.fp_journal.specs.Chain.{spell}
use Rattle.fp_journal.specs.State.{JournalState, CrashStates, HasChain, HasChainOrNext, Outside}
use Rattle.fp_journal.specs.State.{SameSlot, has_begun}
use Rattle.fp_journal.specs.declared.slot.Slot.{Slot}
use Rattle.fp_journal.specs.declared.journal.Phase.{Phase}
use Rattle.fp_journal.specs.declared.journal.Phase.TheVariants.{Idle, Failed}
use Rattle.fp_gate.specs.Gates.{IsSyncOf}
use Rattle.fp_gate.specs.Numbers.{OPEN}
use Rattle.fp_slots.specs.declared.held.Held.{Held}
use Rattle.fp_slots.specs.declared.held.Held.TheVariants as held
use Rattle.fp_slots.specs.Numbers.{GENERATION_PLACE, VERSION_PLACE, VERSION}
use Rattle.fp_slots.specs.declared.slots.Step.{Step}
use Rattle.fp_slots.specs.declared.slots.Step.TheVariants.{Begin, Close, SyncClose, Part, Tail}
use Rattle.fp_slots.specs.declared.slots.Step.TheVariants.{SyncBody, Open, SyncOpen}
use Rattle.fp_slots.specs.Head.{IsVersion}
use Rattle.fp_slots.specs.Rules.{Rules, RulesWith}

-- The journal's slot rules, of this generation and this version. `other` is the other one, whose
-- gate may be open or isn't (`may_open`); `step` is what a compaction does next, `text` what the
-- other slot is to hold, its open gate first, `head` how many bytes of it are the image and what
-- stands in front of it, and `left` how many of those no Part wrote yet. `coming` are bytes that
-- are kept ready to go behind the text
pub record SlotsState (D : Type 0) : Type 0 where
  pub journal : JournalState D
  pub other : Slot
  pub generation : ℕ
  pub version : ℕ
  pub may_open : Bool
  pub step : Step
  pub text : List ℕ
  pub head : ℕ
  pub left : ℕ
  pub coming : List ℕ

-- ---- what a list of bytes stands for
-- the journal's slot rules, and holds what the journal claims
abbrev pub Keeps : {D : Type 0} → SlotsState D → List ℕ → Type 0
Keeps s c = Rules s.journal.slot.start s.other.start c × CrashStates s.journal c

-- and holds what it sealed, or that and one body more
abbrev pub KeepsOrNext : {D : Type 0} → SlotsState D → List ℕ → List ℕ → Type 0
KeepsOrNext s body c = Rules s.journal.slot.start s.other.start c
    × HasChainOrNext s.journal.slot s.journal.front s.journal.sealed body c

-- what the journal sealed
abbrev pub sealed_text : {D : Type 0} → JournalState D → List ℕ
sealed_text j = j.front ++ spell j.sealed

-- one of the slots rules, the journal's with what it sealed, or the other with the new text
abbrev pub KeepsEither : {D : Type 0} → SlotsState D → List ℕ → Type 0
KeepsEither s c = RulesWith s.journal.slot s.other (sealed_text s.journal) c
    ⊎ RulesWith s.other s.journal.slot s.text c

-- what a crash leaves while the next step is this one, whatever failed
abbrev pub Leaves : {D : Type 0} → Step → SlotsState D → List ℕ → Type 0
Leaves Begin s c = Keeps s c
Leaves Close s c = Keeps s c
Leaves SyncClose s c = Keeps s c
Leaves Part s c = Keeps s c
Leaves Tail s c = Keeps s c
Leaves SyncBody s c = Keeps s c
Leaves Open s c = KeepsEither s c
Leaves SyncOpen s c = KeepsEither s c

-- and holds what it sealed
abbrev pub KeepsSealed : {D : Type 0} → SlotsState D → List ℕ → Type 0
KeepsSealed s c = Rules s.journal.slot.start s.other.start c
    × HasChain s.journal.slot s.journal.front s.journal.sealed c

-- a batch may be on its way: the tail isn't written
abbrev pub IsEarly : Step → Type 0
IsEarly Begin = Unit {0}
IsEarly Close = Unit {0}
IsEarly SyncClose = Unit {0}
IsEarly Part = Unit {0}
IsEarly Tail = Unit {0}
IsEarly SyncBody = ⊥
IsEarly Open = ⊥
IsEarly SyncOpen = ⊥

-- a compaction runs
abbrev pub HasBegun : Step → Type 0
HasBegun Begin = ⊥
HasBegun Close = Unit {0}
HasBegun SyncClose = Unit {0}
HasBegun Part = Unit {0}
HasBegun Tail = Unit {0}
HasBegun SyncBody = Unit {0}
HasBegun Open = Unit {0}
HasBegun SyncOpen = Unit {0}

-- and what the other slot is to hold can grow still
abbrev pub IsGrowing : Step → Type 0
IsGrowing p = HasBegun p × IsEarly p

-- ---- what is outside of both
abbrev pub OutsideBoth : {D : Type 0} → SlotsState D → ℕ → ℕ → Type 0
OutsideBoth s at n = Outside s.journal.slot at n × Outside s.other at n

-- the slots and what they hold are the same
abbrev pub SameSlots : {D : Type 0} → SlotsState D → SlotsState D → Type 0
SameSlots old new = SameSlot old.journal new.journal
    × (new.journal.sealed ≡ old.journal.sealed)
    × (new.journal.staged ≡ old.journal.staged)
    × (new.other ≡ old.other)
    × (new.generation ≡ old.generation)
    × (new.version ≡ old.version)
    × (new.may_open ≡ old.may_open)
    × (new.text ≡ old.text)
    × (new.head ≡ old.head)
    × (new.coming ≡ old.coming)
    × (new.journal.begun ≡ old.journal.begun)

-- the slots, and what a compaction is at, are the same
abbrev pub SameCompaction : {D : Type 0} → SlotsState D → SlotsState D → Type 0
SameCompaction old new = SameSlot old.journal new.journal
    × (new.other ≡ old.other)
    × (new.generation ≡ old.generation)
    × (new.version ≡ old.version)
    × (new.may_open ≡ old.may_open)
    × (new.step ≡ old.step)
    × (new.text ≡ old.text)
    × (new.head ≡ old.head)
    × (new.left ≡ old.left)
    × (new.coming ≡ old.coming)

-- the slots, their journal and the planned text are the same;
-- what is kept ready for it may be other
abbrev pub SamePlan : {D : Type 0} → SlotsState D → SlotsState D → Type 0
SamePlan old new = (new.journal ≡ old.journal)
    × (new.other ≡ old.other)
    × (new.generation ≡ old.generation)
    × (new.version ≡ old.version)
    × (new.may_open ≡ old.may_open)
    × (new.step ≡ old.step)
    × (new.text ≡ old.text)
    × (new.head ≡ old.head)
    × (new.left ≡ old.left)

-- ---- how far the other slot is; all of it by bytes that the last sync made sure of,
-- and by what a read gives
-- the gate of the slot that begins here is closed
pub record IsShut (slot : ℕ) (u : PendingState) : Type 0 where
  pub gate : ℕ
  pub shut : gate ≢ OPEN
  pub firm : IsSynced u slot (gate ∷ [])

-- its generation is smaller than that
pub record IsOlder (slot generation : ℕ) (u : PendingState) : Type 0 where
  pub its : ℕ
  pub small : its < 2 ^ 64
  pub less : its < generation
  pub firm : IsSynced u (slot + GENERATION_PLACE) (to_be_bytes w64 its)

-- it doesn't rule over that generation, since its gate is closed,
-- or, where it may be open, since it is older
abbrev pub IsBeaten : Bool → ℕ → ℕ → PendingState → Type 0
IsBeaten false slot generation u = IsShut slot u
IsBeaten true slot generation u = IsOlder slot generation u

-- a sync makes it closed
abbrev pub IsShutting : ℕ → ℕ → PendingState → List ℕ → Type 0
IsShutting slot generation u b = IsShut slot u ⊎ (IsOlder slot generation u × Holds b slot (0 ∷ []))

-- behind its gate stand these bytes, from the second on, up to that one
pub record IsCopied (slot : ℕ) (bytes : List ℕ) (to : ℕ) (b : List ℕ) : Type 0 where
  pub long : slot + to ≤ length b
  pub same : (k : ℕ) → 1 ≤ k → k < to → slice_index b (slot + k) ≡ slice_index bytes k

-- ---- what is to stand in the other slot:
-- an open gate, the next generation, the version of all that is written, any bytes, a closed gate
pub record IsPlan (slot : Slot) (generation : ℕ) (text bytes : List ℕ) : Type 0 where
  pub rest : List ℕ
  pub text_is : text ≡ OPEN ∷ (to_be_bytes w64 (generation + 1) ++ VERSION ∷ rest)
  pub bytes_are : bytes ≡ text ++ 0 ∷ []
  pub next : generation + 1 < 2 ^ 64
  pub fits : slot.start + length text < slot.stop

-- some of the bytes are written, and some aren't
pub record IsPart (bytes : List ℕ) (done : ℕ) : Type 0 where
  pub some : 1 ≤ done
  pub part : done < length bytes

abbrev pub IsPlanned : Step → Slot → ℕ → List ℕ → List ℕ → ℕ → Type 0
IsPlanned Begin slot generation text bytes done = Unit {0}
IsPlanned Close slot generation text bytes done = IsPlan slot generation text bytes × (done ≡ 1)
IsPlanned SyncClose slot generation text bytes done = IsPlan slot generation text bytes × (done ≡ 1)
IsPlanned Part slot generation text bytes done = IsPlan slot generation text bytes
    × IsPart bytes done
IsPlanned Tail slot generation text bytes done = IsPlan slot generation text bytes
    × IsPart bytes done
IsPlanned SyncBody slot generation text bytes done = IsPlan slot generation text bytes
IsPlanned Open slot generation text bytes done = IsPlan slot generation text bytes
IsPlanned SyncOpen slot generation text bytes done = IsPlan slot generation text bytes

-- what the disk is while the next step is this one
abbrev pub IsBeside : Step → ℕ → ℕ → Bool → List ℕ → ℕ → PendingState → List ℕ → Type 0
IsBeside Begin slot generation may_open bytes done u b = IsBeaten may_open slot generation u
IsBeside Close slot generation may_open bytes done u b = IsBeaten may_open slot generation u
IsBeside SyncClose slot generation may_open bytes done u b = IsShutting slot generation u b
IsBeside Part slot generation may_open bytes done u b = IsShut slot u × IsCopied slot bytes done b
IsBeside Tail slot generation may_open bytes done u b = IsShut slot u × IsCopied slot bytes done b
IsBeside SyncBody slot generation may_open bytes done u b = IsShut slot u
    × Holds b (slot + 1) (drop 1 bytes)
IsBeside Open slot generation may_open bytes done u b = IsShut slot u
    × IsSynced u (slot + 1) (drop 1 bytes)
IsBeside SyncOpen slot generation may_open bytes done u b = IsSynced u (slot + 1) (drop 1 bytes)
    × Holds b slot (OPEN ∷ [])

-- ---- the invariant
-- from the tail's write on no batch is on its way
abbrev pub IsStill : Step → Phase → Type 0
IsStill Begin phase = Unit {0}
IsStill Close phase = Unit {0}
IsStill SyncClose phase = Unit {0}
IsStill Part phase = Unit {0}
IsStill Tail phase = Unit {0}
IsStill SyncBody phase = (phase ≡ Idle) ⊎ (phase ≡ Failed)
IsStill Open phase = (phase ≡ Idle) ⊎ (phase ≡ Failed)
IsStill SyncOpen phase = (phase ≡ Idle) ⊎ (phase ≡ Failed)

-- the front of a slot of this version and this generation
pub record IsFrontOf (version generation : ℕ) (front : List ℕ) : Type 0 where
  pub rest : List ℕ
  pub front_is : front ≡ OPEN ∷ (to_be_bytes w64 generation ++ version ∷ rest)

pub record IsKept {D : Type 0} (honest : D → Type 0) (bytes : D → List ℕ)
    (unsynced : D → PendingState) (s : SlotsState D) (may_open : Bool) (planned : List ℕ)
    (done : ℕ) : Type 0 where
  pub apart : (s.journal.slot.stop ≤ s.other.start) ⊎ (s.other.stop ≤ s.journal.slot.start)
  pub wide : s.other.start + VERSION_PLACE ≤ s.other.stop
  pub wide_too : s.journal.slot.start + VERSION_PLACE ≤ s.journal.slot.stop
  pub front : IsFrontOf s.version s.generation s.journal.front
  pub known : IsVersion s.version
  pub small : s.generation < 2 ^ 64
  pub told : has_begun s.journal.phase s.journal.begun ≡ s.journal.begun
  pub plan : IsPlanned s.step s.other s.generation s.text planned done
  pub still : IsStill s.step s.journal.phase
  pub live : honest s.journal.disk → s.journal.phase ≢ Failed →
      IsBeside s.step s.other.start s.generation may_open planned done
      (unsynced s.journal.disk) (bytes s.journal.disk)
  pub failed : honest s.journal.disk → s.journal.phase ≡ Failed → (c : List ℕ) →
      IsOutcome (unsynced s.journal.disk) c → Leaves s.step s c

-- the planned text ends within these bytes, the image within the text, and no part passes the image
pub record IsWithin (planned : List ℕ) (ended head done : ℕ) : Type 0 where
  pub there : ended ≤ length planned
  pub image : head ≤ ended
  pub part : done ≤ head

-- ---- what the slots keep for the next call
abbrev pub step_of : {D : Type 0} → Held D → Step
step_of held.Begin = Begin
step_of held.Close = Close
step_of held.SyncClose = SyncClose
step_of held.Part = Part
step_of held.Tail = Tail
step_of held.SyncBody = SyncBody
step_of (held.Open synced) = Open
step_of held.Opening = Open
step_of (held.SyncOpen gate) = SyncOpen

-- the token is of a sync of the journal's disk, and the gate is the other slot's;
-- a gate is half-way open only where a call failed
abbrev pub IsHeld : {D : Type 0} (honest : D → Type 0) (moment : D → ℕ) → JournalState D → ℕ →
    Held D → Type 0
IsHeld honest moment journal slot held.Begin = Unit {0}
IsHeld honest moment journal slot held.Close = Unit {0}
IsHeld honest moment journal slot held.SyncClose = Unit {0}
IsHeld honest moment journal slot held.Part = Unit {0}
IsHeld honest moment journal slot held.Tail = Unit {0}
IsHeld honest moment journal slot held.SyncBody = Unit {0}
IsHeld honest moment journal slot (held.Open synced) =
    IsSyncOf honest moment journal.disk journal.disk_name synced
IsHeld honest moment journal slot held.Opening = journal.phase ≡ Failed
IsHeld honest moment journal slot (held.SyncOpen gate) = gate.at ≡ slot
