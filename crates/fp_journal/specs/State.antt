-- A journal as its callers see it, and what its slot holds at each phase.
use Rattle.std.specs.Prelude.{◌≡◌, ◌≢◌, ◌⊎◌, ◌<◌, ◌≤◌, ◌+◌, ◌-◌, ℕ, Bool, true, false, List, []}
use Rattle.std.specs.Prelude.{◌∷◌, ◌++◌, length}
use Rattle.std.specs.List.{AllByRecursion}
use Rattle.fp_disk.specs.Outcomes.{PendingState}
use Rattle.fp_gate.specs.Gates.{IsSyncOf}
use Rattle.fp_journal.specs.declared.slot.Slot.{Slot}
use Rattle.fp_journal.specs.declared.held.Held.{Held}
use Rattle.fp_journal.specs.declared.held.Held.TheVariants as held
use Rattle.fp_journal.specs.declared.journal.Phase.{Phase}
use Rattle.fp_journal.specs.declared.journal.Phase.TheVariants.{Idle, Staged, BodySynced}
use Rattle.fp_journal.specs.declared.journal.Phase.TheVariants.{GateOpened, Failed}
use Rattle.fp_journal.specs.Holds.{Holds, IsSynced}
use Rattle.fp_journal.specs.Chain.{Ends, with_length, with_gate, spell}
use Rattle.fp_journal.specs.Numbers.{FRAME}
use Rattle.fp_gate.specs.Numbers.{OPEN}

-- what a journal had sealed, and which one it was
pub record SealedBodies : Type 0 where
  pub name : ℕ
  pub bodies : List (List ℕ)

-- In its slot lie the front, which was there when the journal began, and the bodies sealed since;
-- one body more may be on its way. `begun` says whether a call began to open the gate in front of
-- it, which the phase alone tells until a call fails
pub record JournalState (D : Type 0) : Type 0 where
  pub disk : D
  pub disk_name : ℕ
  pub name : ℕ
  pub slot : Slot
  pub front : List ℕ
  pub sealed : List (List ℕ)
  pub staged : List ℕ
  pub phase : Phase
  pub begun : Bool

-- ---- what a list of bytes stands for
-- the slot has the front and the bodies, and a closed gate behind them
abbrev pub HasChain : Slot → List ℕ → List (List ℕ) → List ℕ → Type 0
HasChain slot front bodies c = Ends slot.start slot.stop (front ++ spell bodies) c

-- the same, or with one body more
abbrev pub HasChainOrNext : Slot → List ℕ → List (List ℕ) → List ℕ → List ℕ → Type 0
HasChainOrNext slot front bodies body c = HasChain slot front bodies c
    ⊎ HasChain slot front (bodies ++ body ∷ []) c

-- behind the closed gate stand the next body with its length, and a closed gate
pub record HasNext (slot : Slot) (front : List ℕ) (bodies : List (List ℕ))
    (body c : List ℕ) : Type 0 where
  pub chain : HasChain slot front bodies c
  pub next : Ends (slot.start + length (front ++ spell bodies) + 1) slot.stop (with_length body) c

-- a body is on its way
abbrev pub IsOnWay : Phase → Type 0
IsOnWay Idle = ⊥
IsOnWay Staged = Unit {0}
IsOnWay BodySynced = Unit {0}
IsOnWay GateOpened = Unit {0}
IsOnWay Failed = ⊥

-- did a call begin to open the gate in front of the body on its way; where one failed, this says it
abbrev pub has_begun : Phase → Bool → Bool
has_begun Idle begun = false
has_begun Staged begun = false
has_begun BodySynced begun = false
has_begun GateOpened begun = true
has_begun Failed begun = begun

-- what each outcome is, before and after a call began to open that gate
abbrev pub HasAmong : Bool → Slot → List ℕ → List (List ℕ) → List ℕ → List ℕ → Type 0
HasAmong false slot front bodies body c = HasChain slot front bodies c
HasAmong true slot front bodies body c = HasChainOrNext slot front bodies body c

-- what each outcome is at each phase
abbrev pub ClaimsAt : Phase → Bool → Slot → List ℕ → List (List ℕ) → List ℕ → List ℕ → Type 0
ClaimsAt phase begun slot front bodies body c =
    HasAmong (has_begun phase begun) slot front bodies body c

abbrev pub CrashStates : {D : Type 0} → JournalState D → List ℕ → Type 0
CrashStates k c = ClaimsAt k.phase k.begun k.slot k.front k.sealed k.staged c

-- what each outcome is once a sync at that phase succeeded
abbrev pub SecuresAt : Phase → Bool → Slot → List ℕ → List (List ℕ) → List ℕ → List ℕ → Type 0
SecuresAt Idle begun slot front bodies body c = HasChain slot front bodies c
SecuresAt Staged begun slot front bodies body c = HasNext slot front bodies body c
SecuresAt BodySynced begun slot front bodies body c = HasNext slot front bodies body c
SecuresAt GateOpened begun slot front bodies body c = HasChain slot front (bodies ++ body ∷ []) c
SecuresAt Failed begun slot front bodies body c = HasAmong begun slot front bodies body c

abbrev pub StatesAfterSync : {D : Type 0} → JournalState D → List ℕ → Type 0
StatesAfterSync k c = SecuresAt k.phase k.begun k.slot k.front k.sealed k.staged c

-- the n bytes from this place on are none of the slot's
abbrev pub Outside : Slot → ℕ → ℕ → Type 0
Outside slot at n = (at + n ≤ slot.start) ⊎ (slot.stop ≤ at)

-- how many bytes lie from the closed gate to the slot's end
abbrev pub room : {D : Type 0} → JournalState D → ℕ
room k = k.slot.stop - (k.slot.start + length (k.front ++ spell k.sealed))

-- the journal, its slot, the front and the disk's name are the same
abbrev pub SameSlot : {D : Type 0} → JournalState D → JournalState D → Type 0
SameSlot old new = (new.name ≡ old.name) × (new.slot ≡ old.slot) × (new.front ≡ old.front)
    × (new.disk_name ≡ old.disk_name)

-- ---- what the disk may be at each phase; text is the front and the bodies,
-- more the staged one behind its length
-- the text and its closed gate are firm
pub record EndsClosed (start stop : ℕ) (text : List ℕ) (u : PendingState) : Type 0 where
  pub gate : ℕ
  pub shut : gate ≢ OPEN
  pub firm : IsSynced u start (text ++ gate ∷ [])
  pub within : start + length text < stop

-- behind the text's gate stand more and a closed gate
pub record IsReady (start stop : ℕ) (text more b : List ℕ) : Type 0 where
  pub gate : ℕ
  pub shut : gate ≢ OPEN
  pub holds : Holds b (start + length text + 1) (more ++ gate ∷ [])
  pub within : start + length text + 1 + length more < stop

-- and are firm
pub record IsDurable (start stop : ℕ) (text more : List ℕ) (u : PendingState) : Type 0 where
  pub gate : ℕ
  pub shut : gate ≢ OPEN
  pub firm : IsSynced u (start + length text + 1) (more ++ gate ∷ [])
  pub within : start + length text + 1 + length more < stop

-- all is firm but the gate between the text and more
pub record IsBetween (start stop : ℕ) (text more : List ℕ) (u : PendingState) : Type 0 where
  pub front : IsSynced u start text
  pub back : IsDurable start stop text more u

-- what is left where a call failed, before and after one began to open that gate
abbrev pub IsLeft : Bool → PendingState → ℕ → ℕ → List ℕ → List ℕ → Type 0
IsLeft false u start stop text more = EndsClosed start stop text u
IsLeft true u start stop text more = EndsClosed start stop text u ⊎ IsBetween start stop text more u

abbrev pub IsAt : Phase → Bool → PendingState → List ℕ → ℕ → ℕ → List ℕ → List ℕ → List ℕ → Type 0
IsAt Idle begun u b start stop text more next = EndsClosed start stop text u
IsAt Staged begun u b start stop text more next = EndsClosed start stop text u
    × IsReady start stop text more b
IsAt BodySynced begun u b start stop text more next = EndsClosed start stop text u
    × IsDurable start stop text more u
IsAt GateOpened begun u b start stop text more next = Ends start stop next b
    × IsBetween start stop text more u
IsAt Failed begun u b start stop text more next = IsLeft begun u start stop text more

-- ---- what holds of the numbers alone
-- the bytes of a body on its way
pub record IsFrame (most left : ℕ) (body bytes : List ℕ) : Type 0 where
  pub shape : bytes ≡ with_gate body
  pub short : length body ≤ most
  pub fits : length body + FRAME ≤ left

abbrev pub InFlight : Phase → ℕ → ℕ → List ℕ → List ℕ → Type 0
InFlight Idle most left body bytes = Unit {0}
InFlight Staged most left body bytes = IsFrame most left body bytes
InFlight BodySynced most left body bytes = IsFrame most left body bytes
InFlight GateOpened most left body bytes = IsFrame most left body bytes
InFlight Failed most left body bytes = Unit {0}

-- no body is longer than that
abbrev pub AllShort : ℕ → List (List ℕ) → Type 0
AllShort most bodies = AllByRecursion (λ (b : List ℕ). length b ≤ most) bodies

-- ---- the invariant of a journal whose closed gate lies at this end,
-- and whose body on its way has these bytes
pub record IsKept {D : Type 0} (honest : D → Type 0) (bytes : D → List ℕ)
    (unsynced : D → PendingState) (k : JournalState D) (end : ℕ) (in_flight : List ℕ) : Type 0 where
  pub place : end ≡ k.slot.start + length (k.front ++ spell k.sealed)
  pub within : end < k.slot.stop
  pub short : AllShort k.slot.most k.sealed
  pub flight : InFlight k.phase k.slot.most (k.slot.stop - end) k.staged in_flight
  pub state : honest k.disk → IsAt k.phase k.begun (unsynced k.disk)
      (bytes k.disk) k.slot.start k.slot.stop (k.front ++ spell k.sealed) (with_length k.staged)
      (k.front ++ spell (k.sealed ++ k.staged ∷ []))

-- ---- what a journal keeps for its next call
abbrev pub phase_of : {D : Type 0} → Held D → Phase
phase_of held.Idle = Idle
phase_of held.Staged = Staged
phase_of (held.BodySynced synced) = BodySynced
phase_of (held.GateOpened gate) = GateOpened
phase_of (held.Failed begun) = Failed

-- did a call begin to open the gate in front of the body on its way
abbrev pub begun_of : {D : Type 0} → Held D → Bool
begun_of held.Idle = false
begun_of held.Staged = false
begun_of (held.BodySynced synced) = false
begun_of (held.GateOpened gate) = true
begun_of (held.Failed begun) = begun

-- the token is of a sync of its disk; the gate is the one in front of the body
abbrev pub IsHeld : {D : Type 0} (honest : D → Type 0) (moment : D → ℕ) → D → ℕ → ℕ → Held D →
    Type 0
IsHeld honest moment disk disk_name end held.Idle = Unit {0}
IsHeld honest moment disk disk_name end held.Staged = Unit {0}
IsHeld honest moment disk disk_name end (held.BodySynced synced) =
    IsSyncOf honest moment disk disk_name synced
IsHeld honest moment disk disk_name end (held.GateOpened gate) = gate.at ≡ end
IsHeld honest moment disk disk_name end (held.Failed begun) = Unit {0}
