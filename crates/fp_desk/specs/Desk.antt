-- A desk: what is settled, what is drawn and what waits.
use Rattle.std.specs.Prelude.{◌≡◌, ◌≢◌, ◌⊎◌, ◌<◌, ◌≤◌, ◌+◌, ◌-◌, ◌/◌, ℕ, Bool, true, false, List}
use Rattle.std.specs.Prelude.{[], ◌∷◌, ◌++◌, length, Option, None, Some}
use Rattle.fp_edit.specs.Admits.{Admits, accepted, refusal}
use Rattle.fp_edit.specs.Edits.{Change, Proposal, change_in}
use Rattle.fp_edit.specs.Flags.{State}
use Rattle.fp_edit.specs.Log.{after_all}
use Rattle.fp_edit.specs.Numbers.{REVISIONS_END}
use Rattle.fp_record.specs.Group.{Group}
use Rattle.fp_edit.specs.Numbers.{LONGEST_EDIT}
use Rattle.fp_record.specs.Encoding.{batch_len}
use Rattle.fp_record.specs.Numbers.{BATCH_HEAD, MOST_EDITS}
use Rattle.fp_desk.specs.Numbers.{MOST_QUEUED}
use Rattle.fp_pending.specs.Following.{Follows}
use Rattle.fp_group_commit.specs.Changes.{GoesOn}
use Rattle.fp_group_commit.specs.Tokens.{FrontState, Identity, ReceiptState}
use Rattle.fp_desk.specs.declared.fault.SubmitFault.{SubmitFault}
use Rattle.fp_desk.specs.declared.fault.SubmitFault.TheVariants as submit
use Rattle.fp_desk.specs.declared.fault.SettleFault.{SettleFault}
use Rattle.fp_desk.specs.declared.fault.SettleFault.TheVariants as settle
use Rattle.fp_journal.specs.Numbers.{FRAME}

-- What is settled, drawn and waits, in commit order; whether no edit is taken any more; and the batch
-- that was settled last
pub record DeskState : Type 0 where
  pub store : Identity
  pub settled : List Change
  pub drawn : List Change
  pub waiting : List Change
  pub stopped : Bool
  pub last : List Change

-- all edits that were accepted, in commit order
abbrev pub log : DeskState → List Change
log d = d.settled ++ (d.drawn ++ d.waiting)

-- the set that edits are judged by, and the one that is told
abbrev pub head : DeskState → State
head d = after_all d.store.start (log d)

abbrev pub settled_set : DeskState → State
settled_set d = after_all d.store.start d.settled

-- the front of the store's edits that is settled
abbrev pub settled_front : DeskState → FrontState
settled_front d = record { store = d.store; edits = d.settled }

abbrev pub settled_revision : DeskState → ℕ
settled_revision d = d.store.start.revision + length d.settled

-- how many edits aren't settled yet
abbrev pub unsettled_count : DeskState → ℕ
unsettled_count d = length d.drawn + length d.waiting

-- the edit that was handed in, with what its editor expected, and the revision that it makes
pub record TicketState : Type 0 where
  pub store : Identity
  pub revision : ℕ
  pub edit : Proposal

-- the most bytes of a batch's body, in a disk whose image takes this many bytes at most
abbrev pub most_of : ℕ → ℕ
most_of limit = limit / 4 - FRAME

-- the group with one change more
abbrev pub and_more : Group → Change → Group
and_more group c = record { first = group.first; changes = group.changes ++ c ∷ [] }

-- The group is a first part of what waits, and the longest of 1 to 64 edits within the most bytes.
-- Where these are fewer than the longest edit takes, which they are in no slot, one edit is taken
-- whatever it takes
pub record IsLongestPart (most : ℕ) (group : Group) (waiting rest : List Change) : Type 0 where
  pub parts : waiting ≡ group.changes ++ rest
  pub some : 0 < length group.changes
  pub few : length group.changes ≤ MOST_EDITS
  pub short : (length group.changes ≡ 1) ⊎ (batch_len group ≤ most)
  pub fits : BATCH_HEAD + LONGEST_EDIT ≤ most → batch_len group ≤ most
  pub longest : (rest ≡ []) ⊎ (length group.changes ≡ MOST_EDITS)
      ⊎ ((c : Change) (more : List Change) → rest ≡ c ∷ more → most < batch_len (and_more group c))

-- a change makes one batch with those that wait before it, of 1 to 64 edits within the most bytes;
-- the first one always does
abbrev pub FitsBehind : ℕ → List Change → Change → Type 0
FitsBehind most waiting c = (waiting ≡ [])
    ⊎ ((length waiting < MOST_EDITS)
    × (batch_len (record { first = 0; changes = waiting ++ c ∷ [] }) ≤ most))

-- the group is drawn, under the revisions behind the settled one
pub record IsNewDraw (old new : DeskState) (group : Group) : Type 0 where
  pub none_out : old.drawn ≡ []
  pub goes_on : GoesOn (settled_set old) group
  pub longest : IsLongestPart (most_of old.store.start.limit) group old.waiting new.waiting
  pub new_is : new ≡ record old { drawn = group.changes; waiting = new.waiting }

-- nothing is drawn where something is out or nothing waits; else a group
abbrev pub Draws : DeskState → DeskState → Option Group → Type 0
Draws old new None = (new ≡ old) × ((old.drawn ≢ []) ⊎ (old.waiting ≡ []))
Draws old new (Some group) = IsNewDraw old new group

-- the edit was accepted, at the end of the log
pub record IsAccepted (old new : DeskState) (edit : Proposal) : Type 0 where
  pub open_desk : old.stopped ≡ false
  pub admitted : Admits (head old) edit (accepted (head new))
  pub room : unsettled_count old < MOST_QUEUED
  pub new_is : new ≡ record old { waiting = old.waiting ++ change_in edit ∷ [] }

-- why an edit wasn't accepted: the first that applies
abbrev pub Refuses : DeskState → Proposal → SubmitFault → Type 0
Refuses d edit submit.Stopped = d.stopped ≡ true
Refuses d edit (submit.Edit fault) = (d.stopped ≡ false) × (refusal (head d) edit ≡ Some fault)
Refuses d edit submit.QueueFull = (d.stopped ≡ false) × (refusal (head d) edit ≡ None)
    × (unsettled_count d ≡ MOST_QUEUED)
Refuses d edit submit.Memory = (d.stopped ≡ false) × (refusal (head d) edit ≡ None)
    × (unsettled_count d < MOST_QUEUED)

-- the receipt's batch is what is drawn
abbrev pub IsDrawn : DeskState → ReceiptState → Type 0
IsDrawn d r = (d.drawn ≢ []) × (r.batch.first ≡ settled_revision d + 1)
    × (r.batch.changes ≡ d.drawn)

-- why a receipt wasn't spent
abbrev pub SettlesNot : DeskState → ReceiptState → SettleFault → Type 0
SettlesNot d r settle.Memory = IsDrawn d r
SettlesNot d r settle.Stranger = IsDrawn d r → ⊥

-- ---- the invariant
-- the head is what the whole log leads to; the base is behind the settled set by what lags
pub record IsSound (d : DeskState) (head_set base : State) (lag : List Change) : Type 0 where
  pub head_is : head_set ≡ head d
  pub base_is : after_all base lag ≡ settled_set d
  pub lag_follows : Follows base lag
  pub follows : Follows (settled_set d) (d.drawn ++ d.waiting)
  pub few : unsettled_count d ≤ MOST_QUEUED
  pub bounded : (head d).revision < REVISIONS_END
