-- A store from inside, over two slots of a disk.
use Rattle.std.specs.Prelude.{◌≡◌, ◌<◌, ◌≤◌, Bool, true, false, List, length}
use Rattle.std.specs.List.{AllByRecursion}
use Rattle.fp_compaction.specs.Batches.{HasRoomFor, tail_of}
use Rattle.fp_compaction.specs.Sets.{place_of}
use Rattle.fp_edit.specs.Edits.{Change}
use Rattle.fp_journal.specs.State.{has_begun, room}
use Rattle.fp_journal.specs.declared.journal.Phase as journal
use Rattle.fp_journal.specs.declared.journal.Phase.TheVariants as at
use Rattle.fp_record.specs.Encoding.{batch_len}
use Rattle.fp_record.specs.Group.{Group}
use Rattle.fp_record.specs.Numbers.{MOST_EDITS}
use Rattle.fp_recovery.specs.Stands.{IsAllowed}
use Rattle.fp_slots.specs.State.{SlotsState}
use Rattle.fp_group_commit.specs.Store.{StoreState}
use Rattle.fp_group_commit.specs.Tokens.{Identity}
use Rattle.fp_group_commit.specs.declared.phase.Phase.{Phase}
use Rattle.fp_group_commit.specs.declared.phase.Phase.TheVariants.{Idle, Staged, BodySynced}
use Rattle.fp_group_commit.specs.declared.phase.Phase.TheVariants.{GateOpened}

-- the edits sealed so far, the batch on its way, and the slots that keep both
pub record Inside (D : Type 0) : Type 0 where
  pub store : Identity
  pub sealed : List Change
  pub staged : List Change
  pub phase : Phase
  pub slots : SlotsState D

abbrev pub is_failed : journal.Phase → Bool
is_failed at.Idle = false
is_failed at.Staged = false
is_failed at.BodySynced = false
is_failed at.GateOpened = false
is_failed at.Failed = true

-- how the store is seen
abbrev pub seen : {D : Type 0} → Inside D → StoreState D
seen s = record {
  store = s.store;
  sealed = s.sealed;
  staged = s.staged;
  phase = s.phase;
  begun = has_begun s.slots.journal.phase s.slots.journal.begun;
  disk = s.slots.journal.disk;
  failed = is_failed s.slots.journal.phase;
  most = s.slots.journal.slot.most;
  room = room s.slots.journal;
  compaction = record {
    next = s.slots.step;
    head = s.slots.head;
    left = s.slots.left;
    tail = tail_of s.slots;
    generation = s.slots.generation;
    version = s.slots.version;
  };
  place = place_of s.slots.journal;
  other = s.slots.other;
  may_open = s.slots.may_open;
}

-- the phase of the journal, where no call failed
abbrev pub journal_phase : Phase → journal.Phase
journal_phase Idle = at.Idle
journal_phase Staged = at.Staged
journal_phase BodySynced = at.BodySynced
journal_phase GateOpened = at.GateOpened

-- a store goes on from these slots
pub record IsOver {D : Type 0} (slots : SlotsState D) (s : StoreState D) : Type 0 where
  pub disk : s.disk ≡ slots.journal.disk
  pub place : s.place ≡ place_of slots.journal
  pub other : s.other ≡ slots.other
  pub may_open : s.may_open ≡ slots.may_open
  pub generation : s.compaction.generation ≡ slots.generation
  pub version : s.compaction.version ≡ slots.version

-- the slots take the group as the next batch
pub record HasPlace {D : Type 0} (slots : SlotsState D) (group : Group) : Type 0 where
  pub some : 0 < length group.changes
  pub few : length group.changes ≤ MOST_EDITS
  pub room : HasRoomFor slots (batch_len group)
  pub allowed : AllByRecursion (IsAllowed slots.version) group.changes
