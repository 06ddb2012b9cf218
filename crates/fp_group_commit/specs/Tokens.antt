-- What tokens say of a store's sealed edits.
use Rattle.std.specs.Prelude.{◌≡◌, ◌+◌, ◌≤◌, ◌^◌, ℕ, List, [], ◌∷◌, ◌++◌, length}
use Rattle.std.specs.FinMap as map
use Rattle.fp_edit.specs.Edits.{Change}
use Rattle.fp_edit.specs.Flags.{State}
use Rattle.fp_edit.specs.Log.{after_all}
use Rattle.fp_record.specs.Group.{Group}

-- which store it is, and the set that it started from
pub record Identity : Type 0 where
  pub name : ℕ
  pub start : State

-- a beginning of a store's sealed edits
pub record FrontState : Type 0 where
  pub store : Identity
  pub edits : List Change

-- the last revision that it reaches
abbrev pub front_revision : FrontState → ℕ
front_revision f = f.store.start.revision + length f.edits

-- the set that it leads to
abbrev pub front_set : FrontState → State
front_set f = after_all f.store.start f.edits

-- such a beginning, which batches came to one after another, and the last of them
pub record SettledState : Type 0 where
  pub store : Identity
  pub edits : List Change
  pub last : List Change

abbrev pub front_of : SettledState → FrontState
front_of s = record { store = s.store; edits = s.edits }

-- some edits, and then these
abbrev pub EndsWith : List Change → List Change → Type 0
EndsWith edits last = (before : List Change) × (edits ≡ before ++ last)

-- what a receipt says: all that the store kept, and the batch that came last
pub record ReceiptState : Type 0 where
  pub store : Identity
  pub edits : List Change
  pub batch : Group

-- the edits end with those of the batch, which have the revisions behind the others
pub record IsReceipt (r : ReceiptState) : Type 0 where
  pub before : List Change
  pub whole : r.edits ≡ before ++ r.batch.changes
  pub place : r.batch.first ≡ r.store.start.revision + length before + 1
  pub numbered : r.batch.first + length r.batch.changes ≤ 2 ^ 63

-- no flags, where a list that tells of a start tells nothing
abbrev pub first_of : List State → State
first_of [] = record { flags = map.empty; revision = 0; limit = 0 }
first_of (s ∷ rest) = s
