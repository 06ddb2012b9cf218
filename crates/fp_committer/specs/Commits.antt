-- The plain machine of the edits, from where they are handed in to where they are settled and told:
-- a desk, and how far its drawn edits are. It has no disk.
use Rattle.std.specs.Prelude.{◌≡◌, ◌≢◌, ◌⊎◌, ◌<◌, ◌≤◌, ◌+◌, ℕ, max, Bool, List, [], ◌∷◌}
use Rattle.std.specs.Prelude.{◌++◌, length}
use Rattle.fp_edit.specs.Edits.{Change, Proposal, proposal_of}
use Rattle.fp_edit.specs.Flags.{State}
use Rattle.fp_edit.specs.Following.{change_of}
use Rattle.fp_edit.specs.Log.{after_all}
use Rattle.fp_record.specs.Group.{Group}
use Rattle.fp_desk.specs.Desk.{DeskState, IsAccepted, IsNewDraw, Refuses, log, settled_revision}
use Rattle.fp_desk.specs.declared.fault.SubmitFault.TheVariants as submit
use Rattle.fp_committer.specs.declared.event.Answer.{Answer}
use Rattle.fp_committer.specs.declared.event.Answer.TheVariants as answer
use Rattle.fp_committer.specs.declared.event.Event.{Event}
use Rattle.fp_committer.specs.declared.event.Event.TheVariants as event
use Rattle.fp_group_commit.specs.Store.{Compaction}
use Rattle.fp_committer.specs.Way.{Progress, Taken, Way, read_edits}
use Rattle.fp_committer.specs.Way.{batch_drawn, batch_sealed, nothing_drawn}
use Rattle.fp_committer.specs.Way.{OpensGate, Seals, Stages, StepsOn, SyncsBody}

-- The desk, how far its drawn edits are, whether the device failed, the most bytes of a batch's
-- body and those left for batches, the greatest revision that was told, and how far a compaction is
pub record Commits : Type 0 where
  pub desk : DeskState
  pub progress : Progress
  pub failed : Bool
  pub most : ℕ
  pub room : ℕ
  pub told : ℕ
  pub compaction : Compaction

-- the revision that the last accepted edit makes
abbrev pub last_revision : DeskState → ℕ
last_revision d = d.store.start.revision + length (log d)

-- what was drawn of a desk, and what of it is settled
abbrev pub taken_from : DeskState → Taken
taken_from d = record { start = d.store.start; settled = d.settled; drawn = d.drawn }

-- how far that is
abbrev pub way_of : Commits → Way
way_of m = record {
  progress = m.progress;
  failed = m.failed;
  most = m.most;
  room = m.room;
  compaction = m.compaction;
}

abbrev pub gone_on : Commits → Way → Commits
gone_on m w = record {
  desk = m.desk;
  progress = w.progress;
  failed = w.failed;
  most = w.most;
  room = w.room;
  told = m.told;
  compaction = w.compaction;
}

-- what was drawn is settled
abbrev pub all_settled : DeskState → DeskState
all_settled d = record d { settled = d.settled ++ d.drawn; drawn = []; last = d.drawn }

-- ---- from old, the machine may give this answer to an event and go on to new
-- the edit stands at the end of the log, or the first reason against it is told
abbrev pub Submits : Proposal → Commits → Answer → Commits → Type 0
Submits edit old (answer.Ticket revision) new =
    IsAccepted old.desk new.desk edit × (revision ≡ last_revision new.desk)
    × (new ≡ record old { desk = new.desk })
Submits edit old (answer.Refused submit.Memory) new = new ≡ old
Submits edit old (answer.Refused submit.Stopped) new = ⊥
Submits edit old (answer.Refused submit.QueueFull) new = (new ≡ old)
    × Refuses old.desk edit submit.QueueFull
Submits edit old (answer.Refused (submit.Edit f)) new = (new ≡ old)
    × Refuses old.desk edit (submit.Edit f)
Submits edit old _ new = ⊥

-- the longest first part of what waits is drawn, where nothing is and something waits
abbrev pub DrawsNext : Commits → Answer → Commits → Type 0
DrawsNext old (answer.Drawn count) new = (group : Group) × IsNewDraw old.desk new.desk group
    × (count ≡ length group.changes)
    × (new ≡ record old { desk = new.desk; progress = batch_drawn })
DrawsNext old answer.Memory new = (new ≡ old) × (old.desk.drawn ≡ []) × (old.desk.waiting ≢ [])
DrawsNext old answer.NotNow new = (new ≡ old) × ((old.desk.drawn ≢ []) ⊎ (old.desk.waiting ≡ []))
DrawsNext old _ new = ⊥

-- the drawn edits go on their way, and nothing else changes
abbrev pub GoesOnBy : (Taken → Way → Answer → Way → Type 0) → Commits → Answer → Commits → Type 0
GoesOnBy Does old a new = Does (taken_from old.desk) (way_of old) a (way_of new)
    × (new ≡ gone_on old (way_of new))

-- all that is sealed is settled
abbrev pub Settles : Commits → Answer → Commits → Type 0
Settles old (answer.Settled revision) new = (old.progress ≡ batch_sealed)
    × (revision ≡ settled_revision old.desk + length old.desk.drawn)
    × (new ≡ record old { desk = all_settled old.desk; progress = nothing_drawn })
Settles old answer.Memory new = (old.progress ≡ batch_sealed) × (new ≡ old)
Settles old answer.NotNow new = (old.progress ≢ batch_sealed) × (new ≡ old)
Settles old _ new = ⊥

-- the editor of the edit that makes this revision hears whether it is settled
abbrev pub Acknowledges : ℕ → Commits → Answer → Commits → Type 0
Acknowledges revision old (answer.Acked told) new = (told ≡ revision)
    × (old.desk.store.start.revision < revision) × (revision ≤ settled_revision old.desk)
    × (new ≡ record old { told = max old.told revision })
Acknowledges revision old answer.Waiting new =
    (settled_revision old.desk < revision) × (revision ≤ last_revision old.desk) × (new ≡ old)
Acknowledges revision old answer.NotNow new =
    ((revision ≤ old.desk.store.start.revision) ⊎ (last_revision old.desk < revision)) × (new ≡ old)
Acknowledges revision old _ new = ⊥

-- ---- events
abbrev pub CommitStep : Commits → Event → Answer → Commits → Type 0
CommitStep old (event.Submit edit) a new = Submits (proposal_of edit) old a new
CommitStep old event.Draw a new = DrawsNext old a new
CommitStep old event.Stage a new = GoesOnBy Stages old a new
CommitStep old event.SyncBody a new = GoesOnBy SyncsBody old a new
CommitStep old event.OpenGate a new = GoesOnBy OpensGate old a new
CommitStep old event.SyncGate a new = GoesOnBy Seals old a new
CommitStep old event.Settle a new = Settles old a new
CommitStep old (event.Ack revision) a new = Acknowledges revision old a new
CommitStep old event.Compact a new = GoesOnBy StepsOn old a new

-- ---- what the answers alone say
-- the accepted edits: those that were answered by a ticket
abbrev pub accepted_by : Event → Answer → List Change
accepted_by (event.Submit edit) (answer.Ticket revision) = change_of edit ∷ []
accepted_by e a = []

-- the greatest revision that was acknowledged
abbrev pub told_after : ℕ → Answer → ℕ
told_after told (answer.Acked revision) = max told revision
told_after told a = told

-- ---- what opening the disk gives, where no call of it failed
abbrev pub opened_set : Commits → State
opened_set m = after_all m.desk.store.start (read_edits (taken_from m.desk) (way_of m))
