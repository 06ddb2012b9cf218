-- Events and answers, of which those of the edits are a committer's.
use Rattle.std.specs.Prelude.{◌≡◌, ◌<◌, ℕ, max, List, [], ◌∷◌}
use Rattle.fp_disk.specs.declared.history.CallKind.{CallKind}
use Rattle.fp_edit.specs.Edits.{Change}
use Rattle.fp_edit.specs.Following.{change_of}
use Rattle.fp_group_commit.specs.Tokens.{front_revision}
use Rattle.fp_group_commit.specs.declared.fault.StoreFault.TheVariants as fault
use Rattle.fp_committer.specs.Committer.{MakesItsCall as MakesOfCommitter}
use Rattle.fp_committer.specs.declared.event.Answer.{Answer as Reply}
use Rattle.fp_committer.specs.declared.event.Answer.TheVariants as reply
use Rattle.fp_committer.specs.declared.event.Event.{Event as Commit}
use Rattle.fp_committer.specs.declared.event.Event.TheVariants as commit
use Rattle.fp_world.specs.declared.event.Answer.{Answer}
use Rattle.fp_world.specs.declared.event.Answer.TheVariants as answer
use Rattle.fp_world.specs.declared.event.Event.{Event}
use Rattle.fp_world.specs.declared.event.Event.TheVariants as event

-- the committer's answer, as the world gives it
abbrev pub answer_by : Reply → Answer
answer_by reply.NotNow = answer.NotNow
answer_by reply.Memory = answer.Memory
answer_by (reply.Refused f) = answer.Refused f
answer_by (reply.Fault f) = answer.Fault f
answer_by (reply.Ticket revision) = answer.Ticket revision
answer_by (reply.Drawn count) = answer.Drawn count
answer_by reply.Done = answer.Done
answer_by (reply.Sealed revision) = answer.Sealed revision
answer_by (reply.Settled revision) = answer.Settled revision
answer_by (reply.Acked revision) = answer.Acked revision
answer_by reply.Waiting = answer.Waiting
answer_by (reply.Phase step) = answer.Phase step

-- it is the committer's answer to this
abbrev pub IsAnsweredBy : Answer → (Reply → Type 0) → Type 0
IsAnsweredBy a Says = (said : Reply) × (a ≡ answer_by said) × Says said

-- an event of the edits' way is the committer's, and any other isn't
abbrev pub ByCommitter : Event → (Commit → Type 0) → Type 0 → Type 0
ByCommitter (event.Submit edit) Does Else = Does (commit.Submit edit)
ByCommitter event.Draw Does Else = Does commit.Draw
ByCommitter event.Stage Does Else = Does commit.Stage
ByCommitter event.SyncBody Does Else = Does commit.SyncBody
ByCommitter event.OpenGate Does Else = Does commit.OpenGate
ByCommitter event.SyncGate Does Else = Does commit.SyncGate
ByCommitter event.Settle Does Else = Does commit.Settle
ByCommitter (event.Ack revision) Does Else = Does (commit.Ack revision)
ByCommitter event.Compact Does Else = Does commit.Compact
ByCommitter event.Publish Does Else = Else
ByCommitter (event.Hand seat) Does Else = Else
ByCommitter (event.Evaluate reader request now) Does Else = Else

-- which events make a call of the disk
abbrev pub MakesItsCall : Event → Answer → (old new : List CallKind) → Type 0
MakesItsCall e a old new =
    ByCommitter e (λ c. IsAnsweredBy a (λ said. MakesOfCommitter c said old new)) (new ≡ old)

-- the disk's count of failures rose exactly where that is answered
abbrev pub RisesFor : Answer → (before now : ℕ) → Type 0
RisesFor (answer.Fault fault.Device) before now = before < now
RisesFor _ before now = now ≡ before

-- ---- what the answers alone say
-- the accepted edits: those that were answered by a ticket
abbrev pub accepted_by : Event → Answer → List Change
accepted_by (event.Submit edit) (answer.Ticket revision) = change_of edit ∷ []
accepted_by e a = []

-- the greatest revision that was acknowledged, handed or answered
abbrev pub told_after : ℕ → Answer → ℕ
told_after told (answer.Acked revision) = max told revision
told_after told (answer.Handed handed) = max told (front_revision handed)
told_after told (answer.Reply revision reply) = max told revision
told_after told a = told
