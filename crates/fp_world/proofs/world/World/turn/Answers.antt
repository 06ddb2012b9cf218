use Rattle.std.proofs.Common.{refl}
use Rattle.fp_committer.specs.declared.event.Event.TheVariants as commit
use Rattle.fp_world.specs.declared.event.Event.TheVariants as event
use Rattle.fp_world.proofs.Turns as turns
use Rattle.fp_world.proofs.world.World.turn.Goals as goal

pub returns-in-Submit : goal.returns-in-Submit
returns-in-Submit g c =
    let w = c.self.inside in
    rw (← c.self.view_is, c.in-Submit.is, c.into.ensures)
    (turns.committed g.D.Disk _ _ c.submit.result w.committer c.submit.new.self w.views (λ P Else p. p)
    (turns.taken_same _ c.submit.result) refl c.submit.ensures)

pub returns-in-Ack : goal.returns-in-Ack
returns-in-Ack g c =
    let w = c.self-in-Ack.inside in
    rw (← c.self-in-Ack.view_is, c.in-Ack.is, c.into-in-Ack.ensures)
    (turns.committed g.D.Disk _ _ c.ack.result w.committer c.ack.new.self w.views (λ P Else p. p) refl refl
    c.ack.ensures)

pub returns-in-Draw : goal.returns-in-Draw
returns-in-Draw g c =
    let w = c.self-in-Draw.inside in
    rw (← c.self-in-Draw.view_is, c.in-Draw.is, c.into-in-Draw.ensures)
    (turns.committed g.D.Disk event.Draw commit.Draw c.draw.result w.committer c.draw.new.self w.views
    (λ P Else p. p) refl refl c.draw.ensures)

pub returns-in-Stage : goal.returns-in-Stage
returns-in-Stage g c =
    let w = c.self-in-Stage.inside in
    rw (← c.self-in-Stage.view_is, c.in-Stage.is, c.into-in-Stage.ensures)
    (turns.committed g.D.Disk event.Stage commit.Stage c.stage.result w.committer c.stage.new.self w.views
    (λ P Else p. p) refl refl c.stage.ensures)

pub returns-in-SyncBody : goal.returns-in-SyncBody
returns-in-SyncBody g c =
    let w = c.self-in-SyncBody.inside in
    rw (← c.self-in-SyncBody.view_is, c.in-SyncBody.is, c.into-in-SyncBody.ensures)
    (turns.committed g.D.Disk event.SyncBody commit.SyncBody c.sync_body.result w.committer c.sync_body.new.self
    w.views (λ P Else p. p) refl refl c.sync_body.ensures)

pub returns-in-OpenGate : goal.returns-in-OpenGate
returns-in-OpenGate g c =
    let w = c.self-in-OpenGate.inside in
    rw (← c.self-in-OpenGate.view_is, c.in-OpenGate.is, c.into-in-OpenGate.ensures)
    (turns.committed g.D.Disk event.OpenGate commit.OpenGate c.open_gate.result w.committer c.open_gate.new.self
    w.views (λ P Else p. p) refl refl c.open_gate.ensures)

pub returns-in-SyncGate : goal.returns-in-SyncGate
returns-in-SyncGate g c =
    let w = c.self-in-SyncGate.inside in
    rw (← c.self-in-SyncGate.view_is, c.in-SyncGate.is, c.into-in-SyncGate.ensures)
    (turns.committed g.D.Disk event.SyncGate commit.SyncGate c.sync_gate.result w.committer c.sync_gate.new.self
    w.views (λ P Else p. p) refl refl c.sync_gate.ensures)

pub returns-in-Settle : goal.returns-in-Settle
returns-in-Settle g c =
    let w = c.self-in-Settle.inside in
    rw (← c.self-in-Settle.view_is, c.in-Settle.is, c.into-in-Settle.ensures)
    (turns.committed g.D.Disk event.Settle commit.Settle c.settle.result w.committer c.settle.new.self w.views
    (λ P Else p. p) refl refl c.settle.ensures)

pub returns-in-Compact : goal.returns-in-Compact
returns-in-Compact g c =
    let w = c.self-in-Compact.inside in
    rw (← c.self-in-Compact.view_is, c.in-Compact.is, c.into-in-Compact.ensures)
    (turns.committed g.D.Disk event.Compact commit.Compact c.compact.result w.committer c.compact.new.self
    w.views (λ P Else p. p) refl refl c.compact.ensures)
