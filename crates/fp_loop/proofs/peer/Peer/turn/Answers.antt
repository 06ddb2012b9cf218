use Rattle.std.proofs.Common.{◌∙◌, ap, refl, Some}
use Rattle.http_server.proofs.Theorems.{always_served}
use Rattle.fp_loop.specs.Peers.{config_of, history_of}
use Rattle.fp_loop.proofs.Talking.{talks_none, talks_then}
use Rattle.fp_loop.proofs.peer.Peer.turn.Goals as goal

pub loop-init : goal.loop-init
loop-init g c =
    (talks_none g.S.Service.answers (config_of c.args.self.now) c.args.service.now.service (history_of c.args.self.now), refl)

pub returns-in-Some-clause-talks : goal.returns-in-Some-clause-talks
returns-in-Some-clause-talks g c =
    talks_then g.S.Service.answers _ _ _ _ _ _ _ _ c.loop.invariant.1 c.loop.invariant.0 c.step.ensures.talks

pub returns-in-Some-clause-served : goal.returns-in-Some-clause-served
returns-in-Some-clause-served g c = always_served c.step.new.self.connection

pub loop-preserved : goal.loop-preserved
loop-preserved g c = (
  talks_then g.S.Service.answers _ _ _ _ _ _ _ _ c.loop.invariant.1 c.loop.invariant.0 c.step.ensures.talks,
  c.step.ensures.config ∙ c.loop.invariant.1,
)

pub returns-clause-served : goal.returns-clause-served
returns-clause-served g c = always_served c.loop.self.connection

pub returns-in-Some-clause-waits : goal.returns-in-Some-clause-waits
returns-in-Some-clause-waits g c waits stays = c.step.ensures.waits (c.in-Some.is ∙ ap Some waits) stays
