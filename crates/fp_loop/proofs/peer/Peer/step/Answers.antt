use Rattle.fp_loop.specs.Peers.{config_of, history_of}
use Rattle.fp_loop.proofs.Talking.{talks_none}
use Rattle.fp_loop.proofs.Turns.{goes, no_turn, over}
use Rattle.fp_loop.proofs.peer.Peer.step.Goals as goal

pub returns-then-eq-clause-talks : goal.returns-then-eq-clause-talks
returns-then-eq-clause-talks g c =
    talks_none g.S.Service.answers (config_of c.args.self.now) c.args.service.now.service (history_of c.args.self.now)

pub returns-else-wants_read-clause-talks : goal.returns-else-wants_read-clause-talks
returns-else-wants_read-clause-talks g c =
    talks_none g.S.Service.answers (config_of c.args.self.now) c.args.service.now.service (history_of c.args.self.now)

pub returns-then-eq-2-clause-waits : goal.returns-then-eq-2-clause-waits
returns-then-eq-2-clause-waits g c waits = over waits

pub returns-then-service-calls-ge-CALLS-clause-waits : goal.returns-then-service-calls-ge-CALLS-clause-waits
returns-then-service-calls-ge-CALLS-clause-waits g c waits = goes waits

pub returns-clause-waits : goal.returns-clause-waits
returns-clause-waits g c waits = no_turn waits
