use Rattle.std.proofs.Common.{◌∙◌, sym, subst}
use Rattle.http_server.specs.Connection.{history}
use Rattle.fp_loop.specs.Talks.{Talks}
use Rattle.fp_loop.specs.Peers.{config_of, history_of}
use Rattle.fp_loop.proofs.Talking.{says_talks}
use Rattle.fp_loop.proofs.peer.Peer.send.Goals as goal

pub returns-then-eq-clause-talks : goal.returns-then-eq-clause-talks
returns-then-eq-clause-talks g c =
    subst
    (λ k. Talks g.S.Service.answers (config_of c.args.self.now) c.args.service.now.service
    c.say-turn.new.service.service (history_of c.args.self.now) (history k))
    (sym (c.wait.ensures ∙ c.finish_if.ensures)) (says_talks g.S.Service.answers _ _ _ _ _ _ _ c.say-turn.ensures.said)

pub returns-else-eq-clause-talks : goal.returns-else-eq-clause-talks
returns-else-eq-clause-talks g c = says_talks g.S.Service.answers _ _ _ _ _ _ _ c.say-turn.ensures.said
