use Rattle.std.proofs.Common.{◌∙◌, sym, subst}
use Rattle.http_server.specs.Connection.{history}
use Rattle.fp_loop.specs.Talks.{Talks}
use Rattle.fp_loop.specs.Peers.{config_of, history_of}
use Rattle.fp_loop.proofs.Talking.{hears_talks}
use Rattle.fp_loop.proofs.peer.Peer.receive.Goals as goal

pub returns-clause-talks : goal.returns-clause-talks
returns-clause-talks g c =
    subst
    (λ k. Talks g.S.Service.answers (config_of c.args.self.now) c.args.service.now.service
    c.hear.new.service.service (history_of c.args.self.now) (history k))
    (sym (c.wait.ensures ∙ (c.finish_if.ensures ∙ c.begin.ensures.connection)))
    (hears_talks g.S.Service.answers _ _ _ _ _ _ _ c.hear.ensures.heard)
