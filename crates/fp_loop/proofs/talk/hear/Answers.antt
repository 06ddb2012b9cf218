use Rattle.std.proofs.Common.{◌∙◌, subst}
use Rattle.http_server.specs.Connection.{history}
use Rattle.http_server.specs.History.{Rests}
use Rattle.fp_loop.proofs.Talking.{hears_of, hears_none}
use Rattle.fp_loop.proofs.talk.hear.Goals as goal

pub returns-in-Ok-clause-heard : goal.returns-in-Ok-clause-heard
returns-in-Ok-clause-heard g c =
    let ok = c.in-Ok.ensures.ok in
    let quiet = c.advance.ensures.quiet in
    let config = c.advance.ensures.config ∙ c.read_from.ensures.config in
    hears_of (λ k. k.service) g.S.Service.answers _ _ _ _ _ _ _ _ ok.0 ok.3 ok.2 quiet.0 quiet.2
    c.advance.ensures.calls
    (subst (λ k. Rests k (history c.advance.new.self)) config c.advance.ensures.rests)

pub returns-in-Err-clause-heard : goal.returns-in-Err-clause-heard
returns-in-Err-clause-heard g c =
    let err = c.in-Err.ensures.err in
    hears_none g.S.Service.answers _ _ _ _ _ _ err.0 err.1
