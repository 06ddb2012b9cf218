use Rattle.std.proofs.Common.{◌∙◌, ap, subst}
use Rattle.http_server.specs.Connection.{config_of, history}
use Rattle.http_server.specs.History.{Rests}
use Rattle.fp_loop.proofs.Talking.{says_of, says_none, says_only, rests_sent}
use Rattle.fp_loop.proofs.talk.say.Goals as goal

pub returns-in-Err-clause-said : goal.returns-in-Err-clause-said
returns-in-Err-clause-said g c =
    let err = c.in-Err.ensures.err in
    says_none g.S.Service.answers _ _ _ _ _ _ (ap history err.0) err.1

pub returns-then-paused-clause-said : goal.returns-then-paused-clause-said
returns-then-paused-clause-said g c =
    let ok = c.in-Ok.ensures.ok in
    let quiet = c.advance.ensures.quiet in
    let config = c.advance.ensures.config ∙ c.write_to.ensures.config in
    says_of (λ k. k.service) g.S.Service.answers _ _ _ _ _ _ _ _ c.in-Ok.count ok.0 ok.1
    quiet.0 quiet.2 c.advance.ensures.calls
    (λ rests. subst (λ k. Rests k (history c.advance.new.self)) config c.advance.ensures.rests)

pub returns-else-paused-clause-said : goal.returns-else-paused-clause-said
returns-else-paused-clause-said g c =
    let ok = c.in-Ok.ensures.ok in
    let h = history c.args.connection.now in
    says_only g.S.Service.answers _ _ _ _ _ _ c.in-Ok.count ok.0 ok.1
    (λ rests. rests_sent (config_of c.args.connection.now) h c.in-Ok.count rests
    (c.wants_read-paused.ensures.0 c.if-paused.false))
