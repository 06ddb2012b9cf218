use Rattle.std.proofs.Common.{◌∙◌, ap, sym, subst, Some}
use Rattle.std.proofs.Math.Logic.{∥∥₁_map}
use Rattle.http_server.specs.Connection.{config_of, history}
use Rattle.http_server.specs.History.{IsServed}
use Rattle.http_server.specs.declared.state.State.TheVariants.{Closing}
use Rattle.fp_loop.proofs.Talking.{calls_serve, rested_of}
use Rattle.fp_loop.proofs.talk.is_at_rest.Goals as goal

pub returns-in-Closing-EndOfInput-clause-rested : goal.returns-in-Closing-EndOfInput-clause-rested
returns-in-Closing-EndOfInput-clause-rested g c done =
    let ok = c.in-Ok.ensures.ok in
    let quiet = c.advance.ensures.quiet in
    let config = c.advance.ensures.config ∙ c.read_from.ensures.config in
    let closed =
    sym c.state.ensures ∙ c.in-Closing-EndOfInput.is ∙ ap Closing c.in-Closing-EndOfInput.field-0-is in
    ∥∥₁_map c.advance.ensures.served
    (λ served. rested_of (λ k. k.service) g.S.Service.answers _ _ (config_of c.args.connection.now)
    (history c.args.connection.now) (history c.read_from.new.self) (history c.advance.new.self)
    (Some c.read_from.new.reader.now) ok.0 ok.3 ok.2
    (subst (λ k. IsServed k (history c.advance.new.self)) config served)
    closed (c.is_done.ensures.0 done).1 quiet.0 quiet.2 c.advance.ensures.calls)

pub returns-in-Closing-EndOfInput-clause-serves : goal.returns-in-Closing-EndOfInput-clause-serves
returns-in-Closing-EndOfInput-clause-serves g c =
    calls_serve (λ k. k.service) g.S.Service.answers _ _ _ _ c.advance.ensures.calls

pub returns-in_default-state-clause-serves : goal.returns-in_default-state-clause-serves
returns-in_default-state-clause-serves g c =
    calls_serve (λ k. k.service) g.S.Service.answers _ _ _ _ c.advance.ensures.calls

pub returns-in_default-state-2-clause-serves : goal.returns-in_default-state-2-clause-serves
returns-in_default-state-2-clause-serves g c =
    calls_serve (λ k. k.service) g.S.Service.answers _ _ _ _ c.advance.ensures.calls
