use Rattle.std.proofs.Common.{sym, ap, ◌∙◌}
use Rattle.std.specs.Prelude.{bytes_eq, codes, if◌then◌else◌, Option}
use Rattle.fp_ofrep.specs.Reply.{reply_to_route}
use Rattle.fp_ofrep.specs.Response.{Response, not_allowed}
use Rattle.fp_ofrep.specs.Route.{Route}
use Rattle.fp_ofrep.proofs.LawLemmas.{posted-key, posted-same}
use Rattle.fp_ofrep.proofs.laws.one_flag_is_looked_at.Goals as goal

pub returns-clause-others : goal.returns-clause-others
returns-clause-others c = λ a b method target segment if_none_match body now is revision flag.
    ap (λ (r : Option Route). reply_to_route a r method if_none_match body now) is
    ∙ ap (λ (r : Response). if bytes_eq method (codes "POST") then r else not_allowed)
    (posted-same a b segment if_none_match body now revision flag)
    ∙ sym (ap (λ (r : Option Route). reply_to_route b r method if_none_match body now) is)

pub returns-clause-key : goal.returns-clause-key
returns-clause-key c = λ set target segment if_none_match body now is text.
    ap (λ (r : Option Route). reply_to_route set r (codes "POST") if_none_match body now) is
    ∙ posted-key set segment if_none_match body now text
