use Rattle.std.proofs.Common.{sym, ◌∙◌, subst}
use Rattle.std.specs.Prelude.{IfSome}
use Rattle.fp_definition.specs.Resolving.{data_of}
use Rattle.fp_targeting.specs.Moment.{IsTimeless as RuleIsTimeless}
use Rattle.fp_definition.proofs.Timeless.{outcome-timeless}
use Rattle.fp_definition.proofs.definition.Definition.reads_moment.Goals as goal

pub returns-in-Some : goal.returns-in-Some
returns-in-Some c h =
    outcome-timeless (data_of c.args.self.now)
    (subst (λ r. IfSome r RuleIsTimeless) (sym c.in-Some.is ∙ c.rule.ensures) (c.reads_moment.ensures h))

pub returns-in-None : goal.returns-in-None
returns-in-None c h =
    outcome-timeless (data_of c.args.self.now) (subst (λ r. IfSome r RuleIsTimeless) (sym c.in-None.is ∙ c.rule.ensures) tt)
