use Rattle.std.proofs.Common.{sym, ap, ◌∙◌, subst}
use Rattle.fp_machine.specs.Sound.{IsSound}
use Rattle.fp_machine.specs.Reading.{rule_of_code}
use Rattle.fp_targeting.specs.Moment.{IsTimeless}
use Rattle.fp_targeting.proofs.Moments.{code-timeless}
use Rattle.fp_targeting.proofs.rule.Rule.reads_moment.Goals as goal

pub returns : goal.returns
returns c h =
    let code = c.deref.ensures in
    subst IsTimeless (ap rule_of_code code ∙ c.self.view_is)
    (code-timeless c.deref.result.now (subst IsSound (sym code) c.self.invariant) (sym c.reads_moment.ensures ∙ h))
