use Rattle.std.proofs.Common.{sym, ap, ◌∙◌}
use Rattle.fp_definition.specs.declared.resolving.Reason.TheVariants.{Static, Default, TargetingMatch}
use Rattle.fp_ofrep.proofs.Written.{before, literal_is}
use Rattle.fp_ofrep.proofs.write.before_value.Goals as goal

pub returns-in-Static : goal.returns-in-Static
returns-in-Static c = literal_is Static ∙ ap before (sym c.in-Static.is)

pub returns-in-Default : goal.returns-in-Default
returns-in-Default c = literal_is Default ∙ ap before (sym c.in-Default.is)

pub returns-in-TargetingMatch : goal.returns-in-TargetingMatch
returns-in-TargetingMatch c = literal_is TargetingMatch ∙ ap before (sym c.in-TargetingMatch.is)
