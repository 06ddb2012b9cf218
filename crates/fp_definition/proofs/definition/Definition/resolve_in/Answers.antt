use Rattle.std.proofs.Common.{sym, ◌∙◌}
use Rattle.fp_definition.specs.Key.{key_bytes}
use Rattle.fp_definition.specs.Resolving.{Resolves, data_of}
use Rattle.fp_definition.proofs.Said.{resolves_rule, spells_weaker}
use Rattle.fp_definition.proofs.definition.Definition.resolve_in.Goals as goal

pub returns-clause-resolves : goal.returns-clause-resolves
returns-clause-resolves c = λ context now of_context.
    let d = data_of c.args.self.now in let key = key_bytes c.args.key.now in
    spells_weaker c.by_rule.result _ (Resolves d key context now)
    (resolves_rule d key context now (sym c.is_disabled.ensures ∙ c.if-is_disabled.false) c.in-Some.rule
    c.turn.new.«data» (sym c.rule.ensures ∙ c.in-Some.is) (c.turn.ensures context now of_context))
    c.by_rule.ensures.resolves
