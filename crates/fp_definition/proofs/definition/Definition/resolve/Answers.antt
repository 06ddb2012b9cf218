use Rattle.std.proofs.Common.{◌≡◌, None, sym, ◌∙◌, rules}
use Rattle.serde_json.specs.View.{view}
use Rattle.fp_definition.specs.Key.{key_bytes}
use Rattle.fp_definition.specs.Resolving.{Resolves, by_default, data_of}
use Rattle.fp_definition.specs.declared.resolving.Reason.TheVariants.{Static}
use Rattle.fp_definition.proofs.Said.{resolves_default, spells}
use Rattle.fp_definition.proofs.definition.Definition.resolve.Goals as goal

pub returns-in-None-clause-resolves : goal.returns-in-None-clause-resolves
returns-in-None-clause-resolves c =
    let d = data_of c.args.self.now in
    let none : c.rule.result.now ≡ None = search rules in
    spells c.default_of.result (by_default Static d)
    (Resolves d (key_bytes c.args.key.now) (view c.args.context.now) c.args.now)
    (resolves_default d (key_bytes c.args.key.now) (view c.args.context.now) c.args.now
    (sym c.is_disabled.ensures ∙ c.if-is_disabled.false) (sym c.rule.ensures ∙ none))
    c.default_of.ensures.resolves
