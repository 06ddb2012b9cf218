use Rattle.std.proofs.Common.{ap, sym, ◌∙◌}
use Rattle.std.specs.Arc.{arc_value}
use Rattle.fp_definition.specs.Resolving.{data_of}
use Rattle.fp_definition.specs.Valid.{is_definition_text}
use Rattle.fp_definition.proofs.Canonical.{is_definition_text-compact_text}
use Rattle.fp_definition.proofs.definition.Definition.text.Goals as goal

pub returns-clause-canonical : goal.returns-clause-canonical
returns-clause-canonical c =
    let text = (arc_value c.self.inside.share).text.items in
    ap is_definition_text (sym c.self.view_is)
    ∙ is_definition_text-compact_text text (data_of text) c.self.invariant.reads c.self.invariant.valid c.self.invariant.text
