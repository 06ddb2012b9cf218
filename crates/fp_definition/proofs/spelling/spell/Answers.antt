use Rattle.std.proofs.Common.{◌++◌, ap, ◌∙◌}
use Rattle.serde_json.specs.Written.{compact_text}
use Rattle.fp_base.specs.Json.{json_of}
use Rattle.fp_base.specs.TreeView.{tree_view}
use Rattle.fp_base.proofs.Printed.{reads_back}
use Rattle.fp_definition.proofs.spelling.spell.Goals as goal

pub returns-clause-reads : goal.returns-clause-reads
returns-clause-reads c =
    let d = tree_view c.args.tree.now in
    ap json_of (c.in_ok-put_definition.ensures.text ∙ ap (λ xs. xs ++ compact_text d) c.in_ok-with_capacity.ensures.items)
    ∙ reads_back d c.in_ok-put_definition.ensures.printed c.requires.ordered c.requires.whole c.requires.flat
