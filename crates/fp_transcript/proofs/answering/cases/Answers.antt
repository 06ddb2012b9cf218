use Rattle.std.proofs.Common.{rules, ◌∙◌}
use Rattle.std.proofs.lemmas.Iterator.Consumers.{YieldsList-from_filter, count_from_yields_List}
use Rattle.std.proofs.lemmas.Iterator.Splits.{YieldsList-from_lines}
use Rattle.std.proofs.lemmas.List.Sums.{length-filter}
use Rattle.std.specs.Str.Lines.{lines}
use Rattle.fp_transcript.specs.Lines.{is_command}
use Rattle.fp_transcript.proofs.answering.cases.Goals as goal

-- the lines of the file, those of them that the closure lets through, how many they are
pub returns : goal.returns
returns c =
    let file = c.args.file.now in
    count_from_yields_List c.filter.result _ c.count.ensures.ran
    (YieldsList-from_filter _ is_command (YieldsList-from_lines file cc)
    c.filter.ensures.closure (λ x b q k. search rules))
    ∙ length-filter is_command (lines file)
