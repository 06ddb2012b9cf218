use Rattle.std.proofs.lemmas.Str.Pattern.{contains_text}
use Rattle.fp_operators.proofs.Contained.{contained}
use Rattle.fp_operators.proofs.text.text_occurs.Goals as goal

pub returns : goal.returns
returns c = contained c.contains.result c.args.needle.now c.args.text.now
    (contains_text c.contains.result c.args.needle.now c.args.text.now c.contains.ensures.cases)
