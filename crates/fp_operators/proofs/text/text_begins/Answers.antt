use Rattle.std.proofs.lemmas.Str.Pattern.{starts_text}
use Rattle.fp_operators.proofs.text.text_begins.Goals as goal

pub returns : goal.returns
returns c = starts_text c.starts_with.result c.args.prefix.now c.args.text.now c.starts_with.ensures.cases
