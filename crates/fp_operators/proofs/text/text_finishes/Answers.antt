use Rattle.std.proofs.lemmas.Str.Pattern.{ends_text}
use Rattle.fp_operators.proofs.text.text_finishes.Goals as goal

pub returns : goal.returns
returns c = ends_text c.ends_with.result c.args.suffix.now c.args.text.now c.ends_with.ensures.cases
