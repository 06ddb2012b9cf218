use Rattle.std.proofs.Common.{sym, ◌∙◌}
use Rattle.fp_documents.proofs.Maps.{len-flags_of}
use Rattle.fp_documents.proofs.flags.count.Goals as goal

pub returns : goal.returns
returns c = c.len.ensures.len ∙ sym (len-flags_of c.args.flags.now.entries c.len.ensures.ordered)
