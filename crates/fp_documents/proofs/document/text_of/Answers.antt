use Rattle.std.proofs.Common.{sym, ◌∙◌}
use Rattle.fp_documents.proofs.Texts.{canonical_again}
use Rattle.fp_documents.proofs.document.text_of.Goals as goal

pub returns : goal.returns
returns c = c.text.ensures.text ∙ sym (canonical_again c.args.definition.now c.text.ensures.canonical)
