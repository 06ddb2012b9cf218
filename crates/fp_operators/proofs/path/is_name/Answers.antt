use Rattle.std.proofs.Common.{sym, ap, ◌∙◌, is_eq}
use Rattle.std.proofs.lemmas.Map.Text.{is_eq-slice_cmp}
use Rattle.fp_operators.proofs.Paths.{is_eq-not}
use Rattle.fp_operators.proofs.path.is_name.Goals as goal

pub returns-in-Equal : goal.returns-in-Equal
returns-in-Equal c = sym (ap is_eq c.in-Equal.is) ∙ ap is_eq c.cmp.ensures ∙ is_eq-slice_cmp c.args.name.now c.args.key.now

pub returns-in_default : goal.returns-in_default
returns-in_default c = sym (is_eq-not c.cmp.result c.in_default.not-Equal) ∙ ap is_eq c.cmp.ensures ∙
    is_eq-slice_cmp c.args.name.now c.args.key.now
