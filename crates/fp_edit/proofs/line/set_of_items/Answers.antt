use Rattle.std.proofs.Common.{◌∙◌, ap, sym, subst}
use Rattle.std.proofs.lemmas.Result.{err_from_is_err_and}
use Rattle.fp_base.specs.Answer.{Gives}
use Rattle.fp_base.specs.Steps.{◌>>=◌}
use Rattle.fp_edit.specs.Changes.{is_count}
use Rattle.fp_edit.specs.Edits.{proposal_of}
use Rattle.fp_edit.specs.Line as says
use Rattle.fp_edit.specs.Spelled.{Tells}
use Rattle.fp_edit.proofs.Lines.{item_count, set_of_count, set_of_bad_count, stops}
use Rattle.fp_edit.proofs.line.set_of_items.Goals as goal

pub returns-then-not-is_count-clause-value : goal.returns-then-not-is_count-clause-value
returns-then-not-is_count-clause-value c = set_of_bad_count c.args.items.now (sym c.is_count.ensures ∙ c.if-not-is_count.true)

pub returns-in_err-changes_in-clause-value : goal.returns-in_err-changes_in-clause-value
returns-in_err-changes_in-clause-value c =
    let p = err_from_is_err_and c.from_residual.result c.from_residual.ensures.1 in
    let counted = set_of_count c.args.items.now (sym c.is_count.ensures ∙ c.if-not-is_count.false) in
    rw (p.1, p.2) (stops c.in_err-changes_in.field-0.0 _ says.joined _ counted c.in_err-changes_in.ensures)

pub returns-clause-value : goal.returns-clause-value
returns-clause-value c =
    let counted = set_of_count c.args.items.now (sym c.is_count.ensures ∙ c.if-not-is_count.false) in
    let read = counted ∙ ap (λ r. r >>= says.joined) c.in_ok-changes_in.ensures in
    subst (Gives proposal_of Tells c.joined.result) (sym read) c.joined.ensures.value

pub returns-in_err-changes_in-clause-memory : goal.returns-in_err-changes_in-clause-memory
returns-in_err-changes_in-clause-memory c =
    let p = err_from_is_err_and c.from_residual.result c.from_residual.ensures.1 in
    rw p.1 (λ wanting. ap is_count (item_count c.args.items.now) ∙ sym c.is_count.ensures ∙ c.if-not-is_count.false)
