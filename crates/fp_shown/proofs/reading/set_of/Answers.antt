use Rattle.std.proofs.Common.{Err, sym, ap, ◌∙◌, true≢false}
use Rattle.std.proofs.lemmas.Result.{err_from_is_err_and}
use Rattle.fp_edit.specs.Flags.{State}
use Rattle.fp_shown.proofs.Documents.{begins_so, goes_on_so, same_fault, told_again}
use Rattle.fp_shown.proofs.reading.set_of.Goals as goal

pub returns-in_default-clause-refused : goal.returns-in_default-clause-refused
returns-in_default-clause-refused c = λ _ s lawful is.
    absurd (true≢false (sym (begins_so c.args.revision c.args.document.now s is)
    ∙ c.in_default.ensures.cases))

pub returns-in_err-put_flags-clause-refused : goal.returns-in_err-put_flags-clause-refused
returns-in_err-put_flags-clause-refused c = λ none s lawful is.
    let p = err_from_is_err_and c.from_residual.result c.from_residual.ensures.1 in
    let fault = same_fault c.from_residual.result _ _ (p.1 ∙ ap Err p.2) none in
    c.in_err-put_flags.ensures.refused (ap Err fault) s lawful (is.at
    ∙ sym (ap (λ (t : State). t.revision) c.at_revision-set.ensures))
    (c.in-Some.ensures.cases.1 ∙ goes_on_so c.args.revision c.args.document.now s is)

pub returns-clause-refused : goal.returns-clause-refused
returns-clause-refused c = λ _ s lawful is.
    let same = c.in_ok-put_flags.ensures.put s lawful (is.at
    ∙ sym (ap (λ (t : State). t.revision) c.at_revision-set.ensures))
    (c.in-Some.ensures.cases.1 ∙ goes_on_so c.args.revision c.args.document.now s is) in
    absurd (true≢false
    (sym (told_again c.args.revision c.args.document.now s c.put_flags.new.set.flags is same)
    ∙ sym c.in_ok-is_document_of.ensures ∙ c.if-branch.false))
