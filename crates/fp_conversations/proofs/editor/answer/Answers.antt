use Rattle.std.proofs.Common.{◌≡◌, Option, IfSome, OnOk, sym, subst}
use Rattle.fp_group_commit.specs.Tokens.{FrontState}
use Rattle.fp_conversations.specs.Answers.{IsSaid, IsWithin}
use Rattle.fp_conversations.specs.Outcomes.{IsAnswerTo, answer_to_line, said_of}
use Rattle.fp_conversations.proofs.EditingLemmas.{answers-more, handed-more, served-more, shown-answers, shown-within, within-more}
use Rattle.fp_conversations.proofs.OutcomeLemmas.{answered-fits, answered-handed, told-ours}
use Rattle.fp_conversations.proofs.editor.answer.Goals as goal

-- one answer more, and what was told before it is kept
pub returns-clause-answered : goal.returns-clause-answered
returns-clause-answered g c = λ x all was before asks served.
    let came = c.answer_line-answered.result.0 in let clauses = c.answer_line-answered.ensures in
    let a = answer_to_line came in let here = said_of came in let keeps = c.keep_greater.ensures in
    let old = c.args.told.now in let now = c.keep_greater.new.told in let store = g.K.Naming.store in
    let held = g.O.Write.contents c.args.w.now.inner in let then = g.O.Write.contents c.answer_line-answered.new.w.inner in
    let said : IsSaid a held then = subst (λ r. OnOk r (IsSaid a held then)) c.in_ok-sent.was clauses.sent in
    let fits = answered-fits store c.args.asked came x clauses.own clauses.ours asks in
    let within : IsWithin c.into_told.result a = subst (λ (m : Option FrontState). IsWithin m a) (sym c.into_told.ensures) fits.1 in
    let answers : IsAnswerTo c.into_told.result x a here =
    subst (λ (m : Option FrontState). IsAnswerTo m x a here) (sym c.into_told.ensures) fits.0 in
    served-more store old now all was c.args.editing.now c.answer_line-answered.new.editing here before held then x said.shown
    served keeps.kept
    (shown-answers now x a said.shown here (answers-more c.into_told.result now x a here keeps.more answers) said.like)
    (shown-within now a said.shown (within-more c.into_told.result now a keeps.more within) said.like)
    keeps.ours clauses.said said.line

-- what was told of it is of the plane's store
pub keep_greater-requires-clause-more : goal.keep_greater-requires-clause-more
keep_greater-requires-clause-more g c =
    subst (λ (m : Option FrontState). IfSome m (λ t. t.store ≡ g.K.Naming.store)) (sym c.into_told.ensures)
    (told-ours g.K.Naming.store c.answer_line-answered.result.0 c.answer_line-answered.ensures.ours)

-- what it asks is handed in once, however the answer goes out
pub returns-clause-handed : goal.returns-clause-handed
returns-clause-handed g c = λ x all was asks handed.
    let came = c.answer_line-answered in
    handed-more all was c.args.editing.now came.new.editing (said_of came.result.0) x handed
    (answered-handed c.args.asked came.result.0 x came.ensures.own asks) came.ensures.said

pub returns-in_err-sent-clause-handed : goal.returns-in_err-sent-clause-handed
returns-in_err-sent-clause-handed g c = λ x all was asks handed.
    let came = c.answer_line-answered in
    handed-more all was c.args.editing.now came.new.editing (said_of came.result.0) x handed
    (answered-handed c.args.asked came.result.0 x came.ensures.own asks) came.ensures.said
