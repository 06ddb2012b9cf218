use Rattle.std.proofs.Common.{IfOk, Some, subst, sym, ◌≡◌}
use Rattle.std.proofs.lemmas.Result.{IfOk-weaker}
use Rattle.fp_base.specs.Answer.{Gives}
use Rattle.fp_base.specs.TreeView.{tree_view}
use Rattle.fp_definition.specs.Key.{key_bytes}
use Rattle.fp_definition.specs.Outcome.{outcome_of}
use Rattle.fp_definition.specs.Resolving.{Tells, data_of, outcome_spelled, spelled_by}
use Rattle.fp_ofrep.specs.Response.{failure_response}
use Rattle.fp_ofrep.specs.declared.failure.Failure.TheVariants.{FlagDisabled, NamesNoVariant}
use Rattle.fp_ofrep.specs.Seen.{response_seen}
use Rattle.fp_ofrep.specs.Single.{response_of, value_or_failure}
use Rattle.fp_ofrep.proofs.Faults.{disabled, no_variant, said}
use Rattle.fp_ofrep.proofs.single.resolved_reply.Goals as goal

pub returns-in-Ok : goal.returns-in-Ok
returns-in-Ok c =
    let key = key_bytes c.args.key.now in let d = data_of c.args.definition.now in
    let o = outcome_of d key (tree_view c.args.context.now) c.args.now in
    let is = said o (spelled_by c.in-Ok.said)
    (subst (λ r. Gives spelled_by Tells r (outcome_spelled o)) c.in-Ok.is c.in_ok-said.ensures.computed) in
    subst (λ x. IfOk c.said_reply.result (λ r. response_seen r ≡ response_of c.args.revision key (value_or_failure key d x))) (sym is.1)
    (IfOk-weaker c.said_reply.result _ _ (λ r h. h is.0 is.2) c.said_reply.ensures)

pub returns-in-Err-Disabled : goal.returns-in-Err-Disabled
returns-in-Err-Disabled c =
    let key = key_bytes c.args.key.now in let d = data_of c.args.definition.now in
    let o = outcome_of d key (tree_view c.args.context.now) c.args.now in
    subst (λ x. IfOk c.failed.result (λ r. response_seen r ≡ response_of c.args.revision key (value_or_failure key d x)))
    (sym (disabled o _ c.in-Err-Disabled.field-0-is
    (subst (λ r. Gives spelled_by Tells r (outcome_spelled o)) c.in-Err-Disabled.is
    c.in_ok-said.ensures.computed)))
    (subst (λ k. IfOk c.failed.result (λ r. response_seen r ≡ failure_response FlagDisabled (Some k))) c.as_str.ensures c.failed.ensures)

pub returns-in-Err-NoVariant : goal.returns-in-Err-NoVariant
returns-in-Err-NoVariant c =
    let key = key_bytes c.args.key.now in let d = data_of c.args.definition.now in
    let o = outcome_of d key (tree_view c.args.context.now) c.args.now in
    subst (λ x. IfOk c.failed-in-Err-NoVariant.result (λ r. response_seen r ≡ response_of c.args.revision key (value_or_failure key d x)))
    (sym (no_variant o _ c.in-Err-NoVariant.field-0-is
    (subst (λ r. Gives spelled_by Tells r (outcome_spelled o)) c.in-Err-NoVariant.is c.in_ok-said.ensures.computed)))
    (subst (λ k. IfOk c.failed-in-Err-NoVariant.result
    (λ r. response_seen r ≡ failure_response NamesNoVariant (Some k))) c.as_str-in-Err-NoVariant.ensures
    c.failed-in-Err-NoVariant.ensures)
