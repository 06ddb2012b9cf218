use Rattle.std.specs.Prelude.{codes}
use Rattle.serde_json.specs.Find.{get}
use Rattle.fp_definition.specs.Key.{key_bytes}
use Rattle.fp_definition.specs.Outcome.{outcome_of}
use Rattle.fp_definition.specs.Resolving.{data_of, spelled_by}
use Rattle.fp_ofrep.proofs.Faults.{disabled, no_variant, said}
use Rattle.fp_ofrep.proofs.Lists.{listed_success, listed_failure, listed_not}
use Rattle.fp_ofrep.proofs.bulk.put_flag.Goals as goal

pub returns-in_ok-put_success-in-Ok-clause-text : goal.returns-in_ok-put_success-in-Ok-clause-text
returns-in_ok-put_success-in-Ok-clause-text c = λ context now rest of_context.
    let key = key_bytes c.args.key.now in let d = data_of c.args.definition.now in let o = outcome_of d key context now in
    let is = said o (spelled_by c.in-Ok.said) (c.in-Ok.ensures.computed context now of_context) in
    listed_success c.args.out.now.items c.args.later key d o rest _ _ _ is.0 c.in_ok-put_comma-in-Ok.ensures
    (c.in_ok-put_success-in-Ok.ensures (get (codes "metadata") d) is.0 c.metadata.ensures is.2) c.as_str.ensures is.1

pub returns-in-Err-Disabled-clause-text : goal.returns-in-Err-Disabled-clause-text
returns-in-Err-Disabled-clause-text c = λ context now rest of_context.
    let key = key_bytes c.args.key.now in let d = data_of c.args.definition.now in let o = outcome_of d key context now in
    listed_not c.args.out.now.items c.args.later key d o rest
    (disabled o _ c.in-Err-Disabled.field-0-is (c.in-Err-Disabled.ensures.computed context now of_context))

pub returns-in_ok-put_failure-in-Err-NoVariant-clause-text : goal.returns-in_ok-put_failure-in-Err-NoVariant-clause-text
returns-in_ok-put_failure-in-Err-NoVariant-clause-text c = λ context now rest of_context.
    let key = key_bytes c.args.key.now in let d = data_of c.args.definition.now in let o = outcome_of d key context now in
    listed_failure c.args.out.now.items c.args.later key d o rest _ _ _ c.in_ok-put_comma-in-Err-NoVariant.ensures
    c.in_ok-put_failure-in-Err-NoVariant.ensures c.as_str-in-Err-NoVariant.ensures
    (no_variant o _ c.in-Err-NoVariant.field-0-is (c.in-Err-NoVariant.ensures.computed context now of_context))
