use Rattle.std.proofs.Common.{◌≡◌, length, arith}
use Rattle.fp_definition.proofs.Ruled.{no_rule, no_rule-met, the_rule}
use Rattle.fp_definition.proofs.rules.rule_written.Goals as goal

none : (c : goal.Then-is_empty) → length c.in-Object.members.now ≡ 0
none c = grind (arith, c.is_empty.ensures, c.if-is_empty.true)

pub returns-then-is_empty-clause-rule : goal.returns-then-is_empty-clause-rule
returns-then-is_empty-clause-rule c = no_rule c.args.targeting.now c.in-Object.members c.in-Object.is (none c)

pub returns-then-is_empty-clause-met : goal.returns-then-is_empty-clause-met
returns-then-is_empty-clause-met c = no_rule-met c.args.targeting.now c.in-Object.members c.in-Object.is (none c)

pub returns-in_ok-compiled-in-Object-clause-rule : goal.returns-in_ok-compiled-in-Object-clause-rule
returns-in_ok-compiled-in-Object-clause-rule c =
    let some : length c.in-Object.members.now ≡ 0 → ⊥ = λ h. grind (arith, h, c.is_empty.ensures, c.if-is_empty.false) in
    the_rule c.args.targeting.now c.in-Object.members c.in-Object.is c.in_ok-compiled-in-Object.field-0 some
    c.in_ok-compiled-in-Object.ensures.rule
