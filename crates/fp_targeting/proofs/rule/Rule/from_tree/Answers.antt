use Rattle.std.proofs.Common.{Ok, is_some, sym, subst, ap, ◌∙◌}
use Rattle.fp_base.specs.TreeView.{tree_view}
use Rattle.fp_machine.specs.Reading.{rule_of_code}
use Rattle.fp_machine.specs.Sound.{IsSound}
use Rattle.fp_targeting.proofs.Verdicts.{verdict-rule, refused-none}
use Rattle.fp_targeting.proofs.rule.Rule.from_tree.Goals as goal

pub invariant_of-result : goal.invariant_of-result
invariant_of-result c =
    subst IsSound (sym c.in_ok-share-in-Some-2.ensures.ok) (c.in_ok-code.ensures.some c.in-Some-2.code c.in-Some-2.is).made.1

pub returns-in_ok-share-in-Some-2 : goal.returns-in_ok-share-in-Some-2
returns-in_ok-share-in-Some-2 c =
    let d = tree_view c.args.tree.now in
    let x = c.in_ok-code.ensures.some c.in-Some-2.code c.in-Some-2.is in
    verdict-rule d x.rule c.requires.flat (sym (ap is_some c.values_left.ensures) ∙ ap is_some c.in-Some.is)
    c.requires.whole x.known x.is_rule ∙ ap Ok (x.made.0 ∙ ap rule_of_code (sym c.in_ok-share-in-Some-2.ensures.ok))

pub returns-in-None : goal.returns-in-None
returns-in-None c = refused-none (tree_view c.args.tree.now) c.refusal-in-None.result c.requires.flat
    (c.in_ok-code.ensures.none c.in-None.is) c.refusal-in-None.ensures
