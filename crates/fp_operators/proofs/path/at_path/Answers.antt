use Rattle.std.proofs.Common.{◌≡◌, None, option_and_then, sym, ap, ◌∙◌, arith, rules}
use Rattle.std.proofs.lemmas.Str.Pattern.{split_parts}
use Rattle.fp_operators.specs.Path.{follow, parts, step_to}
use Rattle.fp_operators.specs.View.{view}
use Rattle.fp_operators.proofs.Paths.{parts_cut, parts_last, and_then-Some}
use Rattle.fp_operators.proofs.path.at_path.Goals as goal

pub returns-in_err-target : goal.returns-in_err-target
returns-in_err-target c =
    let l = c.parts in
    let cut = rw c.in-Some.is at (split_parts 46 l.rest.now c.split_once.result c.split_once.ensures.cases (omega arith)) in
    let gone : c.from_residual.result ≡ None = grind arith in
    let turn = l.invariant.0 ∙ ap (λ s. follow (parts s) (view l.target.now)) cut.0 ∙
    ap (λ ps. follow ps (view l.target.now)) (parts_cut _ _ cut.1) in
    rw gone (sym (turn ∙ ap (option_and_then (follow (parts c.in-Some.more.now))) (sym c.in_err-target.ensures)))

pub parts-preserved : goal.parts-preserved
parts-preserved c =
    let l = c.parts in
    let cut = rw c.in-Some.is at (split_parts 46 l.rest.now c.split_once.result c.split_once.ensures.cases (omega arith)) in
    let turn = l.invariant.0 ∙ ap (λ s. follow (parts s) (view l.target.now)) cut.0 ∙
    ap (λ ps. follow ps (view l.target.now)) (parts_cut _ _ cut.1) in
    (turn ∙ ap (option_and_then (follow (parts c.in-Some.more.now))) (sym c.in_ok-target.ensures), search rules)

pub returns : goal.returns
returns c =
    let l = c.parts in
    let none = rw c.in_default.is at (split_parts 46 l.rest.now c.split_once.result c.split_once.ensures.cases (omega arith)) in
    c.step-2.ensures ∙ sym (l.invariant.0 ∙ ap (λ ps. follow ps (view l.target.now)) (parts_last l.rest.now none) ∙
    and_then-Some (step_to l.rest.now (view l.target.now)))
