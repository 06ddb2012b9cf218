use Rattle.std.proofs.Common.{sym, ap, ◌∙◌, arith}
use Rattle.std.proofs.lemmas.Str.Pattern.{split_parts}
use Rattle.fp_operators.specs.Path.{parts}
use Rattle.fp_machine.specs.Moment.{is_of_the_moment}
use Rattle.fp_machine.proofs.Paths.{parts_cut, parts_last}
use Rattle.fp_machine.proofs.moment.is_of_the_moment.Goals as goal

pub returns-in-None : goal.returns-in-None
returns-in-None c =
    let none = rw c.in-None.is at (split_parts 46 c.args.rest.now c.split_once.result c.split_once.ensures.cases (omega arith)) in
    c.ne.ensures ∙ sym (ap is_of_the_moment (parts_last c.args.rest.now none))

pub returns-in-Some : goal.returns-in-Some
returns-in-Some c =
    let cut = rw c.in-Some.is at (split_parts 46 c.args.rest.now c.split_once.result c.split_once.ensures.cases (omega arith)) in
    c.ne-in-Some.ensures ∙ sym (ap is_of_the_moment (ap parts cut.0 ∙ parts_cut _ _ cut.1))
