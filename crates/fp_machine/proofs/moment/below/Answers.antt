use Rattle.std.proofs.Common.{◌≡◌, Bool, true, false, ◌&&◌, refl, sym, ap, ◌∙◌, arith}
use Rattle.std.specs.Prelude.{bytes_eq, codes}
use Rattle.std.proofs.lemmas.Str.Pattern.{split_parts}
use Rattle.fp_operators.specs.Path.{parts}
use Rattle.fp_machine.specs.Moment.{parts_read, is_of_the_moment}
use Rattle.fp_machine.proofs.Paths.{parts_cut, parts_last}
use Rattle.fp_machine.proofs.moment.below.Goals as goal

and_true : (b : Bool) → b ≡ (b && true)
and_true true = refl
and_true false = refl

pub returns-in-None : goal.returns-in-None
returns-in-None c =
    let none = rw c.in-None.is at (split_parts 46 c.args.path.now c.split_once.result c.split_once.ensures.cases (omega arith)) in
    c.eq.ensures ∙ (and_true (bytes_eq c.args.path.now (codes "$flagd")) ∙ sym (ap parts_read (parts_last c.args.path.now none)))

pub returns-else-eq : goal.returns-else-eq
returns-else-eq c =
    let cut = rw c.in-Some.is at (split_parts 46 c.args.path.now c.split_once.result c.split_once.ensures.cases (omega arith)) in
    let other : bytes_eq c.in-Some.first.now (codes "$flagd") ≡ false = sym c.eq-in-Some.ensures ∙ c.if-eq.false in
    c.if-eq.false ∙ sym (ap parts_read (ap parts cut.0 ∙ parts_cut _ _ cut.1) ∙
    ap (λ b. b && is_of_the_moment (parts c.in-Some.rest.now)) other)
