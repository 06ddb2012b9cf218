use Rattle.std.proofs.Common.{◌≡◌, subst}
use Rattle.fp_base.specs.TreeView.{tree_view}
use Rattle.fp_targeting.specs.Compiles.{Compiles, IsCompiled}
use Rattle.fp_targeting.specs.Emits.{Adds}
use Rattle.fp_machine.specs.Sound.{IsSound}
use Rattle.fp_machine.specs.Reading.{rule_of_code}
use Rattle.fp_machine.specs.declared.code.Code.{Code}
use Rattle.fp_targeting.proofs.Formed.{compiled-whole, shrunk-whole}
use Rattle.fp_targeting.proofs.build.code_of.Goals as goal

pub returns-clause-some : goal.returns-clause-some
returns-clause-some c = λ code e.
    let d = tree_view c.args.json.now in
    let empty : Code = c.in_ok-no_code.field-0 in
    let nothing = c.in_ok-no_code.ensures in
    let full = c.compute.new.self.code in
    let small = c.shrink.new.self.code in
    let same : small ≡ code = cc in
    let x = subst (λ done. Compiles done (λ r. Adds 0 r empty full) d) c.if-not-branch.false c.in_ok-compute.ensures in
    subst (λ k. IsCompiled (λ r. (r ≡ rule_of_code k) × IsSound k) d) same
    (shrunk-whole d full small c.shrink.ensures.steps c.shrink.ensures.pool c.shrink.ensures.room
    (compiled-whole d empty full nothing.0 nothing.2 nothing.1 c.requires.few c.requires.flat x))
