use Rattle.std.proofs.Common.{◌≡◌, sym, ap, ◌∙◌, subst, true}
use Rattle.fp_machine.specs.Means.{Means}
use Rattle.fp_machine.specs.Meaning.{meaning}
use Rattle.fp_machine.specs.Operators.{well_formed}
use Rattle.fp_machine.proofs.OneResult.{Means-unique, Means-exists}
use Rattle.fp_targeting.proofs.rule.Rule.one_result.Goals as goal

pub returns : goal.returns
returns c =
    let r = c.args.self.now in
    let formed : well_formed r ≡ true = ap well_formed (sym c.self.view_is) ∙ c.self.invariant.formed in record {
      exists = λ d. (meaning d r, Means-exists d r formed);
      unique = λ d x y m n. Means-unique m ∙ sym (Means-unique n);
      computed = λ d x. (λ m. Means-unique m, λ e. subst (λ y. Means r d y) (sym e) (Means-exists d r formed));
    }
