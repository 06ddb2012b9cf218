use Rattle.std.proofs.Common.{◌≡◌, sym, ap, ◌∙◌, subst, true}
use Rattle.std.proofs.lemmas.Result.{IfOk-weaker}
use Rattle.std.specs.Result.{OnErr}
use Rattle.fp_machine.specs.Found.{found_view}
use Rattle.fp_machine.specs.Memory.{needs_memory}
use Rattle.fp_machine.specs.Means.{Means}
use Rattle.fp_machine.specs.Meaning.{meaning}
use Rattle.fp_machine.specs.Operators.{well_formed}
use Rattle.fp_machine.specs.Reading.{rule_of_code}
use Rattle.fp_machine.proofs.OneResult.{Means-exists}
use Rattle.fp_targeting.proofs.rule.Rule.find.Goals as goal

pub returns-clause-means : goal.returns-clause-means
returns-clause-means c =
    let r = c.args.self.now in
    let d = c.args.data.now in
    let formed : well_formed r ≡ true = ap well_formed (sym c.self.view_is) ∙ c.self.invariant.formed in
    let is = ap (λ e. meaning e (rule_of_code c.deref.result.now)) c.datum.ensures
    ∙ ap (meaning d) (ap rule_of_code c.deref.ensures ∙ c.self.view_is) in
    IfOk-weaker c.run.result _ (λ x. Means r d (found_view x))
    (λ x e. subst (λ y. Means r d y) (sym (e ∙ is)) (Means-exists d r formed)) c.run.ensures.means

pub returns-clause-computed : goal.returns-clause-computed
returns-clause-computed c =
    let is = ap (λ e. meaning e (rule_of_code c.deref.result.now)) c.datum.ensures
    ∙ ap (meaning c.args.data.now) (ap rule_of_code c.deref.ensures ∙ c.self.view_is) in
    IfOk-weaker c.run.result _ (λ x. found_view x ≡ meaning c.args.data.now c.args.self.now) (λ x e. e ∙ is) c.run.ensures.means

pub returns-clause-memory : goal.returns-clause-memory
returns-clause-memory c =
    subst (λ r. OnErr c.run.result (needs_memory r ≡ true))
    (ap rule_of_code c.deref.ensures ∙ c.self.view_is) c.run.ensures.memory
