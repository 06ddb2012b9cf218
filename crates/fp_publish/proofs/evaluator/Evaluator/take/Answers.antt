use Rattle.std.proofs.Common.{sym, ap, subst, ◌∙◌}
use Rattle.fp_publish.specs.Evaluator.{EvaluatorState, IsSeated}
use Rattle.fp_publish.specs.declared.evaluator.Held.{Held}
use Rattle.fp_publish.proofs.evaluator.Evaluator.take.Goals.{in-Out, in-In, in-Gone}
use Rattle.fp_publish.proofs.evaluator.Evaluator.take.Goals as goal

pub returns-clause-seat : goal.returns-clause-seat
returns-clause-seat c =
    let store = ap (λ (e : EvaluatorState). e.known.store) c.self.view_is in
    let seated : IsSeated c.replace.result c.self.inside.known.store =
    subst (λ (h : Held). IsSeated h c.self.inside.known.store) (sym c.replace.ensures.value) c.self.invariant in
    elim c.match-replace.branch [
      | in-Out w ↦ rw w.result-is (let s =
          subst (λ (h : Held). IsSeated h c.self.inside.known.store) w.in-Out.is seated in (s.0, s.1, s.2 ∙ store))
      | in-In w ↦ rw w.result-is (let s =
          subst (λ (h : Held). IsSeated h c.self.inside.known.store) w.in-In.is seated in
          (w.in-In.reading.part.value.front, w.leave.ensures.1 ∙ s.0, s.2 ∙ store))
      | in-Gone w ↦ rw w.result-is tt
    ]
