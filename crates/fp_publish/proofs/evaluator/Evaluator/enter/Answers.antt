use Rattle.std.proofs.Common.{Option, sym, subst, ◌∙◌}
use Rattle.fp_group_commit.specs.Tokens.{FrontState}
use Rattle.fp_publish.specs.Fronts.{Begins}
use Rattle.fp_publish.specs.Rule.{IfKnownBegins}
use Rattle.fp_publish.proofs.RuleLemmas.{turns, begins_self}
use Rattle.fp_publish.proofs.evaluator.Evaluator.enter.Goals as goal

pub enter_as-requires : goal.enter_as-requires
enter_as-requires c x = turns _ _ x x (begins_self x.front) (λ h. h)

pub put-requires : goal.put-requires
put-requires c = let s = c.in-Some.ensures.seat in rw c.take.ensures.rested (s.0, c.in-Err.ensures.1 ∙ s.1, s.2)

pub put-requires-then-is_behind : goal.put-requires-then-is_behind
put-requires-then-is_behind c =
    let s = c.in-Some.ensures.seat in
    let x = c.in-Ok.reading.part.value in
    let begins : Begins s.0 x.front = subst (λ (v : Option FrontState). IfKnownBegins v x.front) s.1 c.in-Ok.ensures.1.0 in
    rw c.take.ensures.rested (x.front, c.leave.ensures.1 ∙ c.in-Ok.ensures.1.2, sym begins.0 ∙ s.2)
