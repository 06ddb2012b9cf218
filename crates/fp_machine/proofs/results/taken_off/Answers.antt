use Rattle.std.proofs.Common.{◌-◌, [], ◌∷◌, length, map, ap, ◌∙◌, arith}
use Rattle.std.proofs.lemmas.List.{length-append}
use Rattle.fp_operators.specs.View.{view}
use Rattle.fp_machine.specs.Found.{stack_view}
use Rattle.fp_machine.specs.Kept.{kept_items}
use Rattle.fp_machine.specs.Stack.{off, onto}
use Rattle.fp_machine.proofs.Machines.{taken-one}
use Rattle.fp_machine.proofs.results.taken_off.Goals as goal

pub results-preserved-in_ok-push : goal.results-preserved-in_ok-push
results-preserved-in_ok-push c =
    let l = c.results in
    record {
      there = omega (
        arith,
        l.invariant.there,
        ap length c.in-Some.ensures.items,
        length-append (kept_items c.pop.new.self) (c.in-Some.result ∷ []),
        c.results-test.true,
      );
      taken = ap (λ xs. off (l.left - 1) (stack_view c.pop.new.self) (onto (map view xs) [])) c.in_ok-push.ensures.items
          ∙ taken-one l.left (kept_items l.kept) (kept_items c.pop.new.self) l.items.items c.in-Some.result
          c.in_ok-into_datum.field-0 _ (omega (arith, c.results-test.true)) c.in-Some.ensures.items
          c.in_ok-into_datum.ensures.copy l.invariant.taken;
      room = c.in-Some.ensures.room ∙ l.invariant.room;
    }
