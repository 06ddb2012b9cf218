use Rattle.std.proofs.Common.{List, map, ap, sym, ◌∙◌, Some}
use Rattle.fp_operators.specs.Data.{Data}
use Rattle.fp_operators.specs.View.{view}
use Rattle.fp_operators.proofs.Variants.{view-List}
use Rattle.fp_machine.specs.Found.{stack_view}
use Rattle.fp_machine.specs.Kept.{kept_items}
use Rattle.fp_machine.specs.Machine.{list_of}
use Rattle.fp_machine.proofs.Machines.{of-taken}
use Rattle.fp_machine.proofs.Stacks.{map-reverse}
use Rattle.fp_machine.proofs.results.collect.Goals as goal

pub returns-clause-does : goal.returns-clause-does
returns-clause-does c =
    let made = sym (ap (map view) c.reverse.ensures.items ∙ map-reverse view c.in_ok-list.list.items) in
    let left = stack_view c.taken_off.new.kept in
    of-taken list_of c.args.count (kept_items c.args.kept.now) _ _ c.requires c.in_ok-list.ensures.taken
    ∙ ap (λ (ds : List Data). Some (0, list_of ds, left)) made
    ∙ ap (λ (d : Data). Some (0, d, left)) (sym (view-List c.reverse.new.self))
