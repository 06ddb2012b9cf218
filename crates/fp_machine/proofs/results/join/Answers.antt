use Rattle.std.proofs.Common.{◌≡◌, ◌-◌, ◌+◌, List, length, map, ap, ap₂, sym, ◌∙◌, Some, arith}
use Rattle.fp_operators.specs.Text.{concatenation}
use Rattle.fp_operators.specs.Data.{Data}
use Rattle.fp_machine.specs.Found.{found_view, founds_view}
use Rattle.fp_machine.specs.Kept.{kept_items}
use Rattle.fp_machine.specs.declared.machine.Found.{Found}
use Rattle.fp_machine.proofs.Machines.{last-kept}
use Rattle.fp_machine.proofs.results.join.Goals as goal

pub returns-clause-does : goal.returns-clause-does
returns-clause-does c =
    let xs = kept_items c.args.kept.now in
    let k = length c.as_slice.result.now - c.args.count in
    let at : k + c.args.count ≡ length xs = omega (arith, c.requires, ap length c.as_slice.ensures) in
    let made = sym (c.in_ok-joined.ensures ∙ ap (λ ys. concatenation (map found_view ys)) c.behind.ensures) in
    last-kept concatenation c.args.count k xs at
    ∙ ap₂ (λ (d : Data) (ys : List Found). Some (0, d, founds_view ys)) made (sym c.truncate.ensures.items)
