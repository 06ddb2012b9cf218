use Rattle.std.proofs.Common.{◌≡◌, ◌+◌, ◌-◌, ◌<◌, [], ◌∷◌, ◌++◌, take, length, sym, ◌∙◌, arith, take_all}
use Rattle.fp_base.specs.TreeView.{Entry}
use Rattle.fp_base.proofs.Gatherings.{below-last}
use Rattle.fp_base.proofs.Halves.{less}
use Rattle.fp_base.proofs.Turns.{take-here}
use Rattle.fp_base.proofs.gathering.comes_before_last.Goals as goal

pub returns-in-Some : goal.returns-in-Some
returns-in-Some c = λ h.
    let ms = c.args.members.now in
    let i = length ms - 1 in
    let m : Entry = c.in-Some.last.now in
    let some = c.in-Some.ensures.item.3.0 in
    let inside : i < length ms = omega arith in
    let up_to : ms ≡ take i ms ++ m ∷ [] = sym (take_all (i + 1) ms (omega arith)) ∙ take-here ms i m inside c.in-Some.ensures.item.1 in
    below-last c.args.name.now ms (take i ms) m c.requires up_to (sym c.cmp.ensures ∙ less c.cmp.result (sym c.is_lt.ensures ∙ h))
