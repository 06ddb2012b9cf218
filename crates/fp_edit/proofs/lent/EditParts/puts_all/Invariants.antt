use Rattle.std.proofs.Common.{◌≡◌, drop, true}
use Rattle.std.specs.List.{AllByRecursion}
use Rattle.fp_edit.specs.Lent.{lent_parts}
use Rattle.fp_edit.specs.Parts.{is_put}
use Rattle.fp_edit.proofs.lent.EditParts.puts_all.Given as goal

-- what is left decides
abbrev pub invariant-loop-i : goal.invariant-loop-i
invariant-loop-i l = AllByRecursion (λ p. is_put p ≡ true) (drop l.i (lent_parts l.self))
    → AllByRecursion (λ p. is_put p ≡ true) (lent_parts l.self)
