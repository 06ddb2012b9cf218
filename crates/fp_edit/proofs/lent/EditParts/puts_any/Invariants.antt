use Rattle.std.proofs.Common.{◌≡◌, drop}
use Rattle.fp_edit.specs.Lent.{lent_parts}
use Rattle.fp_edit.specs.Parts.{any_put}
use Rattle.fp_edit.proofs.lent.EditParts.puts_any.Given as goal

-- what is left decides
abbrev pub invariant-loop-i : goal.invariant-loop-i
invariant-loop-i l = any_put (lent_parts l.self) ≡ any_put (drop l.i (lent_parts l.self))
