use Rattle.std.proofs.Common.{◌≡◌, ℕ, ◌+◌, ap, ◌∙◌, refl, lit<, lit≤}
use Rattle.std.specs.Prelude.{◌==◌}
use Rattle.std.specs.Int.Count.{ones}
use Rattle.std.proofs.lemmas.Nat.{ones_cat}
use Rattle.fp_layout.proofs.size.SlotSize.standard.Goals as goal

small : ones 1 + ones 0 ≡ 1
unfolding ones
small = refl

pub invariant_of-result : goal.invariant_of-result
invariant_of-result c = record { power = ap (λ (n : ℕ). n == 1) (ones_cat 24 1 0 (lit< tt) ∙ small); least = lit≤ tt; greatest = lit≤ tt }
