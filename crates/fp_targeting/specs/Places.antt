-- How many places a rule's constants and paths take, at the most.
use Rattle.std.specs.Prelude.{ℕ, ◌+◌}
use Rattle.fp_machine.specs.Rule as tree
use Rattle.fp_machine.specs.Rule.{Rule, Rules, no_rules, rule}

-- one for each of its parts, and two more where an operator's operands are looked for twice
abbrev mutual
  pub places : Rule → ℕ
  places (tree.literal d) = 1
  places (tree.list rs) = 1 + all_places rs
  places (tree.apply o rs) = 3 + all_places rs

  pub all_places : Rules → ℕ
  all_places no_rules = 0
  all_places (rule r rs) = places r + all_places rs
