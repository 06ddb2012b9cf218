-- How deep operators stand in one another.
use Rattle.std.specs.Prelude.{ℕ, suc, max}
use Rattle.fp_machine.specs.Rule as tree
use Rattle.fp_machine.specs.Rule.{Rule, Rules, no_rules, rule}

-- in JSON, arguments stand in an operator's object, and in a list where they are several: both
-- count. What stands in lists and literals doesn't.
abbrev mutual
  pub nesting : Rule → ℕ
  nesting (tree.literal d) = 0
  nesting (tree.list rs) = 0
  nesting (tree.apply o rs) = suc (nesting_in rs)

  pub nesting_in : Rules → ℕ
  nesting_in no_rules = 0
  nesting_in (rule r no_rules) = nesting r
  nesting_in (rule r (rule q rs)) = suc (max (nesting r) (most_nesting (rule q rs)))

  pub most_nesting : Rules → ℕ
  most_nesting no_rules = 0
  most_nesting (rule r rs) = max (nesting r) (most_nesting rs)
