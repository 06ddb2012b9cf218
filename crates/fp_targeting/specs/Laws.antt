-- What holds of the meaning of rules. A function of the module `laws` proves each.
use Rattle.std.specs.Prelude.{◌≡◌, ◌↔◌, Bool, true, false, ◌&&◌}
use Rattle.fp_operators.specs.Data.{Data, boolean}
use Rattle.fp_operators.specs.Truth.{truth}
use Rattle.fp_machine.specs.Rule.{Rule, Rules, literal, list, apply, no_rules, rule}
use Rattle.fp_machine.specs.Means.{Means}
use Rattle.fp_machine.specs.declared.operator.Operator.{Operator}
use Rattle.fp_machine.specs.declared.operator.Operator.TheVariants.{Var, Unary, Fractional}
use Rattle.fp_machine.specs.declared.operator.UnaryOperator.TheVariants.{Not, Truth}

-- `{"!!":[r]}`
abbrev pub truth_rule : Rule → Rule
truth_rule r = apply (Unary Truth) (rule r no_rules)

-- `{"!":[r]}`
abbrev pub not_rule : Rule → Rule
not_rule r = apply (Unary Not) (rule r no_rules)

-- `!!` of a rule is the truth of the rule's result
abbrev pub TruthIsOfTheResult : Type 0
TruthIsOfTheResult = (r : Rule) (d x : Data)
    → Means (truth_rule r) d x ↔ ((y : Data) × Means r d y × (x ≡ boolean (truth y)))

-- `!` twice is `!!`
abbrev pub NotTwiceIsTruth : Type 0
NotTwiceIsTruth =
    (r : Rule) (d x : Data) → Means (not_rule (not_rule r)) d x ↔ Means (truth_rule r) d x

abbrev pub looks_at_nothing : Operator → Bool
looks_at_nothing Var = false
looks_at_nothing Fractional = false
looks_at_nothing o = true

-- no `var` and no `fractional` stands in the rule
abbrev mutual
  pub names_nothing : Rule → Bool
  names_nothing (literal d) = true
  names_nothing (list rs) = all_name_nothing rs
  names_nothing (apply o rs) = looks_at_nothing o && all_name_nothing rs

  pub all_name_nothing : Rules → Bool
  all_name_nothing no_rules = true
  all_name_nothing (rule r rs) = names_nothing r && all_name_nothing rs

-- a rule that names nothing gives the same on all data
abbrev pub DataUnnamedAreUnused : Type 0
DataUnnamedAreUnused =
    (r : Rule) (d e x : Data) → names_nothing r ≡ true → Means r d x → Means r e x
