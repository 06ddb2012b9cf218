-- What a rule means for data, as a relation.
use Rattle.std.specs.Prelude.{◌≡◌, List, [], ◌∷◌, true, false, Some}
use Rattle.fp_operators.specs.Data.{Data, null}
use Rattle.fp_operators.specs.Data as values
use Rattle.fp_operators.specs.Truth.{truth}
use Rattle.fp_operators.specs.View.{items_of}
use Rattle.fp_machine.specs.Rule.{Rule, Rules, literal, list, apply, no_rules, rule}
use Rattle.fp_machine.specs.Operators.{result_of}
use Rattle.fp_machine.specs.Split.{split_value}
use Rattle.fp_machine.specs.declared.operator.Operator.{Operator}
use Rattle.fp_machine.specs.declared.operator.Operator.TheVariants.{If, And, Or}
use Rattle.fp_machine.specs.declared.operator.Operator.TheVariants.{Fractional}

mutual
  -- the rule, on the data, gives the result
  pub data Means : Rule → Data → Data → Type 0 where
    literal_means : {d x : Data} → Means (literal x) d x
    list_means : {rs : Rules} {d : Data} {xs : List Data} → AllMean rs d xs
        → Means (list rs) d (values.list (items_of xs))
    -- the operators of `result_of` look at the results of all their arguments
    operator_means : {o : Operator} {rs : Rules} {d x : Data} {xs : List Data} → AllMean rs d xs
        → result_of o d xs ≡ Some x → Means (apply o rs) d x
    -- `if`: the result behind the first true condition, else the last argument where their number
    -- is odd, else null
    if_none : {d : Data} → Means (apply If no_rules) d null
    if_last : {r : Rule} {d x : Data} → Means r d x → Means (apply If (rule r no_rules)) d x
    if_true : {c r : Rule} {rs : Rules} {d t x : Data} → Means c d t → truth t ≡ true → Means r d x
        → Means (apply If (rule c (rule r rs))) d x
    if_false : {c r : Rule} {rs : Rules} {d t x : Data} → Means c d t → truth t ≡ false
        → Means (apply If rs) d x → Means (apply If (rule c (rule r rs))) d x
    -- `and`: the first false argument, else the last
    and_last : {r : Rule} {d x : Data} → Means r d x → Means (apply And (rule r no_rules)) d x
    and_false : {r : Rule} {rs : Rules} {d x : Data} → Means r d x → truth x ≡ false
        → Means (apply And (rule r rs)) d x
    and_true : {r s : Rule} {rs : Rules} {d t x : Data} → Means r d t → truth t ≡ true
        → Means (apply And (rule s rs)) d x → Means (apply And (rule r (rule s rs))) d x
    -- `or`: the first true argument, else the last
    or_last : {r : Rule} {d x : Data} → Means r d x → Means (apply Or (rule r no_rules)) d x
    or_true : {r : Rule} {rs : Rules} {d x : Data} → Means r d x → truth x ≡ true
        → Means (apply Or (rule r rs)) d x
    or_false : {r s : Rule} {rs : Rules} {d t x : Data} → Means r d t → truth t ≡ false
        → Means (apply Or (rule s rs)) d x → Means (apply Or (rule r (rule s rs))) d x
    -- `fractional`: the name whose share the key falls to; null where there is no key or no share
    fractional_means : {rs : Rules} {d : Data} {xs : List Data} → AllMean rs d xs
        → Means (apply Fractional rs) d (split_value d rs xs)

  -- each rule of a list gives its result
  pub data AllMean : Rules → Data → List Data → Type 0 where
    none_mean : {d : Data} → AllMean no_rules d []
    next_means : {r : Rule} {rs : Rules} {d x : Data} {xs : List Data} → Means r d x
        → AllMean rs d xs → AllMean (rule r rs) d (x ∷ xs)
