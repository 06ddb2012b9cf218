-- What compiling a JSON value answers.
use Rattle.std.specs.Prelude.{ℕ, List, [], ◌∷◌, ◌&&◌, Option, Some, None, option_map}
use Rattle.std.specs.Prelude.{option_and_then, is_some, nat_le, Result, Ok, Err, if◌then◌else◌}
use Rattle.serde_json.specs.Data.{Data, null, boolean, number, string, array, object, Items}
use Rattle.serde_json.specs.Data.{no_items, item, no_members, member, depth}
use Rattle.fp_base.specs.Count.{count}
use Rattle.fp_base.specs.Whole.{is_whole}
use Rattle.fp_operators.specs.FromJson.{data_of}
use Rattle.fp_machine.specs.Rule as tree
use Rattle.fp_machine.specs.Rule.{Rule}
use Rattle.fp_machine.specs.Operators.{operator_of, allows}
use Rattle.fp_machine.specs.View.{rules_of}
use Rattle.fp_machine.specs.Numbers.{DEEPEST_RULE}
use Rattle.fp_targeting.specs.Numbers.{MOST_RULE_VALUES}

abbrev pub first_of : Option (List ℕ) → Option (List ℕ) → Option (List ℕ)
first_of None other = other
first_of (Some name) other = Some name

-- the first name that no operator has, in reading order
abbrev mutual
  pub first_unknown : Data → Option (List ℕ)
  first_unknown null = None
  first_unknown (boolean b) = None
  first_unknown (number n) = None
  first_unknown (string s) = None
  first_unknown (array ds) = items_unknown ds
  first_unknown (object no_members) = None
  first_unknown (object (member k d no_members)) =
      if is_some (operator_of k) then first_unknown d else Some k
  first_unknown (object (member k d (member l e ms))) = None

  pub items_unknown : Items → Option (List ℕ)
  items_unknown no_items = None
  items_unknown (item d ds) = first_of (first_unknown d) (items_unknown ds)

abbrev pub one_more : Option Rule → Option (List Rule) → Option (List Rule)
one_more first others = option_and_then (λ r. option_map (λ rs. r ∷ rs) others) first

-- the operator of a name at its arguments, if it takes them
abbrev pub operator_rule : List ℕ → Option (List Rule) → Option Rule
operator_rule name arguments =
    option_and_then
    (λ o. option_and_then
    (λ rs. if allows o (rules_of rs) then Some (tree.apply o (rules_of rs)) else None) arguments)
    (operator_of name)

-- the rule that a value writes: an object of one member is an operator, with a list of arguments or
-- an only one; a list is a list of rules; all else stands for itself
abbrev mutual
  pub rule_of : Data → Option Rule
  rule_of null = Some (tree.literal (data_of null))
  rule_of (boolean b) = Some (tree.literal (data_of (boolean b)))
  rule_of (number n) = Some (tree.literal (data_of (number n)))
  rule_of (string s) = Some (tree.literal (data_of (string s)))
  rule_of (array ds) = option_map (λ rs. tree.list (rules_of rs)) (rules_from ds)
  rule_of (object no_members) = Some (tree.literal (data_of (object no_members)))
  rule_of (object (member k (array ds) no_members)) = operator_rule k (rules_from ds)
  rule_of (object (member k d no_members)) = operator_rule k (one_more (rule_of d) (Some []))
  rule_of (object (member k d (member l e ms))) =
      Some (tree.literal (data_of (object (member k d (member l e ms)))))

  pub rules_from : Items → Option (List Rule)
  rules_from no_items = Some []
  rules_from (item d ds) = one_more (rule_of d) (rules_from ds)

-- a list of arguments, or an only one
abbrev pub arguments_of : Data → Option (List Rule)
arguments_of (array ds) = rules_from ds
arguments_of d = one_more (rule_of d) (Some [])

-- why a value is no rule
pub data Fault : Type 0 where
  too_deep : Fault
  unsupported : List ℕ → Fault
  bad : Fault

abbrev pub rule_or_bad : Option Rule → Result Rule Fault
rule_or_bad None = Err bad
rule_or_bad (Some r) = Ok r

abbrev pub verdict_known : Data → Option (List ℕ) → Result Rule Fault
verdict_known d (Some name) = Err (unsupported name)
verdict_known d None =
    if nat_le (count d) MOST_RULE_VALUES && is_whole d then rule_or_bad (rule_of d) else Err bad

-- too deep, else the first unknown operator, else a bad rule, else the rule that the value writes
abbrev pub verdict : Data → Result Rule Fault
verdict d = if nat_le (depth d) DEEPEST_RULE then verdict_known d (first_unknown d)
    else Err too_deep
