-- What compiling a part of a rule answers: whether it is a rule, and what was then made of it.
use Rattle.std.specs.Prelude.{◌≡◌, List, Bool, true, false, Some, None, is_some}
use Rattle.serde_json.specs.Data.{Data, null, boolean, number, string, array, object, Items}
use Rattle.serde_json.specs.Data.{no_members, member}
use Rattle.fp_targeting.specs.Compile.{first_unknown, items_unknown, rule_of, rules_from}
use Rattle.fp_targeting.specs.Literal.{all_literal}
use Rattle.fp_machine.specs.Operators.{allows}
use Rattle.fp_machine.specs.Rule.{Rule, apply}
use Rattle.fp_machine.specs.Split.{total_of}
use Rattle.fp_machine.specs.View.{rules_of}
use Rattle.fp_machine.specs.declared.operator.Operator.{Operator}

-- the value is a rule without an unknown operator, and this was made of it
pub record IsCompiled (Made : Rule → Type 0) (d : Data) : Type 0 where
  pub rule : Rule
  pub is_rule : rule_of d ≡ Some rule
  pub known : first_unknown d ≡ None
  pub made : Made rule

pub record AreCompiled (Made : List Rule → Type 0) (ds : Items) : Type 0 where
  pub rules : List Rule
  pub are_rules : rules_from ds ≡ Some rules
  pub known : items_unknown ds ≡ None
  pub made : Made rules

-- the value is no rule, or has an unknown operator
abbrev pub NoRule : Data → Type 0
NoRule d = first_unknown d ≡ None → rule_of d ≡ None

abbrev pub NoRules : Items → Type 0
NoRules ds = items_unknown ds ≡ None → rules_from ds ≡ None

abbrev pub Compiles : Bool → (Rule → Type 0) → Data → Type 0
Compiles true Made d = IsCompiled Made d
Compiles false Made d = NoRule d

abbrev pub CompileAll : Bool → (List Rule → Type 0) → Items → Type 0
CompileAll true Made ds = AreCompiled Made ds
CompileAll false Made ds = NoRules ds

-- at these arguments the operator is a rule, or it doesn't take them
abbrev pub Applies : Bool → Operator → (Rule → Type 0) → Items → Type 0
Applies true o Made ds =
    AreCompiled (λ rs. (allows o (rules_of rs) ≡ true) × Made (apply o (rules_of rs))) ds
Applies false o Made ds = items_unknown ds ≡ None → (rs : List Rule)
    → rules_from ds ≡ Some rs → allows o (rules_of rs) ≡ false

-- the value stands for itself: it is no operator's object, and no list of others than such
abbrev pub is_plain : Data → Bool
is_plain null = true
is_plain (boolean b) = true
is_plain (number n) = true
is_plain (string s) = true
is_plain (array ds) = all_literal ds
is_plain (object no_members) = true
is_plain (object (member k d no_members)) = false
is_plain (object (member k d (member l e ms))) = true

abbrev pub is_array : Data → Bool
is_array null = false
is_array (boolean b) = false
is_array (number n) = false
is_array (string s) = false
is_array (array ds) = true
is_array (object ms) = false

-- the values are pairs, and this was made of them; or they aren't
abbrev pub CompileSplit : Bool → (List Rule → Type 0) → Items → Type 0
CompileSplit true Made ds =
    AreCompiled (λ rs. (is_some (total_of (rules_of rs)) ≡ true) × Made rs) ds
CompileSplit false Made ds =
    (rs : List Rule) → rules_from ds ≡ Some rs → total_of (rules_of rs) ≡ None
