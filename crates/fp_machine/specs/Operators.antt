-- The operators: their names, how many arguments each takes, and what each gives.
use Rattle.std.specs.Prelude.{ℕ, ◌+◌, List, [], ◌∷◌, Bool, true, not, ◌&&◌, ◌||◌, ◌==◌, nat_le}
use Rattle.std.specs.Prelude.{Option, Some, None, bytes_eq, codes, if◌then◌else◌}
use Rattle.fp_operators.specs.Data.{Data, boolean}
use Rattle.fp_operators.specs.Truth.{truth}
use Rattle.fp_operators.specs.Equality.{strict_equality, loose_equality}
use Rattle.fp_operators.specs.Order.{is_below, is_at_most}
use Rattle.fp_operators.specs.Text.{is_part, has_prefix, has_suffix, concatenation}
use Rattle.fp_operators.specs.Arithmetic.{remainder_of}
use Rattle.fp_operators.specs.Path.{variable_of}
use Rattle.fp_operators.specs.Version.{comparison}
use Rattle.fp_machine.specs.Rule as tree
use Rattle.fp_machine.specs.Rule.{Rule, Rules, no_rules, rule}
use Rattle.fp_machine.specs.Split.{is_split}
use Rattle.fp_machine.specs.declared.operator.Operator.{Operator}
use Rattle.fp_machine.specs.declared.operator.Operator.TheVariants.{If, And, Or, Var, Cat, SemVer}
use Rattle.fp_machine.specs.declared.operator.Operator.TheVariants.{Fractional}
use Rattle.fp_machine.specs.declared.operator.Operator.TheVariants.{Unary, Binary, Chain}
use Rattle.fp_machine.specs.declared.operator.UnaryOperator.{UnaryOperator}
use Rattle.fp_machine.specs.declared.operator.UnaryOperator.TheVariants.{Not, Truth}
use Rattle.fp_machine.specs.declared.operator.BinaryOperator.{BinaryOperator}
use Rattle.fp_machine.specs.declared.operator.BinaryOperator.TheVariants.{
  StrictlyEqual,
  StrictlyUnequal,
  LooselyEqual,
  LooselyUnequal,
  Greater,
  GreaterOrEqual,
  In,
  Remainder,
  StartsWith,
  EndsWith,
}
use Rattle.fp_machine.specs.declared.operator.ChainOperator.{ChainOperator}
use Rattle.fp_machine.specs.declared.operator.ChainOperator.TheVariants.{Less, LessOrEqual}

-- the operator that compares two data, by its name
abbrev pub comparison_of : List ℕ → Option Operator
comparison_of name =
    if bytes_eq name (codes "===") then Some (Binary StrictlyEqual) else
    if bytes_eq name (codes "!==") then Some (Binary StrictlyUnequal) else
    if bytes_eq name (codes "==") then Some (Binary LooselyEqual) else
    if bytes_eq name (codes "!=") then Some (Binary LooselyUnequal) else
    if bytes_eq name (codes "<") then Some (Chain Less) else
    if bytes_eq name (codes "<=") then Some (Chain LessOrEqual) else
    if bytes_eq name (codes ">") then Some (Binary Greater) else
    if bytes_eq name (codes ">=") then Some (Binary GreaterOrEqual) else None

-- the operator of this name
abbrev pub operator_of : List ℕ → Option Operator
operator_of name =
    if bytes_eq name (codes "var") then Some Var else
    if bytes_eq name (codes "if") then Some If else
    if bytes_eq name (codes "and") then Some And else
    if bytes_eq name (codes "or") then Some Or else
    if bytes_eq name (codes "!") then Some (Unary Not) else
    if bytes_eq name (codes "!!") then Some (Unary Truth) else
    if bytes_eq name (codes "in") then Some (Binary In) else
    if bytes_eq name (codes "cat") then Some Cat else
    if bytes_eq name (codes "%") then Some (Binary Remainder) else
    if bytes_eq name (codes "starts_with") then Some (Binary StartsWith) else
    if bytes_eq name (codes "ends_with") then Some (Binary EndsWith) else
    if bytes_eq name (codes "sem_ver") then Some SemVer else
    if bytes_eq name (codes "fractional") then Some Fractional else comparison_of name

-- how many arguments an operator takes
abbrev pub takes : Operator → ℕ → Bool
takes If n = true
takes And n = nat_le 1 n
takes Or n = nat_le 1 n
takes Var n = nat_le n 2
takes Cat n = true
takes SemVer n = n == 3
takes Fractional n = nat_le 1 n
takes (Unary o) n = n == 1
takes (Binary o) n = n == 2
takes (Chain o) n = n == 2 || n == 3

abbrev pub count_of : Rules → ℕ
count_of no_rules = 0
count_of (rule r rs) = 1 + count_of rs

-- the operator has as many arguments as it takes; those of `fractional` are pairs, too
abbrev pub allows : Operator → Rules → Bool
allows Fractional rs = is_split rs
allows o rs = takes o (count_of rs)

-- each operator in a rule has arguments that it takes
abbrev mutual
  pub well_formed : Rule → Bool
  well_formed (tree.literal d) = true
  well_formed (tree.list rs) = all_well_formed rs
  well_formed (tree.apply o rs) = allows o rs && all_well_formed rs

  pub all_well_formed : Rules → Bool
  all_well_formed no_rules = true
  all_well_formed (rule r rs) = well_formed r && all_well_formed rs

abbrev pub unary : UnaryOperator → Data → Data
unary Not a = boolean (not (truth a))
unary Truth a = boolean (truth a)

abbrev pub binary : BinaryOperator → Data → Data → Data
binary StrictlyEqual a b = boolean (strict_equality a b)
binary StrictlyUnequal a b = boolean (not (strict_equality a b))
binary LooselyEqual a b = boolean (loose_equality a b)
binary LooselyUnequal a b = boolean (not (loose_equality a b))
binary Greater a b = boolean (is_below b a)
binary GreaterOrEqual a b = boolean (is_at_most b a)
binary In a b = boolean (is_part a b)
binary Remainder a b = remainder_of a b
binary StartsWith a b = boolean (has_prefix a b)
binary EndsWith a b = boolean (has_suffix a b)

abbrev pub ascending : ChainOperator → Data → Data → Bool
ascending Less a b = is_below a b
ascending LessOrEqual a b = is_at_most a b

abbrev pub at_most_two : (List Data → Data) → List Data → Option Data
at_most_two f (a ∷ b ∷ c ∷ ds) = None
at_most_two f ds = Some (f ds)

abbrev pub one : (Data → Data) → List Data → Option Data
one f (a ∷ []) = Some (f a)
one f ds = None

abbrev pub two : (Data → Data → Data) → List Data → Option Data
two f (a ∷ b ∷ []) = Some (f a b)
two f ds = None

abbrev pub three : (Data → Data → Data → Data) → List Data → Option Data
three f (a ∷ b ∷ c ∷ []) = Some (f a b c)
three f ds = None

-- each two neighbours
abbrev pub neighbours : (Data → Data → Bool) → List Data → Option Data
neighbours f (a ∷ b ∷ []) = Some (boolean (f a b))
neighbours f (a ∷ b ∷ c ∷ []) = Some (boolean (f a b && f b c))
neighbours f ds = None

-- what an operator of one to three arguments gives for their results, where it takes that many
abbrev pub result_of_few : Operator → List Data → Option Data
result_of_few SemVer ds = three (λ a b c. boolean (comparison a b c)) ds
result_of_few (Unary o) ds = one (unary o) ds
result_of_few (Binary o) ds = two (binary o) ds
result_of_few (Chain o) ds = neighbours (ascending o) ds
result_of_few o ds = None

-- what an operator that needs all its arguments gives for their results, where it takes that many
abbrev pub result_of : Operator → Data → List Data → Option Data
result_of Var root ds = at_most_two (variable_of root) ds
result_of Cat root ds = Some (concatenation ds)
result_of o root ds = result_of_few o ds
