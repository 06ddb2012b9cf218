-- Each well-formed rule has one result.
use Rattle.std.proofs.Common.{◌≡◌, List, [], ◌∷◌, length, Bool, true, false, ◌&&◌, ◌||◌, ◌==◌, Some, refl, sym, ap, ◌∙◌}
use Rattle.std.proofs.Common.{subst, arith, if◌then◌else◌}
use Rattle.std.specs.Prelude.{nat_le}
use Rattle.fp_operators.specs.Data.{Data, null, boolean}
use Rattle.fp_operators.specs.Data as values
use Rattle.fp_operators.specs.Path.{variable_of}
use Rattle.fp_operators.specs.Truth.{truth}
use Rattle.fp_operators.specs.Version.{comparison}
use Rattle.fp_operators.specs.View.{items_of}
use Rattle.fp_machine.specs.Rule.{Rule, Rules, literal, list, apply, no_rules, rule}
use Rattle.fp_machine.specs.Operators.{takes, allows, count_of, well_formed, all_well_formed, unary, binary}
use Rattle.fp_machine.specs.Operators.{ascending, at_most_two, one, two, three, neighbours, result_of}
use Rattle.fp_machine.specs.Means as is
use Rattle.fp_machine.specs.Means.{Means, AllMean}
use Rattle.fp_machine.specs.Meaning.{meaning, meanings, or_null, value_at, value_behind_true, first_false, first_true}
use Rattle.fp_machine.specs.Split.{split_value}
use Rattle.fp_machine.specs.declared.operator.Operator.{Operator}
use Rattle.fp_machine.specs.declared.operator.Operator.TheVariants.{If, And, Or, Var, Cat, SemVer, Fractional, Unary, Binary, Chain}

-- which branch of a choice is taken is the same where both are alike
pub either_way : (b : Bool) (x : Data) → x ≡ if b then x else x
either_way true x = refl
either_way false x = refl

-- an operator that doesn't choose gives the same in both
gives_result : (o : Operator) (d x : Data) (rs : Rules) (xs : List Data) → result_of o d xs ≡ Some x → x ≡ value_at o d rs xs
gives_result If d x rs xs e = absurd (cc)
gives_result And d x rs xs e = absurd (cc)
gives_result Or d x rs xs e = absurd (cc)
gives_result Fractional d x rs xs e = absurd (cc)
gives_result o d x rs xs e = ap or_null (sym e)

mutual
  -- a result is the one that is computed
  pub Means-unique : {r : Rule} {d x : Data} → Means r d x → x ≡ meaning d r
  Means-unique is.literal_means = refl
  Means-unique (is.list_means rs) = ap (λ xs. values.list (items_of xs)) (AllMean-unique rs)
  Means-unique (is.operator_means {o = o} {rs = rs} {d = d} ms e) = gives_result o d _ rs _ e ∙ ap (value_at o d rs) (AllMean-unique ms)
  Means-unique is.if_none = refl
  Means-unique (is.if_last m) = Means-unique m
  Means-unique (is.if_true c e m) = rw (sym (ap truth (Means-unique c)) ∙ e) (Means-unique m)
  Means-unique (is.if_false c e m) = rw (sym (ap truth (Means-unique c)) ∙ e) (Means-unique m)
  Means-unique (is.and_last m) = Means-unique m ∙ either_way _ _
  Means-unique (is.and_false m e) = let i = Means-unique m in rw (sym (ap truth i) ∙ e) i
  Means-unique (is.and_true c e m) = rw (sym (ap truth (Means-unique c)) ∙ e) (Means-unique m)
  Means-unique (is.or_last m) = Means-unique m ∙ either_way _ _
  Means-unique (is.or_true m e) = let i = Means-unique m in rw (sym (ap truth i) ∙ e) i
  Means-unique (is.or_false c e m) = rw (sym (ap truth (Means-unique c)) ∙ e) (Means-unique m)
  Means-unique (is.fractional_means {rs = rs} {d = d} ms) = ap (split_value d rs) (AllMean-unique ms)

  AllMean-unique : {rs : Rules} {d : Data} {xs : List Data} → AllMean rs d xs → xs ≡ meanings d rs
  AllMean-unique is.none_mean = refl
  AllMean-unique (is.next_means m ms) = let i = Means-unique m in let j = AllMean-unique ms in cc

at_most_two-takes : (f : List Data → Data) (xs : List Data) → nat_le (length xs) 2 ≡ true →
    at_most_two f xs ≡ Some (or_null (at_most_two f xs))
at_most_two-takes f [] h = refl
at_most_two-takes f (a ∷ []) h = refl
at_most_two-takes f (a ∷ b ∷ []) h = refl
at_most_two-takes f (a ∷ b ∷ c ∷ xs) h = absurd (grind (arith, h))

one-takes : (f : Data → Data) (xs : List Data) → (length xs == 1) ≡ true → one f xs ≡ Some (or_null (one f xs))
one-takes f [] h = absurd (grind (arith, h))
one-takes f (a ∷ []) h = refl
one-takes f (a ∷ b ∷ xs) h = absurd (grind (arith, h))

two-takes : (f : Data → Data → Data) (xs : List Data) → (length xs == 2) ≡ true → two f xs ≡ Some (or_null (two f xs))
two-takes f [] h = absurd (grind (arith, h))
two-takes f (a ∷ []) h = absurd (grind (arith, h))
two-takes f (a ∷ b ∷ []) h = refl
two-takes f (a ∷ b ∷ c ∷ xs) h = absurd (grind (arith, h))

three-takes : (f : Data → Data → Data → Data) (xs : List Data) → (length xs == 3) ≡ true → three f xs ≡ Some (or_null (three f xs))
three-takes f [] h = absurd (grind (arith, h))
three-takes f (a ∷ []) h = absurd (grind (arith, h))
three-takes f (a ∷ b ∷ []) h = absurd (grind (arith, h))
three-takes f (a ∷ b ∷ c ∷ []) h = refl
three-takes f (a ∷ b ∷ c ∷ e ∷ xs) h = absurd (grind (arith, h))

neighbours-takes : (f : Data → Data → Bool) (xs : List Data) → (length xs == 2 || length xs == 3) ≡ true →
    neighbours f xs ≡ Some (or_null (neighbours f xs))
neighbours-takes f [] h = absurd (grind (arith, h))
neighbours-takes f (a ∷ []) h = absurd (grind (arith, h))
neighbours-takes f (a ∷ b ∷ []) h = refl
neighbours-takes f (a ∷ b ∷ c ∷ []) h = refl
neighbours-takes f (a ∷ b ∷ c ∷ e ∷ xs) h = absurd (grind (arith, h))

pub length-meanings : (d : Data) (rs : Rules) → length (meanings d rs) ≡ count_of rs
length-meanings d no_rules = refl
length-meanings d (rule r rs) = let i = length-meanings d rs in omega arith

if_step : (b : Bool) {c r : Rule} {rs : Rules} {d t x y : Data} → truth t ≡ b → Means c d t → Means r d x →
    Means (apply If rs) d y → Means (apply If (rule c (rule r rs))) d (if b then x else y)
if_step true e c m n = is.if_true c e m
if_step false e c m n = is.if_false c e n

if_means : {rs : Rules} {d : Data} {xs : List Data} → AllMean rs d xs → Means (apply If rs) d (value_behind_true xs)
if_means is.none_mean = is.if_none
if_means (is.next_means c is.none_mean) = is.if_last c
if_means (is.next_means c (is.next_means m ms)) = if_step _ refl c m (if_means ms)

and_step : (b : Bool) {r s : Rule} {rs : Rules} {d x y : Data} → truth x ≡ b → Means r d x →
    Means (apply And (rule s rs)) d y → Means (apply And (rule r (rule s rs))) d (if b then y else x)
and_step true e c m = is.and_true c e m
and_step false e c m = is.and_false c e

and_means : (last : Data) {r : Rule} {rs : Rules} {d x : Data} {xs : List Data} → Means r d x → AllMean rs d xs →
    Means (apply And (rule r rs)) d (first_false last (x ∷ xs))
and_means last {r = r} {d = d} m is.none_mean = subst (λ y. Means (apply And (rule r no_rules)) d y) (either_way _ _) (is.and_last m)
and_means last {x = x} m (is.next_means n ms) = and_step _ refl m (and_means x n ms)

or_step : (b : Bool) {r s : Rule} {rs : Rules} {d x y : Data} → truth x ≡ b → Means r d x →
    Means (apply Or (rule s rs)) d y → Means (apply Or (rule r (rule s rs))) d (if b then x else y)
or_step true e c m = is.or_true c e
or_step false e c m = is.or_false c e m

or_means : (last : Data) {r : Rule} {rs : Rules} {d x : Data} {xs : List Data} → Means r d x → AllMean rs d xs →
    Means (apply Or (rule r rs)) d (first_true last (x ∷ xs))
or_means last {r = r} {d = d} m is.none_mean = subst (λ y. Means (apply Or (rule r no_rules)) d y) (either_way _ _) (is.or_last m)
or_means last {x = x} m (is.next_means n ms) = or_step _ refl m (or_means x n ms)

pub both : (a b : Bool) → (a && b) ≡ true → (a ≡ true) × (b ≡ true)
both true b h = (refl, h)
both false b h = absurd (cc)

takes-meanings : (o : Operator) (d : Data) (rs : Rules) → takes o (count_of rs) ≡ true → takes o (length (meanings d rs)) ≡ true
takes-meanings o d rs h = ap (takes o) (length-meanings d rs) ∙ h

-- an operator at arguments that have their results
operator_has : (o : Operator) (d : Data) (rs : Rules) → allows o rs ≡ true → AllMean rs d (meanings d rs) →
    Means (apply o rs) d (value_at o d rs (meanings d rs))
operator_has If d rs h all = if_means all
operator_has And d no_rules h all = absurd (grind (arith, h))
operator_has And d (rule r rs) h (is.next_means m ms) = and_means null m ms
operator_has Or d no_rules h all = absurd (grind (arith, h))
operator_has Or d (rule r rs) h (is.next_means m ms) = or_means null m ms
operator_has Var d rs h all = is.operator_means all (at_most_two-takes (variable_of d) (meanings d rs) (takes-meanings Var d rs h))
operator_has Cat d rs h all = is.operator_means all refl
operator_has SemVer d rs h all =
    is.operator_means all (three-takes (λ a b c. boolean (comparison a b c)) (meanings d rs)
    (takes-meanings SemVer d rs h))
operator_has Fractional d rs h all = is.fractional_means all
operator_has (Unary o) d rs h all = is.operator_means all (one-takes (unary o) (meanings d rs) (takes-meanings (Unary o) d rs h))
operator_has (Binary o) d rs h all = is.operator_means all (two-takes (binary o) (meanings d rs) (takes-meanings (Binary o) d rs h))
operator_has (Chain o) d rs h all = is.operator_means all (neighbours-takes (ascending o) (meanings d rs) (takes-meanings (Chain o) d rs h))

mutual
  -- what is computed is a result
  pub Means-exists : (d : Data) (r : Rule) → well_formed r ≡ true → Means r d (meaning d r)
  Means-exists d (literal x) h = is.literal_means
  Means-exists d (list rs) h = is.list_means (AllMean-exists d rs h)
  Means-exists d (apply o rs) h =
      let all = both (allows o rs) (all_well_formed rs) h in
      operator_has o d rs all.0 (AllMean-exists d rs all.1)

  AllMean-exists : (d : Data) (rs : Rules) → all_well_formed rs ≡ true → AllMean rs d (meanings d rs)
  AllMean-exists d no_rules h = is.none_mean
  AllMean-exists d (rule r rs) h = let all = both (well_formed r) (all_well_formed rs) h in
      is.next_means (Means-exists d r all.0) (AllMean-exists d rs all.1)
