-- What `!!` and `!` of a rule mean, and rules that name nothing.
use Rattle.std.proofs.Common.{◌≡◌, List, [], ◌∷◌, Bool, true, false, not, Some, refl, sym, ap, ◌∙◌}
use Rattle.fp_operators.specs.Data.{Data, boolean}
use Rattle.fp_operators.specs.Truth.{truth}
use Rattle.fp_machine.specs.Rule.{Rule, Rules, apply, no_rules, rule}
use Rattle.fp_machine.specs.Operators.{result_of}
use Rattle.fp_machine.specs.Means as is
use Rattle.fp_machine.specs.Means.{Means, AllMean}
use Rattle.fp_targeting.specs.Laws.{TruthIsOfTheResult, NotTwiceIsTruth, DataUnnamedAreUnused, looks_at_nothing}
use Rattle.fp_targeting.specs.Laws.{names_nothing, all_name_nothing}
use Rattle.fp_machine.specs.declared.operator.Operator.{Operator}
use Rattle.fp_machine.specs.declared.operator.Operator.TheVariants.{Var, Unary}
use Rattle.fp_machine.specs.declared.operator.UnaryOperator.{UnaryOperator}
use Rattle.fp_machine.proofs.OneResult.{both}

-- an operator of one argument looks at that argument's result
unary_of : {o : UnaryOperator} {r : Rule} {d x : Data} → Means (apply (Unary o) (rule r no_rules)) d x → (y : Data) ×
    Means r d y × (result_of (Unary o) d (y ∷ []) ≡ Some x)
unary_of (is.operator_means (is.next_means {x = y} m is.none_mean) e) = (y, m, e)

unary_means : {o : UnaryOperator} {r : Rule} {d x y : Data} → Means r d y → result_of (Unary o) d (y ∷ []) ≡ Some x →
    Means (apply (Unary o) (rule r no_rules)) d x
unary_means m e = is.operator_means (is.next_means m is.none_mean) e

pub truth_of_result : TruthIsOfTheResult
truth_of_result r d x = (
  λ m. let (y, n, e) = unary_of m in (y, n, cc),
  λ (y, n, e). unary_means n (ap Some (sym e)),
)

not_not : (b : Bool) → not (not b) ≡ b
not_not true = refl
not_not false = refl

pub not_twice : NotTwiceIsTruth
not_twice r d x = (
  λ m.
      let (y, n, e) = unary_of m in
      let (z, k, f) = unary_of n in
      let inner : boolean (not (truth z)) ≡ y = cc in
      let outer : boolean (not (truth y)) ≡ x = cc in
      unary_means k (ap (λ b. Some (boolean b)) (sym (not_not (truth z)) ∙ ap (λ a. not (truth a)) inner) ∙ ap Some outer),
  λ m.
      let (y, n, e) = unary_of m in
      unary_means (unary_means n refl) (ap (λ b. Some (boolean b)) (not_not (truth y)) ∙ e),
)

-- an operator other than `var` gives the same on all data
same_result : (o : Operator) (d e : Data) (xs : List Data) → looks_at_nothing o ≡ true → result_of o d xs ≡ result_of o e xs
same_result Var d e xs h = absurd (cc)
same_result o d e xs h = refl

mutual
  pub Means-anywhere : {r : Rule} {d x : Data} (e : Data) → Means r d x → names_nothing r ≡ true → Means r e x
  Means-anywhere e is.literal_means h = is.literal_means
  Means-anywhere e (is.list_means ms) h = is.list_means (AllMean-anywhere e ms h)
  Means-anywhere e (is.operator_means {o = o} {rs = rs} {d = d} {xs = xs} ms f) h =
      let parts = both (looks_at_nothing o) (all_name_nothing rs) h in
      is.operator_means (AllMean-anywhere e ms parts.1) (sym (same_result o d e xs parts.0) ∙ f)
  Means-anywhere e is.if_none h = is.if_none
  Means-anywhere e (is.if_last {r = r} m) h = let parts = both (names_nothing r) true h in is.if_last (Means-anywhere e m parts.0)
  Means-anywhere e (is.if_true {c = c} {r = r} {rs = rs} m t n) h =
      let parts = both (names_nothing c) (all_name_nothing (rule r rs)) h in
      is.if_true (Means-anywhere e m parts.0) t (Means-anywhere e n (both (names_nothing r) (all_name_nothing rs) parts.1).0)
  Means-anywhere e (is.if_false {c = c} {r = r} {rs = rs} m t n) h =
      let parts = both (names_nothing c) (all_name_nothing (rule r rs)) h in
      is.if_false (Means-anywhere e m parts.0) t (Means-anywhere e n (both (names_nothing r) (all_name_nothing rs) parts.1).1)
  Means-anywhere e (is.and_last {r = r} m) h = let parts = both (names_nothing r) true h in is.and_last (Means-anywhere e m parts.0)
  Means-anywhere e (is.and_false {r = r} {rs = rs} m t) h =
      is.and_false (Means-anywhere e m (both (names_nothing r) (all_name_nothing rs) h).0) t
  Means-anywhere e (is.and_true {r = r} {s = s} {rs = rs} m t n) h =
      let parts = both (names_nothing r) (all_name_nothing (rule s rs)) h in
      is.and_true (Means-anywhere e m parts.0) t (Means-anywhere e n parts.1)
  Means-anywhere e (is.or_last {r = r} m) h = let parts = both (names_nothing r) true h in is.or_last (Means-anywhere e m parts.0)
  Means-anywhere e (is.or_true {r = r} {rs = rs} m t) h =
      is.or_true (Means-anywhere e m (both (names_nothing r) (all_name_nothing rs) h).0) t
  Means-anywhere e (is.or_false {r = r} {s = s} {rs = rs} m t n) h =
      let parts = both (names_nothing r) (all_name_nothing (rule s rs)) h in
      is.or_false (Means-anywhere e m parts.0) t (Means-anywhere e n parts.1)
  Means-anywhere e (is.fractional_means ms) h = absurd (cc)

  AllMean-anywhere : {rs : Rules} {d : Data} {xs : List Data} (e : Data) → AllMean rs d xs → all_name_nothing rs ≡ true → AllMean rs e xs
  AllMean-anywhere e is.none_mean h = is.none_mean
  AllMean-anywhere e (is.next_means {r = r} {rs = rs} m ms) h =
      let parts = both (names_nothing r) (all_name_nothing rs) h in
      is.next_means (Means-anywhere e m parts.0) (AllMean-anywhere e ms parts.1)

pub unnamed_unused : DataUnnamedAreUnused
unnamed_unused r d e x h m = Means-anywhere e m h
