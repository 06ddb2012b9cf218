use Rattle.std.proofs.Common.{arith, sym, ap, ◌∙◌, refl, subst, drop, take, [], ◌∷◌, ◌≢◌, ◌≡◌, ◌≤◌, ◌+◌, true, false}
use Rattle.std.proofs.Common.{get_or, length, ◌-◌, ◌*◌, ◌<◌, ◌/◌}
use Rattle.std.proofs.lemmas.Bool.{leb-true}
use Rattle.std.proofs.lemmas.List.{take_rest, length-drop}
use Rattle.serde_json.specs.Data.{no_items, item, array}
use Rattle.fp_base.specs.Count.{count, items_count}
use Rattle.fp_base.specs.Ordered.{IsOrdered, AreOrdered}
use Rattle.fp_base.specs.TreeView.{tree_view, tree_items}
use Rattle.fp_base.proofs.Counted.{count_some}
use Rattle.fp_base.proofs.Views.{view-Array, view-Object}
use Rattle.fp_operators.specs.Data.{text}
use Rattle.fp_targeting.specs.Compiles.{Compiles, CompileAll, IsCompiled, AreCompiled, NoRule, is_plain, NoRules}
use Rattle.fp_targeting.specs.Literal.{all_literal}
use Rattle.fp_targeting.specs.Emits.{Pushed, Adds, Decides, Finds}
use Rattle.fp_machine.specs.Operators.{takes}
use Rattle.fp_machine.specs.Rule.{apply, literal}
use Rattle.fp_machine.specs.View.{rules_of}
use Rattle.fp_machine.specs.declared.code.Step.TheVariants.{End}
use Rattle.fp_machine.specs.declared.operator.Operator.TheVariants.{If}
use Rattle.fp_targeting.proofs.Compiling.{stops-either, stops-any, strict-either, unnamed, applies, refuses}
use Rattle.fp_targeting.proofs.Compiling.{looks-other, operation, decided, joined_all, collected_all, wrapped}
use Rattle.fp_targeting.proofs.Deciding.{finds-computed, found-alone, found-default, last-decides, more-decides, if-none, if-last, if-more}
use Rattle.fp_targeting.proofs.Emitting.{added-load, pushed-there, operand-there, stays, adds-later, raised-there}
use Rattle.fp_targeting.proofs.Emitting.{kept-operand, kept-computed, kept-at, keeps-none, keeps-more}
use Rattle.fp_targeting.proofs.Leaves.{others-plain}
use Rattle.fp_targeting.proofs.Loops.{no-rules-drop, compiled-end, compiled-any, no-rules-at, compiled-more, compiled-pair}
use Rattle.fp_targeting.proofs.Parts.{parted, no-first, no-others, compiles-true, compiles-false, all-false, made-into}
use Rattle.fp_targeting.proofs.Parts.{all-made-into, same-items, both-compiled, in-front, alone, compile-before}
use Rattle.fp_targeting.proofs.Parts.{compile-behind, compile-one, last-item, two-items, three-items, compile-last}
use Rattle.fp_targeting.proofs.Sizes.{drop-count, drop-ordered, at-count, at-ordered, two-counted, three-counted}
use Rattle.fp_targeting.proofs.Splitting.{split-lent, split-computed, split_alone, split_none, split_bad, split_behind, is_list-array}
use Rattle.fp_targeting.proofs.Strictly.{few-taken, added-one, added-one-computed, added-two, added-two-second}
use Rattle.fp_targeting.proofs.Strictly.{added-two-first, added-three, added-second, added-third}
use Rattle.fp_targeting.proofs.Trees.{only-Object}
use Rattle.fp_targeting.proofs.Written.{written}
use Rattle.fp_targeting.proofs.builder.Builder.+build.Goals as goal

pub apply-split-requires : goal.apply-split-requires
apply-split-requires t c = (omega (arith, c.decreases), c.requires.ordered)

pub apply-taken-requires : goal.apply-taken-requires
apply-taken-requires t c = (
  omega (arith, c.decreases),
  (
    sym c.takes.ensures ∙ c.if-not-takes.false,
    (looks-other c.args.operator c.in_default.not-Fractional, c.requires.ordered),
  ),
)

pub branches-otherwise-requires : goal.branches-otherwise-requires
branches-otherwise-requires t c =
    let xs = c.args.arguments.now in
    let k = 2 * (length xs / 2) in
    let ts = take (length xs - k) (drop k xs) in
    let same : ts ≡ drop k xs = take_rest xs k in
    let many = drop-count k xs in
    let less : items_count (tree_items ts) ≡ items_count (tree_items (drop k xs)) = ap (λ ys. items_count (tree_items ys)) same in
    let f : 16 * items_count (tree_items ts) + 6 < t = omega (arith, sym c.decreases, many, less) in
    let long = ap length same in
    (f, (omega (arith, long, length-drop k xs), subst (λ ys. AreOrdered (tree_items ys)) (sym same) (drop-ordered k xs c.requires.ordered)))

pub branches-compute-requires : goal.branches-compute-requires
branches-compute-requires t c =
    let xs = c.args.arguments.now in
    let within : 2 * (c.pairs.pairs - 1) + 1 < length xs = omega (arith, c.pairs.invariant.within, c.pairs-test.true) in
    let many = at-count (2 * (c.pairs.pairs - 1) + 1) xs c.index-arguments-pairs.result within c.index-arguments-pairs.is in (
      omega (arith, c.decreases, many),
      at-ordered (2 * (c.pairs.pairs - 1) + 1) xs c.index-arguments-pairs.result within c.index-arguments-pairs.is
          c.requires.ordered,
    )

pub branches-compute-requires-in-pairs : goal.branches-compute-requires-in-pairs
branches-compute-requires-in-pairs t c =
    let xs = c.args.arguments.now in
    let within : 2 * (c.pairs.pairs - 1) < length xs = omega (arith, c.pairs.invariant.within, c.pairs-test.true) in
    let many = at-count (2 * (c.pairs.pairs - 1)) xs c.index-arguments-pairs-in-pairs.result within c.index-arguments-pairs-in-pairs.is in (
      omega (arith, c.decreases, many),
      at-ordered (2 * (c.pairs.pairs - 1)) xs c.index-arguments-pairs-in-pairs.result within
          c.index-arguments-pairs-in-pairs.is c.requires.ordered,
    )

pub compute-list-requires : goal.compute-list-requires
compute-list-requires t c =
    let v = c.in-Array.items in
    let shape : tree_view c.args.json.now ≡ array (tree_items v.now) = ap tree_view c.in-Array.is ∙ view-Array v in
    let counted : count (tree_view c.args.json.now) ≡ 1 + items_count (tree_items v.now) = ap count shape in
    (omega (arith, c.decreases, counted), (sym c.are_literals.ensures ∙ c.if-are_literals.false, subst IsOrdered shape c.requires))

pub list-each_kept-requires : goal.list-each_kept-requires
list-each_kept-requires t c = (omega (arith, c.decreases), c.requires.ordered)

pub list-compute-requires : goal.list-compute-requires
list-compute-requires t c =
    let xs = c.args.items.now in
    let within : 0 < length xs = omega (arith, c.in-len1.len_at_least) in
    let many = at-count 0 xs c.only-item.result within c.only-item.is in
    (omega (arith, c.decreases, many), at-ordered 0 xs c.only-item.result within c.only-item.is c.requires.ordered)

pub compute-load_constant-requires-then-members-ne1-clause-plain : goal.compute-load_constant-requires-then-members-ne1-clause-plain
compute-load_constant-requires-then-members-ne1-clause-plain t c =
    let v = c.in-Object.members in
    let others : length v.now ≢ 1 = grind (arith, c.if-members-ne1.true) in
    ap is_plain (ap tree_view c.in-Object.is ∙ view-Object v) ∙ others-plain v.now others

pub conditions-compute-requires : goal.conditions-compute-requires
conditions-compute-requires t c =
    let xs = c.args.arguments.now in
    let within : length c.args.arguments.now - 1 < length xs = omega (arith, c.requires.any) in
    let many = at-count (length c.args.arguments.now - 1) xs c.index-arguments-left.result within c.index-arguments-left.is in (
      omega (arith, c.decreases, many),
      at-ordered (length c.args.arguments.now - 1) xs c.index-arguments-left.result within
          c.index-arguments-left.is c.requires.ordered,
    )

pub conditions-compute-requires-in-conditions : goal.conditions-compute-requires-in-conditions
conditions-compute-requires-in-conditions t c =
    let xs = c.args.arguments.now in
    let within : c.conditions.left - 1 < length xs = omega (arith, c.conditions.invariant.within, c.conditions-test.true) in
    let many = at-count (c.conditions.left - 1) xs c.index-arguments-left-in-conditions.result within
    c.index-arguments-left-in-conditions.is in (
      omega (arith, c.decreases, many),
      at-ordered (c.conditions.left - 1) xs c.index-arguments-left-in-conditions.result within
          c.index-arguments-left-in-conditions.is c.requires.ordered,
    )

pub each_kept-one_kept-requires : goal.each_kept-one_kept-requires
each_kept-one_kept-requires t c =
    let xs = c.args.arguments.now in
    let within : c.arguments.left - 1 < length xs = omega (arith, c.arguments.invariant.within, c.arguments-test.true) in
    let many = at-count (c.arguments.left - 1) xs c.index-arguments-left.result within c.index-arguments-left.is in (
      omega (arith, c.decreases, many),
      at-ordered (c.arguments.left - 1) xs c.index-arguments-left.result within c.index-arguments-left.is
          c.requires,
    )

pub few-one-requires : goal.few-one-requires
few-one-requires t c =
    let within : 0 < length c.args.arguments.now = omega (arith, c.in-len1.len_at_least) in
    let n = at-count 0 c.args.arguments.now c.a-item.result within c.a-item.is in (
      omega (arith, c.decreases, n),
      (c.requires.strict, at-ordered 0 c.args.arguments.now c.a-item.result within c.a-item.is c.requires.ordered),
    )

pub few-two-requires : goal.few-two-requires
few-two-requires t c =
    let ts = c.args.arguments.now in
    let a = c.a-item-then-arguments-lt3.result in
    let b = c.b-item.result in
    let long : 2 ≤ length ts = omega (arith, c.in-len2.len_at_least) in
    let first : 0 < length ts = omega (arith, long) in
    let second : 1 < length ts = omega (arith, long) in
    let n = two-counted ts a b long c.a-item-then-arguments-lt3.is c.b-item.is in (
      omega (arith, c.decreases, n),
      (
        c.requires.strict,
        (
          at-ordered 0 ts a first c.a-item-then-arguments-lt3.is c.requires.ordered,
          at-ordered 1 ts b second c.b-item.is c.requires.ordered,
        ),
      ),
    )

pub few-three-requires : goal.few-three-requires
few-three-requires t c =
    let ts = c.args.arguments.now in
    let long : 3 ≤ length ts = omega (arith, c.in-len3-up.len_at_least) in
    let first : 0 < length ts = omega (arith, long) in
    let second : 1 < length ts = omega (arith, long) in
    let third : 2 < length ts = omega (arith, long) in
    let n = three-counted ts c.a-item-2.result c.b-item-2.result c.c-item.result long c.a-item-2.is c.b-item-2.is c.c-item.is in (
      omega (arith, c.decreases, n),
      (
        c.requires.strict,
        (
          at-ordered 0 ts c.a-item-2.result first c.a-item-2.is c.requires.ordered,
          (
            at-ordered 1 ts c.b-item-2.result second c.b-item-2.is c.requires.ordered,
            at-ordered 2 ts c.c-item.result third c.c-item.is c.requires.ordered,
          ),
        ),
      ),
    )

pub few-returns-in_ok-three-in-len3-up : goal.few-returns-in_ok-three-in-len3-up
few-returns-in_ok-three-in-len3-up t c =
    let ts = c.args.arguments.now in
    let most = few-taken c.args.operator (length ts) c.requires.strict c.requires.takes in
    let long : length ts ≡ 3 = omega (arith, most, c.in-len3-up.len_at_least) in
    let e = three-items ts c.a-item-2.result c.b-item-2.result c.c-item.result long c.a-item-2.is c.b-item-2.is c.c-item.is in
    same-items _ c.in_ok-three-in-len3-up.field-0 (ap tree_items (sym e)) c.in_ok-three-in-len3-up.ensures

pub found-find-requires : goal.found-find-requires
found-find-requires t c =
    let xs = c.args.arguments.now in
    let within : 0 < length xs = omega (arith, c.in-len1-up.len_at_least) in
    let many = at-count 0 xs c.path-item.result within c.path-item.is in
    (omega (arith, c.decreases, many), at-ordered 0 xs c.path-item.result within c.path-item.is c.requires.ordered)

pub found-compute-requires : goal.found-compute-requires
found-compute-requires t c =
    let xs = c.args.arguments.now in
    let within : 1 < length xs = omega (arith, c.in-len2-up.len_at_least) in
    let many = at-count 1 xs c.default-item.result within c.default-item.is in
    (omega (arith, c.decreases, many), at-ordered 1 xs c.default-item.result within c.default-item.is c.requires.ordered)

pub found-find-requires-in-len2-up : goal.found-find-requires-in-len2-up
found-find-requires-in-len2-up t c =
    let xs = c.args.arguments.now in
    let within : 0 < length xs = omega (arith, c.in-len2-up.len_at_least) in
    let many = at-count 0 xs c.path-item-2.result within c.path-item-2.is in
    (omega (arith, c.decreases, many), at-ordered 0 xs c.path-item-2.result within c.path-item-2.is c.requires.ordered)

pub one-compute-requires : goal.one-compute-requires
one-compute-requires t c = (omega (arith, c.decreases), c.requires.ordered)

pub otherwise-compute-requires : goal.otherwise-compute-requires
otherwise-compute-requires t c =
    let xs = c.args.arguments.now in
    let within : 0 < length xs = omega (arith, c.in-len1-up.len_at_least) in
    let many = at-count 0 xs c.last-item.result within c.last-item.is in
    (omega (arith, c.decreases, many), at-ordered 0 xs c.last-item.result within c.last-item.is c.requires.ordered)

pub second-compute-requires : goal.second-compute-requires
second-compute-requires t c = (omega (arith, c.decreases, count_some (tree_view c.args.a.now)), c.requires.second)

pub second-compute-requires-2 : goal.second-compute-requires-2
second-compute-requires-2 t c = (omega (arith, c.decreases, count_some (tree_view c.args.b.now)), c.requires.first)

pub split-split_by-requires : goal.split-split_by-requires
split-split_by-requires t c =
    let ts = c.args.arguments.now in
    let x = c.first-item.result in
    let within : 0 < length ts = omega (arith, c.in-len1-up.len_at_least) in
    let n = at-count 0 ts x within c.first-item.is in (
      omega (arith, c.decreases, n),
      (at-ordered 0 ts x within c.first-item.is c.requires.ordered, sym c.is_array.ensures ∙ c.if-is_array.false),
    )

pub split_by-compute-requires : goal.split_by-compute-requires
split_by-compute-requires t c = (omega (arith, c.decreases), c.requires.ordered)

pub taken-branches-requires : goal.taken-branches-requires
taken-branches-requires t c = (omega (arith, c.decreases), c.requires.ordered)

pub taken-conditions-requires : goal.taken-conditions-requires
taken-conditions-requires t c = (
  omega (arith, c.decreases),
  (
    stops-either c.args.operator c.in-And.is,
    (stops-any c.args.operator (length c.args.arguments.now) c.in-And.is c.requires.takes, c.requires.ordered),
  ),
)

pub taken-var-requires : goal.taken-var-requires
taken-var-requires t c = (
  omega (arith, c.decreases),
  (
    leb-true (length c.args.arguments.now) 2
        (ap (λ o. takes o (length c.args.arguments.now)) (sym c.in-Var.is) ∙ c.requires.takes),
    c.requires.ordered,
  ),
)

pub taken-each_kept-requires : goal.taken-each_kept-requires
taken-each_kept-requires t c = (omega (arith, c.decreases), c.requires.ordered)

pub taken-few-requires : goal.taken-few-requires
taken-few-requires t c = (
  omega (arith, c.decreases),
  (strict-either c.args.operator c.in-SemVer.is, (c.requires.takes, c.requires.ordered)),
)

pub third-compute-requires : goal.third-compute-requires
third-compute-requires t c = (
  omega
      (arith, c.decreases, count_some (tree_view c.args.a.now), count_some (tree_view c.args.b.now)),
  c.requires.third,
)

pub third-compute-requires-2 : goal.third-compute-requires-2
third-compute-requires-2 t c = (
  omega (arith, c.decreases, count_some (tree_view c.args.a.now), count_some (tree_view c.args.c.now)),
  c.requires.second,
)

pub third-compute-requires-3 : goal.third-compute-requires-3
third-compute-requires-3 t c = (
  omega (arith, c.decreases, count_some (tree_view c.args.b.now), count_some (tree_view c.args.c.now)),
  c.requires.first,
)

pub three-third-requires : goal.three-third-requires
three-third-requires t c = (omega (arith, c.decreases), (c.requires.strict, (c.requires.first, (c.requires.second, c.requires.third))))

pub three-third-requires-in_default : goal.three-third-requires-in_default
three-third-requires-in_default t c =
    (omega (arith, c.decreases), (c.requires.strict, (c.requires.first, (c.requires.second, c.requires.third))))

pub two-compute-requires : goal.two-compute-requires
two-compute-requires t c = (omega (arith, c.decreases, count_some (tree_view c.args.a.now)), c.requires.second)

pub two-compute-requires-in-None-Some : goal.two-compute-requires-in-None-Some
two-compute-requires-in-None-Some t c = (omega (arith, c.decreases, count_some (tree_view c.args.b.now)), c.requires.first)

pub two-second-requires : goal.two-second-requires
two-second-requires t c = (omega (arith, c.decreases), (c.requires.strict, (c.requires.first, c.requires.second)))

pub var-found-requires : goal.var-found-requires
var-found-requires t c = (omega (arith, c.decreases), (c.in_ok-operand.ensures.any c.in_default.is, (c.requires.takes, c.requires.ordered)))

pub apply-returns-then-not-takes : goal.apply-returns-then-not-takes
apply-returns-then-not-takes t c =
    refuses c.args.operator c.args.arguments.now (looks-other c.args.operator c.in_default.not-Fractional)
    (sym c.takes.ensures ∙ c.if-not-takes.true)

pub apply-returns : goal.apply-returns
apply-returns t c = applies c.in_ok-taken.field-0 c.args.operator
    (λ r. Adds c.args.height r c.args.self.now.code c.taken.new.self.code) c.args.arguments.now
    (looks-other c.args.operator c.in_default.not-Fractional) (sym c.takes.ensures ∙ c.if-not-takes.false)
    c.in_ok-taken.ensures

pub branches-returns-then-not-branch : goal.branches-returns-then-not-branch
branches-returns-then-not-branch t c =
    let xs = c.args.arguments.now in
    let k = 2 * (length xs / 2) in
    no-rules-drop k xs (subst (λ ys. NoRules (tree_items ys)) (take_rest xs k)
    (all-false _ _ c.in_ok-otherwise.field-0 c.if-not-branch.true c.in_ok-otherwise.ensures))

pub branches-returns-then-not-branch-2 : goal.branches-returns-then-not-branch-2
branches-returns-then-not-branch-2 t c =
    let within : 2 * (c.pairs.pairs - 1) + 1 < length c.args.arguments.now = omega (arith, c.pairs.invariant.within, c.pairs-test.true) in
    no-rules-at (2 * (c.pairs.pairs - 1) + 1) c.args.arguments.now c.index-arguments-pairs.result within
    c.index-arguments-pairs.is (compiles-false _ _ c.in_ok-compute.field-0 c.if-not-branch-2.true
    c.in_ok-compute.ensures)

pub branches-returns-then-not-branch-3 : goal.branches-returns-then-not-branch-3
branches-returns-then-not-branch-3 t c =
    let within : 2 * (c.pairs.pairs - 1) < length c.args.arguments.now = omega (arith, c.pairs.invariant.within, c.pairs-test.true) in
    no-rules-at (2 * (c.pairs.pairs - 1)) c.args.arguments.now c.index-arguments-pairs-in-pairs.result within
    c.index-arguments-pairs-in-pairs.is
    (compiles-false _ _ c.in_ok-compute-2.field-0 c.if-not-branch-3.true c.in_ok-compute-2.ensures)

pub branches-pairs-preserved : goal.branches-pairs-preserved
branches-pairs-preserved t c =
    let i = 2 * (c.pairs.pairs - 1) in
    let j = i + 1 in
    let xs = c.args.arguments.now in
    let y = c.index-arguments-pairs.result in
    let inside : j < length xs = omega (arith, c.pairs.invariant.within, c.pairs-test.true) in
    let x = c.index-arguments-pairs-in-pairs.result in
    let within : i < length xs = omega (arith, inside) in
    let first = compiles-true c.in_ok-compute-2.field-0 c.if-not-branch-3.false c.in_ok-compute-2.ensures in
    let second = compiles-true c.in_ok-compute.field-0 c.if-not-branch-2.false c.in_ok-compute.ensures in
    let rest = c.pairs.invariant.made in
    record {
      within = omega (arith, c.pairs.invariant.within);
      end = c.pairs.invariant.end;
      made = compiled-pair i xs x within c.index-arguments-pairs-in-pairs.is j refl y inside
          c.index-arguments-pairs.is (2 * c.pairs.pairs) (omega (arith, c.pairs-test.true)) first second rest
          (if-more rest.made c.in_ok-push.ensures
          (omega (
            arith,
            c.in_ok-skipped.ensures,
            c.len-other.ensures,
            c.pairs.self.code.steps.ok.0,
            c.pairs.invariant.end,
          )) second.made
          c.in_ok-push-2.ensures (omega (
            arith,
            c.in_ok-skipped-2.ensures,
            c.len.ensures,
            c.len-other.ensures,
            c.pairs.self.code.steps.ok.0,
            c.compute.new.self.code.steps.ok.0,
          )) first.made);
    }

pub branches-returns : goal.branches-returns
branches-returns t c =
    let xs = c.args.arguments.now in
    let none : 2 * c.pairs.pairs ≡ 0 = omega (arith, c.pairs-test.false) in
    subst (λ n. AreCompiled (λ rs. Decides If c.args.height rs c.args.self.now.code c.pairs.self.code)
    (tree_items (drop n xs))) none c.pairs.invariant.made

pub compute-returns-in_ok-list-in-Array : goal.compute-returns-in_ok-list-in-Array
compute-returns-in_ok-list-in-Array t c =
    let v = c.in-Array.items in
    let b = c.in_ok-list-in-Array.field-0 in
    let shape : array (tree_items v.now) ≡ tree_view c.args.json.now = sym (ap tree_view c.in-Array.is ∙ view-Array v) in
    subst (Compiles b (λ r. Adds c.args.height r c.args.self.now.code c.list.new.self.code)) shape c.in_ok-list-in-Array.ensures

pub list-returns : goal.list-returns
list-returns t c =
    let xs = c.args.items.now in
    collected_all _ _ c.in_ok-each_kept.field-0 xs c.in_ok-push-2.ensures c.in_ok-count.ensures c.requires.other c.in_ok-each_kept.ensures

pub list-returns-in-len1 : goal.list-returns-in-len1
list-returns-in-len1 t c =
    let b = c.in_ok-compute.field-0 in
    let x = c.only-item.result in
    let one : length c.args.items.now ≡ 1 = omega (arith, c.in-len1.len_at_least, c.in-len1.len_below) in
    let same : c.args.items.now ≡ x ∷ [] = last-item c.args.items.now 0 x one c.only-item.is in
    let other = subst (λ xs. all_literal (tree_items xs) ≡ false) same c.requires.other in
    subst (λ xs. Compiles b (λ r. Adds c.args.height r c.args.self.now.code c.compute.new.self.code) (array (tree_items xs))) (sym same)
    (wrapped c.args.height c.compute.new.self.code b (tree_view x) c.in_ok-push.ensures other c.in_ok-compute.ensures)

pub conditions-returns-then-not-branch : goal.conditions-returns-then-not-branch
conditions-returns-then-not-branch t c =
    let within : length c.args.arguments.now - 1 < length c.args.arguments.now = omega (arith, c.requires.any) in
    no-rules-at (length c.args.arguments.now - 1) c.args.arguments.now c.index-arguments-left.result within
    c.index-arguments-left.is (compiles-false _ _ c.in_ok-compute.field-0 c.if-not-branch.true
    c.in_ok-compute.ensures)

pub conditions-conditions-init : goal.conditions-conditions-init
conditions-conditions-init t c =
    let xs = c.args.arguments.now in
    let x = compiles-true c.in_ok-compute.field-0 c.if-not-branch.false c.in_ok-compute.ensures in
    record {
      within = omega (arith, c.requires.any);
      end = omega (arith, c.len-end.ensures, c.args.self.now.code.steps.ok.0);
      made = compile-last _ xs (length xs - 1) c.index-arguments-left.result (omega (arith, c.requires.any)) c.index-arguments-left.is true
          (made-into _ true x (λ r e m. last-decides c.args.operator c.requires.stops m));
    }

pub conditions-returns-then-not-branch-2 : goal.conditions-returns-then-not-branch-2
conditions-returns-then-not-branch-2 t c =
    let within : c.conditions.left - 1 < length c.args.arguments.now =
    omega (arith, c.conditions.invariant.within, c.conditions-test.true) in
    no-rules-at (c.conditions.left - 1) c.args.arguments.now c.index-arguments-left-in-conditions.result within
    c.index-arguments-left-in-conditions.is
    (compiles-false _ _ c.in_ok-compute-2.field-0 c.if-not-branch-2.true c.in_ok-compute-2.ensures)

pub conditions-conditions-preserved : goal.conditions-conditions-preserved
conditions-conditions-preserved t c =
    let i = c.conditions.left - 1 in
    let xs = c.args.arguments.now in
    let within : i < length xs = omega (arith, c.conditions.invariant.within, c.conditions-test.true) in
    let x = compiles-true c.in_ok-compute-2.field-0 c.if-not-branch-2.false c.in_ok-compute-2.ensures in
    let rest = compiled-any c.conditions.left xs c.conditions.invariant.within c.conditions.invariant.made in
    record {
      within = within;
      end = c.conditions.invariant.end;
      made = compiled-more i xs c.index-arguments-left-in-conditions.result within
          c.index-arguments-left-in-conditions.is c.conditions.left (omega (arith, c.conditions-test.true)) x rest
          (more-decides c.args.operator rest.rules c.requires.stops rest.made.0 rest.made.1
          (subst (λ o. Pushed o c.conditions.self.code c.push.new.self.code) c.skip_past.ensures c.in_ok-push.ensures)
          (omega (arith, c.in_ok-skipped.ensures, c.len.ensures, c.conditions.self.code.steps.ok.0, c.conditions.invariant.end)) x.made);
    }

pub each_kept-arguments-init : goal.each_kept-arguments-init
each_kept-arguments-init t c =
    let xs = c.args.arguments.now in
    record {
      within = omega arith;
      made = compiled-end (length xs) xs (omega arith) (keeps-none (c.args.height + length xs) c.args.self.now.code);
    }

pub each_kept-returns-then-not-branch : goal.each_kept-returns-then-not-branch
each_kept-returns-then-not-branch t c =
    let within : c.arguments.left - 1 < length c.args.arguments.now = omega (arith, c.arguments.invariant.within, c.arguments-test.true) in
    no-rules-at (c.arguments.left - 1) c.args.arguments.now c.index-arguments-left.result within
    c.index-arguments-left.is (compiles-false _ _ c.in_ok-one_kept.field-0 c.if-not-branch.true
    c.in_ok-one_kept.ensures)

pub each_kept-arguments-preserved : goal.each_kept-arguments-preserved
each_kept-arguments-preserved t c =
    let i = c.arguments.left - 1 in
    let xs = c.args.arguments.now in
    let within : i < length xs = omega (arith, c.arguments.invariant.within, c.arguments-test.true) in
    let up : c.arguments.left ≡ i + 1 = omega (arith, c.arguments-test.true) in
    let x = compiles-true c.in_ok-one_kept.field-0 c.if-not-branch.false c.in_ok-one_kept.ensures in
    let rest = c.arguments.invariant.made in
    record {
      within = omega (arith, within);
      made = compiled-more i xs c.index-arguments-left.result within c.index-arguments-left.is c.arguments.left up x rest
          (keeps-more (omega (arith, up)) rest.made (kept-at c.in_ok-below.below (c.args.height + i) c.in_ok-below.ensures x.made));
    }

pub one_kept-returns-in_ok-keep-in-Some : goal.one_kept-returns-in_ok-keep-in-Some
one_kept-returns-in_ok-keep-in-Some t c =
    made-into _ true (c.in_ok-operand.ensures.some c.in-Some.operand c.in-Some.is)
    (λ r e m. kept-operand c.in_ok-above.ensures m c.in_ok-keep-in-Some.ensures)

pub one_kept-returns-in_ok-compute-in-None : goal.one_kept-returns-in_ok-compute-in-None
one_kept-returns-in_ok-compute-in-None t c =
    made-into _ c.in_ok-compute-in-None.field-0 c.in_ok-compute-in-None.ensures
    (λ r e m. kept-computed c.in_ok-above.ensures (raised-there (c.in_ok-operand.ensures.none c.in-None.is) c.in_ok-keep-in-None.ensures) m)

pub found-returns-then-not-branch : goal.found-returns-then-not-branch
found-returns-then-not-branch t c =
    let ts = c.args.arguments.now in
    let p = c.path-item-2.result in
    let d = c.default-item.result in
    let long : length ts ≡ 2 = omega (arith, c.in-len2-up.len_at_least, c.requires.few) in
    let none = compiles-false _ _ c.in_ok-compute-in-len2-up.field-0 c.if-not-branch.true c.in_ok-compute-in-len2-up.ensures in
    subst NoRules (ap tree_items (sym (two-items ts p d long c.path-item-2.is c.default-item.is)))
    (no-others (tree_view p) (item (tree_view d) no_items) (no-first (tree_view d) no_items none))

pub found-returns-in_ok-find-in-len1-up : goal.found-returns-in_ok-find-in-len1-up
found-returns-in_ok-find-in-len1-up t c =
    let b = c.in_ok-find-in-len1-up.field-0 in
    compile-last _ c.args.arguments.now 0 c.path-item.result
    (omega (arith, c.in-len1-up.len_at_least, c.in-len1-up.len_below)) c.path-item.is b
    (made-into _ b c.in_ok-find-in-len1-up.ensures (λ r e m. found-alone m))

pub found-returns-in_ok-find-in-len2-up : goal.found-returns-in_ok-find-in-len2-up
found-returns-in_ok-find-in-len2-up t c =
    let ts = c.args.arguments.now in
    let p = c.path-item-2.result in
    let d = c.default-item.result in
    let b = c.in_ok-find-in-len2-up.field-0 in
    let long : length ts ≡ 2 = omega (arith, c.in-len2-up.len_at_least, c.requires.few) in
    let i = compiles-true c.in_ok-compute-in-len2-up.field-0 c.if-not-branch.false c.in_ok-compute-in-len2-up.ensures in
    let before = c.args.self.now.code.steps in
    let behind = c.compute.new.self.code.steps in
    let same : c.in_ok-skipped-in-len2-up.skipped ≡ length behind.items - length before.items =
    grind (arith, before.ok, behind.ok, c.len-end.ensures, c.len.ensures, c.in_ok-skipped-in-len2-up.ensures) in
    same-items _ b (ap tree_items (sym (two-items ts p d long c.path-item-2.is c.default-item.is)))
    (compile-before _ _ b (alone i) (made-into _ b c.in_ok-find-in-len2-up.ensures (λ r e m. found-default i.made same m)))

pub one-returns-in_ok-push-in-Some : goal.one-returns-in_ok-push-in-Some
one-returns-in_ok-push-in-Some t c =
    let i = c.in_ok-x.ensures.some c.in-Some.x c.in-Some.is in
    compile-one _ _ true (made-into _ true i (λ r e m. added-one c.args.operator c.requires.strict m c.in_ok-push-in-Some.ensures))

pub one-returns-in_ok-compute-in-None : goal.one-returns-in_ok-compute-in-None
one-returns-in_ok-compute-in-None t c =
    compile-one _ _ c.in_ok-compute-in-None.field-0 (made-into _ c.in_ok-compute-in-None.field-0 c.in_ok-compute-in-None.ensures
    (λ r e m. added-one-computed c.args.operator c.requires.strict
    (pushed-there (c.in_ok-x.ensures.none c.in-None.is) c.in_ok-push-in-None.ensures) m))

pub otherwise-returns-in_ok-push-in-empty : goal.otherwise-returns-in_ok-push-in-empty
otherwise-returns-in_ok-push-in-empty t c =
    compiled-end 0 c.args.arguments.now (omega (arith, c.in-empty.len_below)) (if-none c.in_ok-push-in-empty.ensures)

pub otherwise-returns-in_ok-compute-in-len1-up : goal.otherwise-returns-in_ok-compute-in-len1-up
otherwise-returns-in_ok-compute-in-len1-up t c =
    let b = c.in_ok-compute-in-len1-up.field-0 in
    compile-last _ c.args.arguments.now 0 c.last-item.result (omega (arith, c.in-len1-up.len_at_least, c.requires.few)) c.last-item.is b
    (made-into _ b c.in_ok-compute-in-len1-up.ensures (λ r e m. if-last m))

pub second-returns-then-not-branch : goal.second-returns-then-not-branch
second-returns-then-not-branch t c = no-others (tree_view c.args.a.now) (item (tree_view c.args.b.now) no_items)
    (no-first (tree_view c.args.b.now) no_items (compiles-false _ _ c.in_ok-compute.field-0 c.if-not-branch.true c.in_ok-compute.ensures))

pub second-returns : goal.second-returns
second-returns t c =
    let y = compiles-true c.in_ok-compute.field-0 c.if-not-branch.false c.in_ok-compute.ensures in
    let b = c.in_ok-compute-2.field-0 in
    compile-before _ _ b (alone y) (made-into _ b c.in_ok-compute-2.ensures
    (λ r e m. added-second c.args.operator c.requires.strict c.in_ok-above.ensures c.in_ok-push.ensures y.made c.in_ok-keep.ensures m))

pub split-returns-then-is_array : goal.split-returns-then-is_array
split-returns-then-is_array t c =
    let ts = c.args.arguments.now in
    let e = parted ts c.first-item.result (omega (arith, c.in-len1-up.len_at_least)) c.first-item.is in
    split_alone e (sym c.is_array.ensures ∙ c.if-is_array.true) _ c.in_ok-split_by_own_key-in-len1-up.field-0
    c.in_ok-split_by_own_key-in-len1-up.ensures (λ rs m. m c.args.height)

pub split-returns-then-is_empty : goal.split-returns-then-is_empty
split-returns-then-is_empty t c =
    let ts = c.args.arguments.now in
    let e = parted ts c.first-item.result (omega (arith, c.in-len1-up.len_at_least)) c.first-item.is in
    λ known rs are. split_none e (sym c.is_array.ensures ∙ c.if-is_array.false)
    (grind (arith, c.is_empty.ensures, c.if-is_empty.true)) rs are

pub split-returns-in_default : goal.split-returns-in_default
split-returns-in_default t c =
    let ts = c.args.arguments.now in
    let e = parted ts c.first-item.result (omega (arith, c.in-len1-up.len_at_least)) c.first-item.is in
    λ known rs are. split_bad e (sym c.is_array.ensures ∙ c.if-is_array.false)
    (c.in_ok-table-in-len1-up.ensures.none c.in_default.is) rs are

pub split-returns-in_ok-split_by-in-len1-up : goal.split-returns-in_ok-split_by-in-len1-up
split-returns-in_ok-split_by-in-len1-up t c =
    let ts = c.args.arguments.now in
    let e = parted ts c.first-item.result (omega (arith, c.in-len1-up.len_at_least)) c.first-item.is in
    let t = c.in-Some.table in
    let read = c.in_ok-table-in-len1-up.ensures in
    split_behind e (sym c.is_array.ensures ∙ c.if-is_array.false) _ c.in_ok-split_by-in-len1-up.field-0 t
    (λ none. grind (arith, c.is_empty.ensures, c.if-is_empty.false, none))
    (read.pairs t c.in-Some.is) (read.known t c.in-Some.is) (read.total t c.in-Some.is) c.in_ok-split_by-in-len1-up.ensures

pub split_by-returns-in_ok-push-in-Some : goal.split_by-returns-in_ok-push-in-Some
split_by-returns-in_ok-push-in-Some t c =
    let i = c.in_ok-key.ensures.some c.in-Some.key c.in-Some.is in
    made-into _ true i (λ r e m. split-lent (is_list-array (tree_view c.args.bucketing.now) r e ∙ c.requires.other) m
    c.in_ok-push-in-Some.ensures)

pub split_by-returns-in_ok-compute-in-None : goal.split_by-returns-in_ok-compute-in-None
split_by-returns-in_ok-compute-in-None t c =
    let d = tree_view c.args.bucketing.now in
    let pushed = pushed-there (c.in_ok-key.ensures.none c.in-None.is) c.in_ok-push-in-None.ensures in
    made-into _ c.in_ok-compute-in-None.field-0 c.in_ok-compute-in-None.ensures
    (λ r e m. split-computed (is_list-array d r e ∙ c.requires.other) pushed m)

pub taken-returns-in_ok-branches-in-If : goal.taken-returns-in_ok-branches-in-If
taken-returns-in_ok-branches-in-If t c =
    let b = c.in_ok-branches-in-If.field-0 in
    let xs = c.args.arguments.now in
    let ended = subst (λ o. Pushed (End o (length xs)) c.args.self.now.code c.end.new.self.code) c.in-If.is c.in_ok-end-in-If.ensures in
    subst (λ o. CompileAll b (λ rs. Adds c.args.height (apply o (rules_of rs)) c.args.self.now.code c.branches.new.self.code)
    (tree_items xs)) (sym c.in-If.is)
    (decided _ _ b xs refl ended refl c.in_ok-branches-in-If.ensures)

pub taken-returns-in_ok-conditions-in-And : goal.taken-returns-in_ok-conditions-in-And
taken-returns-in_ok-conditions-in-And t c =
    decided _ _ c.in_ok-conditions-in-And.field-0 c.args.arguments.now c.requires.other c.in_ok-end-in-And.ensures
    refl c.in_ok-conditions-in-And.ensures

pub taken-returns-in_ok-each_kept-in-Cat : goal.taken-returns-in_ok-each_kept-in-Cat
taken-returns-in_ok-each_kept-in-Cat t c =
    let b = c.in_ok-each_kept-in-Cat.field-0 in
    let xs = c.args.arguments.now in
    subst (λ o. CompileAll b (λ rs. Adds c.args.height (apply o (rules_of rs)) c.args.self.now.code c.each_kept.new.self.code)
    (tree_items xs)) (sym c.in-Cat.is)
    (joined_all _ _ b xs c.in_ok-push-in-Cat.ensures c.in_ok-count-in-Cat.ensures c.in_ok-each_kept-in-Cat.ensures)

pub third-returns-then-not-branch : goal.third-returns-then-not-branch
third-returns-then-not-branch t c =
    no-others (tree_view c.args.a.now) (item (tree_view c.args.b.now) (item (tree_view c.args.c.now) no_items))
    (no-others (tree_view c.args.b.now) (item (tree_view c.args.c.now) no_items)
    (no-first (tree_view c.args.c.now) no_items
    (compiles-false _ _ c.in_ok-compute.field-0 c.if-not-branch.true c.in_ok-compute.ensures)))

pub third-returns-then-not-branch-2 : goal.third-returns-then-not-branch-2
third-returns-then-not-branch-2 t c =
    no-others (tree_view c.args.a.now) (item (tree_view c.args.b.now) (item (tree_view c.args.c.now) no_items))
    (no-first (tree_view c.args.b.now) (item (tree_view c.args.c.now) no_items)
    (compiles-false _ _ c.in_ok-compute-2.field-0 c.if-not-branch-2.true c.in_ok-compute-2.ensures))

pub third-returns : goal.third-returns
third-returns t c =
    let z = compiles-true c.in_ok-compute.field-0 c.if-not-branch.false c.in_ok-compute.ensures in
    let y = compiles-true c.in_ok-compute-2.field-0 c.if-not-branch-2.false c.in_ok-compute-2.ensures in
    let b = c.in_ok-compute-3.field-0 in
    compile-before _ _ b (in-front y (alone z)) (made-into _ b c.in_ok-compute-3.ensures
    (λ r e m. added-third c.args.operator c.requires.strict c.in_ok-one.ensures c.in_ok-two.ensures
    c.in_ok-push.ensures z.made c.in_ok-keep.ensures y.made
    c.in_ok-keep-2.ensures m))

pub three-returns-in_ok-compute-in-Some-Some : goal.three-returns-in_ok-compute-in-Some-Some
three-returns-in_ok-compute-in-Some-Some t c =
    let i = c.in_ok-first.ensures.some c.in-Some-Some.x c.in-Some-Some.is-0 in
    let j = c.in_ok-second.ensures.some c.in-Some-Some.y c.in-Some-Some.is-1 in
    let b = c.in_ok-compute-in-Some-Some.field-0 in
    compile-behind _ _ b i (compile-behind _ _ b j (compile-one _ _ b (made-into _ b c.in_ok-compute-in-Some-Some.ensures
    (λ u e m. added-three c.args.operator c.requires.strict i.made j.made c.in_ok-push-in-Some-Some.ensures m))))

pub three-returns-in_ok-third-in_default : goal.three-returns-in_ok-third-in_default
three-returns-in_ok-third-in_default t c =
    let x = stays c.in_ok-first.first c.in_ok-first.ensures.some c.in_ok-first.ensures.none in
    let y = stays c.in_ok-second.second c.in_ok-second.ensures.some c.in_ok-second.ensures.none in
    all-made-into _ c.in_ok-third-in_default.field-0 c.in_ok-third-in_default.ensures
    (λ rs e m. adds-later x y m)

pub two-returns-in_ok-push-in-Some-Some : goal.two-returns-in_ok-push-in-Some-Some
two-returns-in_ok-push-in-Some-Some t c =
    let i = c.in_ok-first.ensures.some c.in-Some-Some.x c.in-Some-Some.is-0 in
    let j = c.in_ok-second.ensures.some c.in-Some-Some.y c.in-Some-Some.is-1 in
    both-compiled i (alone j) (added-two c.args.operator c.requires.strict i.made j.made c.in_ok-push-in-Some-Some.ensures)

pub two-returns-in_ok-compute-in-Some-None : goal.two-returns-in_ok-compute-in-Some-None
two-returns-in_ok-compute-in-Some-None t c =
    let i = c.in_ok-first.ensures.some c.in-Some-None.x c.in-Some-None.is-0 in
    let p = pushed-there (c.in_ok-second.ensures.none c.in-Some-None.is-1) c.in_ok-push-in-Some-None.ensures in
    compile-behind _ _ c.in_ok-compute-in-Some-None.field-0 i (compile-one _ _ c.in_ok-compute-in-Some-None.field-0
    (made-into _ c.in_ok-compute-in-Some-None.field-0 c.in_ok-compute-in-Some-None.ensures
    (λ q e m. added-two-second c.args.operator c.requires.strict i.made p m)))

pub two-returns-in_ok-compute-in-None-Some : goal.two-returns-in_ok-compute-in-None-Some
two-returns-in_ok-compute-in-None-Some t c =
    let j = c.in_ok-second.ensures.some c.in-None-Some.y c.in-None-Some.is-1 in
    let y = operand-there (c.in_ok-first.ensures.none c.in-None-Some.is-0) j.made in
    compile-before _ _ c.in_ok-compute-in-None-Some.field-0 (alone j)
    (made-into _ c.in_ok-compute-in-None-Some.field-0 c.in_ok-compute-in-None-Some.ensures
    (λ r e m. added-two-first c.args.operator c.requires.strict y c.in_ok-push-in-None-Some.ensures m))

pub var-returns-in-Some : goal.var-returns-in-Some
var-returns-in-Some t c =
    all-made-into _ true (c.in_ok-operand.ensures.some c.in-Some.operand c.in-Some.is) (λ rs e m. added-load m c.in_ok-push.ensures)

pub var-returns : goal.var-returns
var-returns t c =
    let ended = pushed-there (c.in_ok-operand.ensures.none c.in_default.is) c.in_ok-end.ensures in
    decided _ _ c.in_ok-found.field-0 c.args.arguments.now refl ended refl c.in_ok-found.ensures

pub compute-apply-requires : goal.compute-apply-requires
compute-apply-requires t c =
    let v = c.in-Object.members in
    let m = get_or v.now 0 c.index-members-0.result in
    let here : m ≡ get_or v.now 0 m = ap (get_or v.now 0) c.index-members-0.is in
    let one : length v.now ≡ 1 = grind (arith, c.if-members-ne1.false) in
    let shape = ap tree_view c.in-Object.is ∙ only-Object v m one here in
    let counted = ap count shape in
    (omega (arith, c.decreases, counted, c.arguments.ensures.few), c.arguments.ensures.ordered)

pub compute-returns-in_ok-apply-in-Some : goal.compute-returns-in_ok-apply-in-Some
compute-returns-in_ok-apply-in-Some t c =
    let v = c.in-Object.members in
    let m = get_or v.now 0 c.index-members-0.result in
    let here : m ≡ get_or v.now 0 m = ap (get_or v.now 0) c.index-members-0.is in
    let b = c.in_ok-apply-in-Some.field-0 in
    let one : length v.now ≡ 1 = grind (arith, c.if-members-ne1.false) in
    let shape = ap tree_view c.in-Object.is ∙ only-Object v m one here in
    subst (Compiles b (λ r. Adds c.args.height r c.args.self.now.code c.apply.new.self.code)) (sym shape)
    (operation b m.0.now c.in-Some.operator (tree_view m.1) (tree_items c.arguments.result.now)
    (λ r. Adds c.args.height r c.args.self.now.code c.apply.new.self.code) (sym c.named.ensures ∙ c.in-Some.is)
    c.arguments.ensures.rules c.arguments.ensures.unknown c.in_ok-apply-in-Some.ensures)

pub compute-returns-in-None : goal.compute-returns-in-None
compute-returns-in-None t c =
    let v = c.in-Object.members in
    let m = get_or v.now 0 c.index-members-0.result in
    let here : m ≡ get_or v.now 0 m = ap (get_or v.now 0) c.index-members-0.is in
    let one : length v.now ≡ 1 = grind (arith, c.if-members-ne1.false) in
    let shape = ap tree_view c.in-Object.is ∙ only-Object v m one here in
    subst NoRule (sym shape) (unnamed m.0.now (tree_view m.1) (sym c.named.ensures ∙ c.in-None.is))

pub find-returns-in-Some : goal.find-returns-in-Some
find-returns-in-Some t c =
    subst (IsCompiled (λ p. Finds c.args.skip c.args.height p c.args.self.now.code c.find_known.new.self.code))
    (sym (written (tree_view c.args.path.now) c.in-Some.known.now (sym c.in-Some.ensures)))
    (record { rule = literal (text c.in-Some.known.now); is_rule = refl; known = refl; made = c.in_ok-find_known.ensures c.args.height })

pub find-returns : goal.find-returns
find-returns t c =
    made-into _ c.in_ok-compute.field-0 c.in_ok-compute.ensures
    (λ r e m. finds-computed c.in_ok-push.ensures m)
