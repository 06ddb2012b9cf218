-- Items of a list: how many values stand in them, and that they are ordered.
use Rattle.std.proofs.Common.{◌≡◌, ◌≤◌, ◌<◌, ◌+◌, ℕ, zero, suc, List, [], ◌∷◌, drop, length, get_or, ap, subst, arith}
use Rattle.fp_base.specs.Count.{count, items_count}
use Rattle.fp_base.specs.Ordered.{IsOrdered, AreOrdered}
use Rattle.fp_base.specs.TreeView.{tree_view, tree_items}
use Rattle.fp_base.specs.declared.tree.Tree.{Tree}
use Rattle.fp_base.proofs.Turns.{drop-here}

pub drop-count : (i : ℕ) (ts : List Tree) → items_count (tree_items (drop i ts)) ≤ items_count (tree_items ts)
drop-count zero ts = omega arith
drop-count (suc i) [] = omega arith
drop-count (suc i) (t ∷ ts) = let h = drop-count i ts in omega (arith, h)

pub drop-ordered : (i : ℕ) (ts : List Tree) → AreOrdered (tree_items ts) → AreOrdered (tree_items (drop i ts))
drop-ordered zero ts o = o
drop-ordered (suc i) [] o = o
drop-ordered (suc i) (t ∷ ts) o = drop-ordered i ts o.1

module _ (i : ℕ) (ts : List Tree) (t : Tree) (within : i < length ts) (is : t ≡ get_or ts i t) where
  counted-here : items_count (tree_items (drop i ts)) ≡ count (tree_view t) + items_count (tree_items (drop (i + 1) ts))
  counted-here = ap (λ us. items_count (tree_items us)) (drop-here ts i t within is)

  -- an item has no more than all
  pub at-count : count (tree_view t) ≤ items_count (tree_items ts)
  at-count = omega (arith, drop-count i ts, counted-here)

  pub at-ordered : AreOrdered (tree_items ts) → IsOrdered (tree_view t)
  at-ordered o = (subst (λ us. AreOrdered (tree_items us)) (drop-here ts i t within is) (drop-ordered i ts o)).0

pub two-counted : (ts : List Tree) (a b : Tree) → 2 ≤ length ts → a ≡ get_or ts 0 a → b ≡ get_or ts 1 b →
    count (tree_view a) + count (tree_view b) ≤ items_count (tree_items ts)
two-counted ts a b l x y = omega (arith, counted-here 0 ts a (omega (arith, l)) x, counted-here 1 ts b (omega (arith, l)) y)

pub three-counted : (ts : List Tree) (a b c : Tree) → 3 ≤ length ts → a ≡ get_or ts 0 a → b ≡ get_or ts 1 b → c ≡ get_or ts 2 c
    → count (tree_view a) + count (tree_view b) + count (tree_view c) ≤ items_count (tree_items ts)
three-counted ts a b c l x y z =
    omega (
      arith,
      counted-here 0 ts a (omega (arith, l)) x,
      counted-here 1 ts b (omega (arith, l)) y,
      counted-here 2 ts c (omega (arith, l)) z,
    )
