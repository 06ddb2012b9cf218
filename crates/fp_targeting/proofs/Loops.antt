-- Lists of arguments, of which code is made from the last one on.
use Rattle.std.proofs.Common.{◌≡◌, ◌≤◌, ◌<◌, ◌+◌, ℕ, zero, suc, List, [], ◌∷◌, drop, length, get_or, sym, ap, ◌∙◌, subst, arith}
use Rattle.std.proofs.lemmas.List.{drop_all, length-drop}
use Rattle.fp_base.specs.TreeView.{tree_view, tree_items}
use Rattle.fp_base.specs.declared.tree.Tree.{Tree}
use Rattle.fp_base.proofs.Turns.{drop-here}
use Rattle.fp_targeting.specs.Compiles.{IsCompiled, AreCompiled, NoRule, NoRules}
use Rattle.fp_machine.specs.Rule.{Rule}
use Rattle.fp_targeting.proofs.Parts.{no-first, no-others, compiled-none, both-compiled, in-front, rules_from-length}

pub no-rules-drop : (i : ℕ) (ts : List Tree) → NoRules (tree_items (drop i ts)) → NoRules (tree_items ts)
no-rules-drop zero ts n = n
no-rules-drop (suc i) [] n = n
no-rules-drop (suc i) (t ∷ ts) n = no-others (tree_view t) (tree_items ts) (no-rules-drop i ts n)

-- behind the last one there are none
pub compiled-end : {N : List Rule → Type 0} (i : ℕ) (ts : List Tree) → length ts ≤ i → N [] → AreCompiled N (tree_items (drop i ts))
compiled-end {N = N} i ts e n = subst (λ xs. AreCompiled N (tree_items xs)) (sym (drop_all i ts e)) (compiled-none n)

-- rules of what has a first item have a first one
pub compiled-any : {N : List Rule → Type 0} (i : ℕ) (ts : List Tree) → i < length ts → AreCompiled N (tree_items (drop i ts))
    → AreCompiled (λ rs. (1 ≤ length rs) × N rs) (tree_items (drop i ts))
compiled-any i ts within x =
    let l = rules_from-length (drop i ts) x.rules x.are_rules in
    let m = length-drop i ts in
    record { rules = x.rules; are_rules = x.are_rules; known = x.known; made = (omega (arith, l, m, within), x.made) }

module _ (i : ℕ) (ts : List Tree) (t : Tree) (within : i < length ts) (is : t ≡ get_or ts i t) where
  pub no-rules-at : NoRule (tree_view t) → NoRules (tree_items ts)
  no-rules-at n =
      no-rules-drop i ts (subst (λ xs. NoRules (tree_items xs)) (sym (drop-here ts i t within is))
      (no-first (tree_view t) (tree_items (drop (i + 1) ts)) n))

  module _ (j : ℕ) (up : j ≡ i + 1) where
    at_next : t ∷ drop j ts ≡ drop i ts
    at_next = ap (λ k. t ∷ drop k ts) up ∙ sym (drop-here ts i t within is)

    pub compiled-more : {M : Rule → Type 0} {N O : List Rule → Type 0} (x : IsCompiled M (tree_view t))
        (y : AreCompiled N (tree_items (drop j ts))) → O (x.rule ∷ y.rules)
        → AreCompiled O (tree_items (drop i ts))
    compiled-more {O = O} x y m = subst (λ xs. AreCompiled O (tree_items xs)) at_next (both-compiled x y m)

    -- of two and others
    module _ (u : Tree) (inside : j < length ts) (other : u ≡ get_or ts j u) (k : ℕ) (on : k ≡ j + 1) where
      at_pair : t ∷ u ∷ drop k ts ≡ drop i ts
      at_pair = ap (λ n. t ∷ u ∷ drop n ts) on ∙ ap (λ xs. t ∷ xs) (sym (drop-here ts j u inside other)) ∙ at_next

      pub compiled-pair : {M L : Rule → Type 0} {N O : List Rule → Type 0} (x : IsCompiled M (tree_view t)) (y : IsCompiled L (tree_view u))
          (z : AreCompiled N (tree_items (drop k ts))) → O (x.rule ∷ y.rule ∷ z.rules) → AreCompiled O (tree_items (drop i ts))
      compiled-pair {O = O} x y z m = subst (λ xs. AreCompiled O (tree_items xs)) at_pair (both-compiled x (in-front y z) m)
