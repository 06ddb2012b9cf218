-- What the object of `targeting` writes: no rule without members, and else the one that is accepted.
use Rattle.std.proofs.Common.{◌≡◌, List, [], ◌∷◌, length, None, Some, Ok, refl, sym, ap, ◌∙◌}
use Rattle.std.specs.Borrow.{Bor}
use Rattle.std.specs.Result.{result_ok}
use Rattle.serde_json.specs.Data.{object}
use Rattle.fp_base.specs.Tests.{first_failed}
use Rattle.fp_base.specs.TreeView.{Entry, tree_view, tree_members}
use Rattle.fp_base.specs.declared.tree.Tree.{Tree}
use Rattle.fp_base.specs.declared.tree.Tree.TheVariants.{Object}
use Rattle.fp_base.proofs.Views.{view-Object}
use Rattle.fp_targeting.specs.Compile.{verdict}
use Rattle.fp_machine.specs.Rule.{Rule}
use Rattle.fp_definition.specs.Targeting.{rule_in}
use Rattle.fp_definition.specs.Valid.{targeting_tests}

without : (ms : List Entry) → length ms ≡ 0 → rule_in (Some (object (tree_members ms))) ≡ None
unfolding rule_in
without [] h = refl
without (m ∷ ms) h = absurd (cc)

without-met : (ms : List Entry) → length ms ≡ 0 → first_failed (targeting_tests (Some (object (tree_members ms)))) ≡ None
unfolding targeting_tests
without-met [] h = refl
without-met (m ∷ ms) h = absurd (cc)

with : (ms : List Entry) (r : Rule) → (length ms ≡ 0 → ⊥) → verdict (object (tree_members ms)) ≡ Ok r →
    rule_in (Some (object (tree_members ms))) ≡ Some r
unfolding rule_in
with [] r h accepted = absurd (h refl)
with (m ∷ ms) r h accepted = ap result_ok accepted

module _ (t : Tree) (v : Bor (List Entry)) (is : t ≡ Object v) where
  seen : tree_view t ≡ object (tree_members v.now)
  seen = ap tree_view is ∙ view-Object v

  pub no_rule : length v.now ≡ 0 → None ≡ rule_in (Some (tree_view t))
  no_rule h = sym (ap (λ d. rule_in (Some d)) seen ∙ without v.now h)

  pub no_rule-met : length v.now ≡ 0 → first_failed (targeting_tests (Some (tree_view t))) ≡ None
  no_rule-met h = ap (λ d. first_failed (targeting_tests (Some d))) seen ∙ without-met v.now h

  pub the_rule : (r : Rule) → (length v.now ≡ 0 → ⊥) → verdict (tree_view t) ≡ Ok r → Some r ≡ rule_in (Some (tree_view t))
  the_rule r h accepted = sym (ap (λ d. rule_in (Some d)) seen ∙ with v.now r h (ap verdict (sym seen) ∙ accepted))
