-- The rule of an object, by how many members it has.
use Rattle.std.proofs.Common.{◌≡◌, ℕ, List, [], ◌∷◌, true, false, Some, is_some, length, get_or, refl, sym}
use Rattle.std.proofs.Common.{ap, ◌∙◌, arith, if◌then◌else◌, Bool, not, ◌==◌}
use Rattle.std.specs.Borrow.{Bor}
use Rattle.serde_json.specs.Data.{Data, null, boolean, number, string, array, object, member, no_members}
use Rattle.fp_base.specs.TreeView.{Entry, tree_view, tree_members}
use Rattle.fp_base.specs.declared.tree.Tree.TheVariants.{Object}
use Rattle.fp_base.proofs.Views.{view-Object}
use Rattle.fp_targeting.specs.Compile.{first_unknown, operator_rule, arguments_of, rule_of}
use Rattle.fp_targeting.specs.Literal.{is_literal}
use Rattle.fp_machine.specs.Operators.{operator_of}

only-member : (ms : List Entry) (m : Entry) → length ms ≡ 1 → m ≡ get_or ms 0 m →
    tree_members ms ≡ member m.0.now (tree_view m.1) no_members
only-member [] m h e = absurd (omega arith)
only-member (x ∷ []) m h e = ap (λ y. tree_members (y ∷ [])) (sym e)
only-member (x ∷ y ∷ ms) m h e = absurd (omega arith)

-- an object of one member
pub only-Object : (v : Bor (List Entry)) (m : Entry) → length v.now ≡ 1 → m ≡ get_or v.now 0 m →
    tree_view (Object v) ≡ object (member m.0.now (tree_view m.1) no_members)
only-Object v m h e = view-Object v ∙ ap object (only-member v.now m h e)

-- a name that is no operator's, and one that is
pub unknown-unnamed : (k : List ℕ) (d : Data) → is_some (operator_of k) ≡ false → first_unknown (object (member k d no_members)) ≡ Some k
unknown-unnamed k d h = ap (λ b. if b then first_unknown d else Some k) h

pub unknown-named : (k : List ℕ) (d : Data) → is_some (operator_of k) ≡ true →
    first_unknown (object (member k d no_members)) ≡ first_unknown d
unknown-named k d h = ap (λ b. if b then first_unknown d else Some k) h

-- the rule of an operator's object
pub rule_of-operator : (k : List ℕ) (d : Data) → rule_of (object (member k d no_members)) ≡ operator_rule k (arguments_of d)
rule_of-operator k null = refl
rule_of-operator k (boolean b) = refl
rule_of-operator k (number n) = refl
rule_of-operator k (string s) = refl
rule_of-operator k (array ds) = refl
rule_of-operator k (object ms) = refl

test-false : (b : Bool) → (b ≡ true → ⊥) → not b ≡ true
test-false true h = absurd (h refl)
test-false false h = refl

-- an object of other than one member stands for itself
pub others-literal : (ms : List Entry) (n : ℕ) → n ≡ length ms → not (n == 1) ≡ is_literal (object (tree_members ms))
others-literal [] n e = test-false (n == 1) (λ h. grind (arith, e, h))
others-literal (x ∷ []) n e = ap (λ m. not (m == 1)) e
others-literal (x ∷ y ∷ ms) n e = test-false (n == 1) (λ h. grind (arith, e, h))
