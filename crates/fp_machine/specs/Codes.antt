-- Data and rules as trees of numbers, by which proofs tell them apart.
use Rattle.std.specs.Prelude.{◌≡◌, refl, ℕ, pos, negsuc, List, [], ◌∷◌, true}
use Rattle.std.specs.Prelude.{false, ◌==◌, if◌then◌else◌}
use Rattle.fp_operators.specs.Data.{Data, null, boolean, whole, text, list, object, Items, no_items}
use Rattle.fp_operators.specs.Data.{item, Members, no_members, member}
use Rattle.fp_machine.specs.Rule as tree
use Rattle.fp_machine.specs.Rule.{Rule, literal, apply, Rules, no_rules, rule}
use Rattle.fp_machine.specs.contracts.operator.Operator as operator
use base.Stored.{Gv, gnil, gnum, gcons, Coded}
use mathlib.Core.Path.{sym, ◌∙◌, ap, subst}

abbrev pub text_tree : List ℕ → Gv
text_tree [] = gnil
text_tree (b ∷ bs) = gcons (gnum b) (text_tree bs)

abbrev pub text_at : Gv → List ℕ
text_at gnil = []
text_at (gnum n) = []
text_at (gcons gnil g) = []
text_at (gcons (gnum b) g) = b ∷ text_at g
text_at (gcons (gcons a b) g) = []

pub text_at-text_tree : (bs : List ℕ) → text_at (text_tree bs) ≡ bs
text_at-text_tree [] = refl
text_at-text_tree (b ∷ bs) = ap (λ s. b ∷ s) (text_at-text_tree bs)

abbrev mutual
  pub data_tree : Data → Gv
  data_tree null = gnil
  data_tree (boolean true) = gcons (gnum 0) gnil
  data_tree (boolean false) = gcons (gnum 1) gnil
  data_tree (whole (pos n)) = gcons (gnum 2) (gnum n)
  data_tree (whole (negsuc n)) = gcons (gnum 3) (gnum n)
  data_tree (text s) = gcons (gnum 4) (text_tree s)
  data_tree (list ds) = gcons (gnum 5) (items_tree ds)
  data_tree (object ms) = gcons (gnum 6) (members_tree ms)

  pub items_tree : Items → Gv
  items_tree no_items = gnil
  items_tree (item d ds) = gcons (data_tree d) (items_tree ds)

  pub members_tree : Members → Gv
  members_tree no_members = gnil
  members_tree (member k d ms) = gcons (gcons (text_tree k) (data_tree d)) (members_tree ms)

abbrev pub number_at : Gv → ℕ
number_at gnil = 0
number_at (gnum n) = n
number_at (gcons a b) = 0

abbrev mutual
  pub data_at : Gv → Data
  data_at gnil = null
  data_at (gnum n) = null
  data_at (gcons gnil g) = null
  data_at (gcons (gnum kind) g) =
      if kind == 0 then boolean true else
      if kind == 1 then boolean false else
      if kind == 2 then whole (pos (number_at g)) else
      if kind == 3 then whole (negsuc (number_at g)) else
      if kind == 4 then text (text_at g) else
      if kind == 5 then list (items_at g) else object (members_at g)
  data_at (gcons (gcons a b) g) = null

  pub items_at : Gv → Items
  items_at gnil = no_items
  items_at (gnum n) = no_items
  items_at (gcons a g) = item (data_at a) (items_at g)

  pub members_at : Gv → Members
  members_at gnil = no_members
  members_at (gnum n) = no_members
  members_at (gcons gnil g) = no_members
  members_at (gcons (gnum n) g) = no_members
  members_at (gcons (gcons k a) g) = member (text_at k) (data_at a) (members_at g)

mutual
  pub data_at-data_tree : (d : Data) → data_at (data_tree d) ≡ d
  data_at-data_tree null = refl
  data_at-data_tree (boolean true) = refl
  data_at-data_tree (boolean false) = refl
  data_at-data_tree (whole (pos n)) = refl
  data_at-data_tree (whole (negsuc n)) = refl
  data_at-data_tree (text s) = ap text (text_at-text_tree s)
  data_at-data_tree (list ds) = ap list (items_at-items_tree ds)
  data_at-data_tree (object ms) = ap object (members_at-members_tree ms)

  pub items_at-items_tree : (ds : Items) → items_at (items_tree ds) ≡ ds
  items_at-items_tree no_items = refl
  items_at-items_tree (item d ds) =
      ap (λ e. item e (items_at (items_tree ds))) (data_at-data_tree d)
      ∙ ap (item d) (items_at-items_tree ds)

  pub members_at-members_tree : (ms : Members) → members_at (members_tree ms) ≡ ms
  members_at-members_tree no_members = refl
  members_at-members_tree (member k d ms) =
      ap (λ l. member l (data_at (data_tree d)) (members_at (members_tree ms)))
      (text_at-text_tree k)
      ∙ (ap (λ e. member k e (members_at (members_tree ms))) (data_at-data_tree d)
      ∙ ap (member k d) (members_at-members_tree ms))

pub data_tree-one_to_one : (d e : Data) → data_tree d ≡ data_tree e → d ≡ e
data_tree-one_to_one d e h = sym (data_at-data_tree d) ∙ (ap data_at h ∙ data_at-data_tree e)

abbrev pub coded_data : Coded Data
coded_data = record { code = data_tree; inj = data_tree-one_to_one }

abbrev mutual
  pub rule_tree : Rule → Gv
  rule_tree (literal d) = gcons gnil (data_tree d)
  rule_tree (tree.list rs) = gcons (gnum 0) (rules_tree rs)
  rule_tree (apply o rs) = gcons (gcons (operator.the_row.coded.code o) gnil) (rules_tree rs)

  pub rules_tree : Rules → Gv
  rules_tree no_rules = gnil
  rules_tree (rule r rs) = gcons (rule_tree r) (rules_tree rs)

abbrev pub front : Gv → Gv
front gnil = gnil
front (gnum n) = gnil
front (gcons a b) = a

abbrev pub back : Gv → Gv
back gnil = gnil
back (gnum n) = gnil
back (gcons a b) = b

abbrev pub IsNil : Gv → Type 0
IsNil gnil = Unit {0}
IsNil (gnum n) = ⊥
IsNil (gcons a b) = ⊥

abbrev pub IsNumber : Gv → Type 0
IsNumber gnil = ⊥
IsNumber (gnum n) = Unit {0}
IsNumber (gcons a b) = ⊥

mutual
  pub rule_tree-one_to_one : (r s : Rule) → rule_tree r ≡ rule_tree s → r ≡ s
  rule_tree-one_to_one (literal d) (literal e) h = ap literal (data_tree-one_to_one d e (ap back h))
  rule_tree-one_to_one (literal d) (tree.list ss) h = absurd (subst (λ g. IsNil (front g)) h tt)
  rule_tree-one_to_one (literal d) (apply o ss) h = absurd (subst (λ g. IsNil (front g)) h tt)
  rule_tree-one_to_one (tree.list rs) (literal e) h = absurd (subst (λ g. IsNumber (front g)) h tt)
  rule_tree-one_to_one (tree.list rs) (tree.list ss) h =
      ap tree.list (rules_tree-one_to_one rs ss (ap back h))
  rule_tree-one_to_one (tree.list rs) (apply o ss) h = absurd (subst (λ g. IsNumber (front g)) h tt)
  rule_tree-one_to_one (apply o rs) (literal e) h = absurd (subst (λ g. IsNil (front g)) (sym h) tt)
  rule_tree-one_to_one (apply o rs) (tree.list ss) h =
      absurd (subst (λ g. IsNumber (front g)) (sym h) tt)
  rule_tree-one_to_one (apply o rs) (apply p ss) h =
      ap (λ q. apply q rs) (operator.the_row.coded.inj o p (ap (λ g. front (front g)) h))
      ∙ ap (apply p) (rules_tree-one_to_one rs ss (ap back h))

  pub rules_tree-one_to_one : (rs ss : Rules) → rules_tree rs ≡ rules_tree ss → rs ≡ ss
  rules_tree-one_to_one no_rules no_rules h = refl
  rules_tree-one_to_one no_rules (rule s ss) h = absurd (subst IsNil h tt)
  rules_tree-one_to_one (rule r rs) no_rules h = absurd (subst IsNil (sym h) tt)
  rules_tree-one_to_one (rule r rs) (rule s ss) h =
      ap (λ q. rule q rs) (rule_tree-one_to_one r s (ap front h))
      ∙ ap (rule s) (rules_tree-one_to_one rs ss (ap back h))

abbrev pub coded_rule : Coded Rule
coded_rule = record { code = rule_tree; inj = rule_tree-one_to_one }

abbrev pub coded_rules : Coded Rules
coded_rules = record { code = rules_tree; inj = rules_tree-one_to_one }
