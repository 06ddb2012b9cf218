-- Rules without an operator: they are right, and give the datum that they are written as.
use Rattle.std.proofs.Common.{◌≡◌, ℤ, List, [], ◌∷◌, Bool, true, false, Option, Some, None, option_map, refl, sym, ap}
use Rattle.std.proofs.Common.{ap₂, ◌∙◌, if◌then◌else◌}
use Rattle.serde_json.specs.Data as json
use Rattle.serde_json.specs.Find.{as_i64}
use Rattle.fp_operators.specs.Data.{Data, null, boolean, whole, text, list, object, Items, no_items, item}
use Rattle.fp_operators.specs.FromJson.{data_of, items_from, whole_or_null}
use Rattle.fp_operators.specs.View.{items_of}
use Rattle.fp_targeting.specs.Compile.{first_of, first_unknown, items_unknown, one_more, rule_of, rules_from}
use Rattle.fp_machine.specs.Constant.{constant, constants}
use Rattle.fp_targeting.specs.Literal.{is_literal, all_literal}
use Rattle.fp_machine.specs.Meaning.{meaning, meanings}
use Rattle.fp_machine.specs.Operators.{well_formed, all_well_formed}
use Rattle.fp_machine.specs.Rule as tree
use Rattle.fp_machine.specs.Rule.{Rule, no_rules, rule}
use Rattle.fp_machine.specs.View.{rules_of}

mutual
  pub constant-formed : (d : Data) → well_formed (constant d) ≡ true
  constant-formed null = refl
  constant-formed (boolean b) = refl
  constant-formed (whole z) = refl
  constant-formed (text s) = refl
  constant-formed (list ds) = constants-formed ds
  constant-formed (object ms) = refl

  constants-formed : (ds : Items) → all_well_formed (constants ds) ≡ true
  constants-formed no_items = refl
  constants-formed (item d ds) = rw (constant-formed d, constants-formed ds) refl

mutual
  pub meaning-constant : (root d : Data) → meaning root (constant d) ≡ d
  meaning-constant root null = refl
  meaning-constant root (boolean b) = refl
  meaning-constant root (whole z) = refl
  meaning-constant root (text s) = refl
  meaning-constant root (list ds) = ap list (meanings-constants root ds)
  meaning-constant root (object ms) = refl

  meanings-constants : (root : Data) (ds : Items) → items_of (meanings root (constants ds)) ≡ ds
  meanings-constants root no_items = refl
  meanings-constants root (item d ds) = ap₂ item (meaning-constant root d) (meanings-constants root ds)

-- ---- what literals write

pub constant-whole_or_null : (o : Option ℤ) → constant (whole_or_null o) ≡ tree.literal (whole_or_null o)
constant-whole_or_null None = refl
constant-whole_or_null (Some z) = refl

none_of_two : (b : Bool) (r : Bool) → (if b then r else false) ≡ true → (b ≡ true) × (r ≡ true)
none_of_two true r h = (refl, h)
none_of_two false r h = absurd (cc)

pub rule_of-literal : (d : json.Data) → is_literal d ≡ true → rule_of d ≡ Some (constant (data_of d))
rule_of-literal json.null h = refl
rule_of-literal (json.boolean b) h = refl
rule_of-literal (json.number n) h = ap Some (sym (constant-whole_or_null (as_i64 n)))
rule_of-literal (json.string s) h = refl
rule_of-literal (json.array ds) h = absurd (cc)
rule_of-literal (json.object json.no_members) h = refl
rule_of-literal (json.object (json.member k d json.no_members)) h = absurd (cc)
rule_of-literal (json.object (json.member k d (json.member l e ms))) h = refl

unknown-literal : (d : json.Data) → is_literal d ≡ true → first_unknown d ≡ None
unknown-literal json.null h = refl
unknown-literal (json.boolean b) h = refl
unknown-literal (json.number n) h = refl
unknown-literal (json.string s) h = refl
unknown-literal (json.array ds) h = absurd (cc)
unknown-literal (json.object json.no_members) h = refl
unknown-literal (json.object (json.member k d json.no_members)) h = absurd (cc)
unknown-literal (json.object (json.member k d (json.member l e ms))) h = refl

pub items_unknown-literals : (ds : json.Items) → all_literal ds ≡ true → items_unknown ds ≡ None
items_unknown-literals json.no_items h = refl
items_unknown-literals (json.item d ds) h =
    let p = none_of_two (is_literal d) (all_literal ds) h in
    ap₂ first_of (unknown-literal d p.0) (items_unknown-literals ds p.1)

abbrev listed : Items → List Rule
listed no_items = []
listed (item d ds) = constant d ∷ listed ds

rules_of-listed : (ds : Items) → rules_of (listed ds) ≡ constants ds
rules_of-listed no_items = refl
rules_of-listed (item d ds) = ap (rule (constant d)) (rules_of-listed ds)

rules_from-literals : (ds : json.Items) → all_literal ds ≡ true → rules_from ds ≡ Some (listed (items_from ds))
rules_from-literals json.no_items h = refl
rules_from-literals (json.item d ds) h =
    let p = none_of_two (is_literal d) (all_literal ds) h in
    ap₂ one_more (rule_of-literal d p.0) (rules_from-literals ds p.1)

pub rule_of-literals : (ds : json.Items) → all_literal ds ≡ true → rule_of (json.array ds) ≡ Some (constant (data_of (json.array ds)))
rule_of-literals ds h =
    ap (option_map (λ rs. tree.list (rules_of rs))) (rules_from-literals ds h) ∙
    ap (λ rs. Some (tree.list rs)) (rules_of-listed (items_from ds))
