-- What is said of a variant, and which outcomes a definition resolves to, as they are spelled.
use Rattle.std.proofs.Common.{◌≡◌, ℕ, List, ◌∷◌, Bool, true, false, true≢false, Option, Some, None, Result, Ok, Err}
use Rattle.std.proofs.Common.{codes, option_map, refl, sym, ap, ap₂, subst}
use Rattle.std.proofs.lemmas.Option.{none-some}
use Rattle.std.specs.Ordering.{match_ordering, nat_cmp}
use Rattle.std.specs.Cmp.Lexicographic.{slice_cmp}
use Rattle.std.specs.declared.cmp.Ordering.{Ordering}
use Rattle.std.specs.declared.cmp.Ordering.TheVariants.{Less, Equal, Greater}
use Rattle.std.specs.Prelude.{MatchOption, is_some}
use Rattle.serde_json.specs.Data.{Data, null, boolean, number, string, array, object, Members, no_members, member}
use Rattle.serde_json.specs.Find.{as_object, get, get_member}
use Rattle.serde_json.specs.Written.{compact_text}
use Rattle.fp_base.specs.Answer.{Answers, Gives}
use Rattle.fp_base.specs.Ordered.{IsOrdered}
use Rattle.fp_base.specs.Sorted.{IsBelow, IsSorted}
use Rattle.fp_base.specs.Tests.{first_failed}
use Rattle.fp_base.proofs.Inside.{ordered_get}
use Rattle.fp_operators.specs.Data as value
use Rattle.fp_machine.specs.Rule.{Rule}
use Rattle.fp_machine.specs.Means.{Means}
use Rattle.fp_targeting.specs.RuleData.{rule_data}
use Rattle.fp_definition.specs.Choice.{MeetsTests}
use Rattle.fp_definition.specs.Resolving.{Said, Spelling, Resolves, Spells, Tells, TellsItself, by_default, by_result}
use Rattle.fp_definition.specs.Resolving.{is_disabled, outcome_spelled, said_or_none, spelled_by, spelling}
use Rattle.fp_definition.specs.Spelled.{AreAt, AreNoted, IsAt, texts}
use Rattle.fp_definition.specs.Targeting.{rule_in}
use Rattle.fp_definition.specs.Valid.{Fault, not_object, bad_state, bad_variants, bad_default, bad_metadata}
use Rattle.fp_definition.specs.Valid.{are_variants, choice_tests, is_state, is_metadata, member_tests, names_variant, targeting_tests}
use Rattle.fp_definition.specs.declared.resolving.EvalFault.{EvalFault}
use Rattle.fp_definition.specs.declared.resolving.EvalFault.TheVariants.{Disabled, NoVariant, Memory}
use Rattle.fp_definition.specs.declared.resolving.Reason.{Reason}
use Rattle.fp_definition.specs.declared.resolving.Reason.TheVariants.{Static}
use Rattle.fp_definition.specs.declared.resolving.Resolved.{Resolved}
use Rattle.fp_definition.specs.declared.spelling.Place.{Place}
use Rattle.fp_definition.specs.declared.spelling.Places.{Places}
use Rattle.fp_definition.specs.declared.spelling.Variant.{Variant}

-- ---- members and their texts

abbrev text_of : Data → Data
text_of d = string (compact_text d)

below_texts : (k : List ℕ) (ms : Members) → IsBelow k ms → IsBelow k (texts ms)
below_texts k no_members h = tt
below_texts k (member l d ms) h = (h.0, below_texts k ms h.1)

pub sorted_texts : (ms : Members) → IsSorted ms → IsSorted (texts ms)
sorted_texts no_members h = tt
sorted_texts (member k d ms) h = (below_texts k ms h.0, sorted_texts ms h.1)

pub get_texts : (k : List ℕ) (ms : Members) → get_member k (texts ms) ≡ option_map text_of (get_member k ms)
get_texts k no_members = refl
get_texts k (member l d ms) = by (slice_cmp nat_cmp k l) (get_texts k ms)
  where
    by : (o : Ordering) → get_member k (texts ms) ≡ option_map text_of (get_member k ms)
        → match_ordering o (get_member k (texts ms)) (Some (text_of d)) (get_member k (texts ms)) ≡ option_map
        text_of (match_ordering o (get_member k ms) (Some d) (get_member k ms))
    by Less h = h
    by Equal h = refl
    by Greater h = h

-- ---- what is said of a variant

pub said_found : (o : Option Data) (name v x : List ℕ) (reason : Reason) → Some (string x) ≡ option_map text_of o →
    v ≡ name → outcome_spelled (said_or_none name reason o) ≡ Ok (v, x, reason)
said_found None name v x reason h same = absurd (none-some (string x) (sym h))
said_found (Some d) name v x reason h same = ap₂ (λ n t. Ok (n, t, reason)) (sym same) (sym (inner x (compact_text d) h))
  where
    inner : (s t : List ℕ) → Some (string s) ≡ Some (string t) → s ≡ t
    inner s t e = cc

pub said_none : (o : Option Data) (name : List ℕ) (reason : Reason) → None ≡ option_map text_of o →
    outcome_spelled (said_or_none name reason o) ≡ Err NoVariant
said_none None name reason h = refl
said_none (Some d) name reason h = absurd (none-some (text_of d) h)

-- ---- outcomes

abbrev ok_or : Spelling → Result Spelling EvalFault → Spelling
ok_or other (Ok s) = s
ok_or other (Err e) = other

abbrev err_or : EvalFault → Result Spelling EvalFault → EvalFault
err_or other (Ok s) = other
err_or other (Err e) = e

pub spells : (r : Result Resolved EvalFault) (o : Result Said EvalFault) (Has : Result Said EvalFault → Type 0)
    → Has o → Gives spelled_by TellsItself r (outcome_spelled o) → Answers spelled_by Tells r (Spells Has)
spells (Ok r) (Ok said) Has h is = (said, h, sym (ap (λ o. ok_or (spelling said) o) is))
spells (Ok r) (Err e) Has h is = absurd (cc)
spells (Err e) (Ok said) Has h is = absurd (cc)
spells (Err Disabled) (Err e) Has h is = subst (λ f. Has (Err f)) (ap (err_or e) is) h
spells (Err NoVariant) (Err e) Has h is = subst (λ f. Has (Err f)) (ap (err_or e) is) h
spells (Err Memory) (Err e) Has h is = tt

pub spells_weaker : (r : Result Resolved EvalFault) (Has Other : Result Said EvalFault → Type 0) →
    ((o : Result Said EvalFault) → Has o → Other o)
    → Answers spelled_by Tells r (Spells Has) → Answers spelled_by Tells r (Spells Other)
spells_weaker (Ok r) Has Other f h = (h.0, f (Ok h.0) h.1, h.2)
spells_weaker (Err Disabled) Has Other f h = f (Err Disabled) h
spells_weaker (Err NoVariant) Has Other f h = f (Err NoVariant) h
spells_weaker (Err Memory) Has Other f h = tt

module _ (d : Data) (key : List ℕ) (context : Data) (now : ℕ) (enabled : is_disabled (get (codes "state") d) ≡ false) where
  pub resolves_default : rule_in (get (codes "targeting") d) ≡ None → Resolves d key context now (by_default Static d)
  resolves_default none = rw (enabled, none) refl

  pub resolves_rule : (r : Rule) (env : value.Data) → rule_in (get (codes "targeting") d) ≡ Some r → env ≡ rule_data context key now
      → (o : Result Said EvalFault) → (x : value.Data) × Means r env x × (o ≡ by_result d x) → Resolves d key context now o
  resolves_rule r env some same o h = rw (enabled, some, ← same) h

-- ---- what is chosen

step : (b : Bool) (f : Fault) (rest : List (Bool × Fault)) → first_failed ((b, f) ∷ rest) ≡ None → (b ≡ true) × (first_failed rest ≡ None)
step true f rest h = (refl, h)
step false f rest h = absurd (none-some f (sym h))

all_met : (a b c e f : Bool) (u v w x y : Fault) (rest : List (Bool × Fault)) →
    first_failed ((a, u) ∷ (b, v) ∷ (c, w) ∷ (e, x) ∷ (f, y) ∷ rest) ≡ None
    → (a ≡ true) × (b ≡ true) × (c ≡ true) × (e ≡ true) × (f ≡ true)
all_met a b c e f u v w x y rest h =
    let one = step a u ((b, v) ∷ (c, w) ∷ (e, x) ∷ (f, y) ∷ rest) h in
    let two = step b v ((c, w) ∷ (e, x) ∷ (f, y) ∷ rest) one.1 in
    let three = step c w ((e, x) ∷ (f, y) ∷ rest) two.1 in
    let four = step e x ((f, y) ∷ rest) three.1 in
    (one.0, two.0, three.0, four.0, (step f y rest four.1).0)

pub meets_tests : (d : Data) → first_failed (member_tests d) ≡ None → MeetsTests d
meets_tests d h =
    let all = all_met (is_some (as_object d)) (is_state (get (codes "state") d)) (are_variants (get (codes "variants") d))
    (names_variant (get (codes "defaultVariant") d) (get (codes "variants") d)) (is_metadata (get (codes "metadata") d))
    not_object bad_state bad_variants bad_default bad_metadata (targeting_tests (get (codes "targeting") d)) h in
    record { members = all.0; state = all.1; variants = all.2; default = all.3; metadata = all.4 }

-- one that is met decides nothing
pub passed : (b : Bool) (f : Fault) (rest : List (Bool × Fault)) → b ≡ true → first_failed ((b, f) ∷ rest) ≡ first_failed rest
passed true f rest h = refl
passed false f rest h = absurd (true≢false (sym h))

pub choice_passed : (d : Data) (others : List (Bool × Fault)) → MeetsTests d → first_failed (choice_tests d others) ≡ first_failed others
choice_passed d others met = rw (met.members, met.state, met.variants, met.default, met.metadata) refl

the_variants : (o : Option Data) → are_variants o ≡ true → (ms : Members) × (o ≡ Some (object ms))
the_variants (Some (object ms)) h = (ms, refl)
the_variants None h = absurd (true≢false (sym h))
the_variants (Some null) h = absurd (true≢false (sym h))
the_variants (Some (boolean b)) h = absurd (true≢false (sym h))
the_variants (Some (number n)) h = absurd (true≢false (sym h))
the_variants (Some (string s)) h = absurd (true≢false (sym h))
the_variants (Some (array ds)) h = absurd (true≢false (sym h))

-- of the members of a definition were noted what it chooses from
pub record IsChosen (d : Data) (text : List ℕ) (vs : List Variant) (p : Places) : Type 0 where
  pub members : Members
  pub variants : get (codes "variants") d ≡ Some (object members)
  pub sorted : IsSorted members
  pub values : AreAt text vs members
  pub metadata : MatchOption p.metadata (get (codes "metadata") d ≡ None) (λ q. IsAt text q (get (codes "metadata") d))
  pub targeting : MatchOption p.targeting (get (codes "targeting") d ≡ None) (λ q. IsAt text q (get (codes "targeting") d))

turned : (p : Option Place) (o : Option Data) (R : Place → Type 0) → MatchOption p (None ≡ o) R → MatchOption p (o ≡ None) R
turned None o R h = sym h
turned (Some p) o R h = h

chosen_of : (ms : Members) (text : List ℕ) (vs : List Variant) (p : Places) → MeetsTests (object ms) →
    IsOrdered (object ms) → AreNoted text (Some vs) p no_members ms → IsChosen (object ms) text vs p
chosen_of ms text vs p tested ordered noted =
    let v = the_variants (get_member (codes "variants") ms) tested.variants in record {
      members = v.0;
      variants = v.1;
      sorted = (ordered_get (codes "variants") (object ms) (object v.0) ordered v.1).0;
      values = noted.variants v.0 v.1;
      metadata = turned p.metadata (get_member (codes "metadata") ms) _ noted.metadata;
      targeting = turned p.targeting (get_member (codes "targeting") ms) _ noted.targeting;
    }

pub chosen_is : (d : Data) (text : List ℕ) (vs : List Variant) (p : Places) → MeetsTests d → IsOrdered d →
    ((ms : Members) → d ≡ object ms → AreNoted text (Some vs) p no_members ms) → IsChosen d text vs p
chosen_is (object ms) text vs p tested ordered noted = chosen_of ms text vs p tested ordered (noted ms refl)
chosen_is null text vs p tested ordered noted = absurd (true≢false (sym tested.members))
chosen_is (boolean b) text vs p tested ordered noted = absurd (true≢false (sym tested.members))
chosen_is (number n) text vs p tested ordered noted = absurd (true≢false (sym tested.members))
chosen_is (string s) text vs p tested ordered noted = absurd (true≢false (sym tested.members))
chosen_is (array ds) text vs p tested ordered noted = absurd (true≢false (sym tested.members))
