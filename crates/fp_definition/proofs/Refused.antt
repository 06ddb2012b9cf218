-- Which texts are no definition's.
use Rattle.std.proofs.Common.{◌≡◌, ◌≤◌, ◌<◌, ◌-◌, ℕ, List, [], ◌∷◌, length, codes, unwrap_or, Bool, true, false, Option, Some}
use Rattle.std.proofs.Common.{None, option_map, refl, sym, ap, subst, ◌∙◌, arith, append-nil}
use Rattle.std.proofs.lemmas.Bool.{and_parts, le-leb, leb-true}
use Rattle.std.proofs.lemmas.Slice.Eq.{bytes_eq-Decides}
use Rattle.std.specs.Prelude.{if◌then◌else◌, is_none, is_some, nat_le, option_and_then, bytes_eq}
use Rattle.std.specs.Str.{is_utf8}
use Rattle.json.specs.Json as json
use Rattle.json.specs.Lex.{tokens}
use Rattle.serde_json.specs.Data.{Data, null, boolean, number, string, array, object, depth, members_depth, put}
use Rattle.serde_json.specs.Data.{Items, no_items, item, Members, no_members}
use Rattle.serde_json.specs.Find.{as_object, get}
use Rattle.serde_json.specs.Read.{max_depth, number_of, of_json, of_items, of_members, read}
use Rattle.serde_json.specs.Written.{compact_text}
use Rattle.fp_base.specs.Json.{json_of}
use Rattle.fp_base.specs.Ordered.{IsOrdered, AreOrdered, MembersAreOrdered}
use Rattle.fp_base.specs.Sorted.{IsSorted}
use Rattle.fp_base.specs.Tests.{first_failed}
use Rattle.fp_base.specs.Whole.{is_whole}
use Rattle.fp_base.proofs.Inside.{inside, ordered_get}
use Rattle.fp_base.proofs.Read.{ordered-put}
use Rattle.fp_base.proofs.Sorted.{sorted-put}
use Rattle.fp_base.proofs.WholeData.{whole-get}
use Rattle.fp_canonical.specs.Reads.{Reads}
use Rattle.fp_canonical.proofs.Digits.{read_written}
use Rattle.fp_definition.specs.Numbers.{DEEPEST_DEFINITION, LONGEST_DEFINITION}
use Rattle.fp_definition.specs.Resolving.{data_of}
use Rattle.fp_definition.specs.Valid.{Fault, too_deep, too_large, whole_numbers_only, first_fault}
use Rattle.fp_definition.specs.Valid.{IsValid, is_definition_text, member_tests, targeting_tests}
use Rattle.fp_definition.specs.Valid.{definition_in, is_text_of, is_text_of_some}
use Rattle.fp_definition.proofs.Said.{choice_passed, meets_tests, passed}

-- ---- what is read is in order

some_same : {A : Type 0} (a b : A) → Some a ≡ Some b → a ≡ b
some_same a b h = cc

then_is : {A B : Type 0} (f : A → Option B) (o : Option A) (b : B) → option_and_then f o ≡ Some b → (a : A) × (o ≡ Some a) × (f a ≡ Some b)
then_is f None b h = absurd (cc)
then_is f (Some a) b h = (a, refl, h)

pub map_is : {A B : Type 0} (f : A → B) (o : Option A) (b : B) → option_map f o ≡ Some b → (a : A) × (o ≡ Some a) × (f a ≡ b)
map_is f None b h = absurd (cc)
map_is f (Some a) b h = (a, refl, some_same (f a) b h)

mutual
  ordered_json : (j : json.Json) (d : Data) → of_json j ≡ Some d → IsOrdered d
  ordered_json json.null d h = subst IsOrdered (some_same null d h) tt
  ordered_json (json.boolean b) d h = subst IsOrdered (some_same (boolean b) d h) tt
  ordered_json (json.number s) d h = let n = map_is number (number_of s) d h in subst IsOrdered n.2 (read_written s n.0 n.1)
  ordered_json (json.string s) d h = subst IsOrdered (some_same (string s) d h) tt
  ordered_json (json.array js) d h = let ds = map_is array (of_items js) d h in subst IsOrdered ds.2 (ordered_items js ds.0 ds.1)
  ordered_json (json.object ms) d h =
      let ns = map_is object (of_members ms no_members) d h in subst IsOrdered ns.2 (ordered_members ms no_members ns.0 tt tt ns.1)

  ordered_items : (js : json.Items) (ds : Items) → of_items js ≡ Some ds → AreOrdered ds
  ordered_items json.no_items ds h = subst AreOrdered (some_same no_items ds h) tt
  ordered_items (json.item j js) ds h =
      let d = then_is (λ d. option_map (item d) (of_items js)) (of_json j) ds h in
      let es = map_is (item d.0) (of_items js) ds d.2 in
      subst AreOrdered es.2 (ordered_json j d.0 d.1, ordered_items js es.0 es.1)

  ordered_members : (ms : json.Members) (found all : Members) → IsSorted found → MembersAreOrdered found →
      of_members ms found ≡ Some all → IsSorted all × MembersAreOrdered all
  ordered_members json.no_members found all sorted ordered h =
      let same = some_same found all h in (subst IsSorted same sorted, subst MembersAreOrdered same ordered)
  ordered_members (json.member k j ms) found all sorted ordered h =
      let d = then_is (λ d. of_members ms (put k d found)) (of_json j) all h in
      ordered_members ms (put k d.0 found) all (sorted-put k d.0 found sorted)
      (ordered-put k d.0 found (ordered_json j d.0 d.1) ordered) d.2

ordered_if : (b : Bool) (text : List ℕ) (d : Data) → (if b then read text else None) ≡ Some d → IsOrdered d
ordered_if false text d h = absurd (cc)
ordered_if true text d h =
    let j = then_is of_json (option_and_then (λ p. json.if_last p.0 p.1) (json.value max_depth (tokens text))) d h in
    ordered_json j.0 d j.2

json_ordered : (text : List ℕ) (d : Data) → json_of text ≡ Some d → IsOrdered d
unfolding json_of
json_ordered text d h = ordered_if (is_utf8 text) text d h

-- ---- what a definition's text meets

none_is : {A : Type 0} (o : Option A) → is_none o ≡ true → o ≡ None
none_is None h = refl
none_is (Some a) h = absurd (cc)

text_is : (text : List ℕ) (d : Data) → is_text_of text d ≡ true → IsValid d × (compact_text d ≡ text)
unfolding is_text_of
text_is text d h =
    let both = and_parts (is_none (first_fault d)) (bytes_eq (compact_text d) text) h in
    (none_is (first_fault d) both.0, (bytes_eq-Decides (compact_text d) text).0 both.1)

if_not : (b : Bool) (text : List ℕ) → (b ≡ true → ⊥) → (if b then Some text else None) ≡ None
if_not true text h = absurd (h refl)
if_not false text h = refl

nothing_in : (text : List ℕ) → ((d : Data) → json_of text ≡ Some d → IsValid d → compact_text d ≡ text → ⊥) → definition_in text ≡ None
nothing_in text h = by (json_of text) refl
  where
    by : (o : Option Data) → json_of text ≡ o → (if is_text_of_some text o then Some text else None) ≡ None
    by None e = refl
    by (Some d) e = if_not (is_text_of text d) text (λ t. let both = text_is text d t in h d e both.0 both.1)

step : (b : Bool) (f : Fault) (rest : Option Fault) → (if b then rest else Some f) ≡ None → (b ≡ true) × (rest ≡ None)
step true f rest h = (refl, h)
step false f rest h = absurd (cc)

the_object : (d : Data) → is_some (as_object d) ≡ true → (ms : Members) × (d ≡ object ms)
the_object (object ms) h = (ms, refl)
the_object null h = absurd (cc)
the_object (boolean b) h = absurd (cc)
the_object (number n) h = absurd (cc)
the_object (string s) h = absurd (cc)
the_object (array ds) h = absurd (cc)

record Sizes (d : Data) : Type 0 where
  flat : depth d ≤ DEEPEST_DEFINITION
  whole : is_whole d ≡ true
  short : length (compact_text d) ≤ LONGEST_DEFINITION
  members : Members
  is_object : d ≡ object members

sizes : (d : Data) → IsValid d → Sizes d
sizes d valid =
    let one = step (nat_le (depth d) DEEPEST_DEFINITION) too_deep _ valid in
    let two = step (is_whole d) whole_numbers_only _ one.1 in
    let three = step (nat_le (length (compact_text d)) LONGEST_DEFINITION) too_large _ two.1 in
    let ms = the_object d (meets_tests d three.1).members in
    record {
      flat = leb-true (depth d) DEEPEST_DEFINITION one.0;
      whole = two.0;
      short = leb-true (length (compact_text d)) LONGEST_DEFINITION three.0;
      members = ms.0;
      is_object = ms.1;
    }

-- ---- texts that are none

pub too_long : (text : List ℕ) → LONGEST_DEFINITION < length text → definition_in text ≡ None
too_long text long = nothing_in text (λ d reads valid same. omega (arith, long, (sizes d valid).short, ap length same))

pub not_read : (text : List ℕ) → ((ms : Members) → Reads DEEPEST_DEFINITION (object ms) text [] → ⊥) → definition_in text ≡ None
not_read text none = nothing_in text (λ d reads valid same.
    let s = sizes d valid in
    none s.members (subst (λ e. Reads DEEPEST_DEFINITION e text []) s.is_object record {
      spelled = sym same ∙ sym (append-nil (compact_text d));
      ordered = json_ordered text d reads;
      whole = s.whole;
      flat = s.flat;
    }))

-- ---- what a definition's text says

pub defined : (text : List ℕ) → is_definition_text text ≡ true → (json_of text ≡ Some (data_of text)) × IsValid (data_of text)
defined text h = by (json_of text) refl h
  where
    by : (o : Option Data) → json_of text ≡ o → is_text_of_some text o ≡ true →
        (json_of text ≡ Some (data_of text)) × IsValid (data_of text)
    by None e h = absurd (cc)
    by (Some d) e h =
        let same : data_of text ≡ d = ap (λ o. unwrap_or o null) e in
        (e ∙ ap Some (sym same), subst IsValid (sym same) (text_is text d h).0)

module _ (text : List ℕ) (canonical : is_definition_text text ≡ true) where
  -- its `targeting` can be read within another definition
  pub targeting_sound : (d : Data) → get (codes "targeting") (data_of text) ≡ Some d →
      IsOrdered d × (is_whole d ≡ true) × (depth d ≤ DEEPEST_DEFINITION - 1)
  targeting_sound d is =
      let it = defined text canonical in
      let s = sizes (data_of text) it.1 in (
        ordered_get (codes "targeting") (data_of text) d (json_ordered text (data_of text) it.0) is,
        whole-get (codes "targeting") (data_of text) d s.whole is,
        inside (λ x. depth x ≤ DEEPEST_DEFINITION - 1) (λ ms. members_depth ms ≤ DEEPEST_DEFINITION - 1)
            (λ l x ms all. (omega (arith, all), omega (arith, all))) (codes "targeting") (data_of text) d
            (λ ms same. let deep : depth (object ms) ≤ DEEPEST_DEFINITION = subst (λ x. depth x ≤ DEEPEST_DEFINITION) same s.flat in
            omega (arith, deep)) is,
      )

  -- and meets its tests
  pub targeting_met : first_failed (targeting_tests (get (codes "targeting") (data_of text))) ≡ None
  targeting_met =
      let valid = (defined text canonical).1 in
      let one = step (nat_le (depth (data_of text)) DEEPEST_DEFINITION) too_deep _ valid in
      let two = step (is_whole (data_of text)) whole_numbers_only _ one.1 in
      let three = step (nat_le (length (compact_text (data_of text))) LONGEST_DEFINITION) too_large _ two.1 in
      let behind = targeting_tests (get (codes "targeting") (data_of text)) in
      sym (choice_passed (data_of text) behind (meets_tests (data_of text) three.1)) ∙ three.1

-- data within the limits of size have the first fault of their members
pub sized : (d : Data) → depth d ≤ DEEPEST_DEFINITION → is_whole d ≡ true → length (compact_text d) ≤ LONGEST_DEFINITION →
    first_fault d ≡ first_failed (member_tests d)
sized d flat whole short =
    let third = (nat_le (length (compact_text d)) LONGEST_DEFINITION, too_large) ∷ member_tests d in
    passed (nat_le (depth d) DEEPEST_DEFINITION) too_deep ((is_whole d, whole_numbers_only) ∷ third)
    (le-leb (depth d) DEEPEST_DEFINITION flat)
    ∙ passed (is_whole d) whole_numbers_only third whole
    ∙ passed (nat_le (length (compact_text d)) LONGEST_DEFINITION) too_large (member_tests d)
    (le-leb (length (compact_text d)) LONGEST_DEFINITION short)
