-- Flags of the list, as text.
use Rattle.std.proofs.Common.{◌≡◌, ℕ, List, [], ◌∷◌, ◌++◌, Bool, true, false, Some, Result, Ok, Err, refl, sym, ap, ◌∙◌}
use Rattle.std.proofs.Common.{codes, append_assoc}
use Rattle.json.specs.Print.{escape_byte}
use Rattle.serde_json.specs.Data.{Data, Items, array, member, no_members, object}
use Rattle.serde_json.specs.Find.{get}
use Rattle.serde_json.specs.Written.{comma_if, compact_text, items_text}
use Rattle.fp_definition.specs.Resolving.{Said}
use Rattle.fp_definition.specs.declared.resolving.EvalFault.{EvalFault}
use Rattle.fp_definition.specs.declared.resolving.EvalFault.TheVariants.{Disabled, NoVariant}
use Rattle.fp_ofrep.specs.Bodies.{success, failure}
use Rattle.fp_ofrep.specs.Bulk.{with_flag_item}
use Rattle.fp_ofrep.specs.Single.{value_or_failure}
use Rattle.fp_ofrep.specs.declared.failure.Failure.TheVariants.{NamesNoVariant}

module _ (old : List ℕ) (later : Bool) (key : List ℕ) (d : Data) (o : Result Said EvalFault) (rest : Items) where
  -- from there on the rest is behind a comma, or not
  abbrev pub Lists : List ℕ → Bool → Type 0
  Lists new after = new ++ items_text after rest ≡ old ++ items_text later (with_flag_item key (value_or_failure key d o) rest)

  listed : (x : Data) (one new : List ℕ) → one ≡ old ++ comma_if later → new ≡ one ++ compact_text x →
      new ++ items_text true rest ≡ old ++ (comma_if later ++ (compact_text x ++ items_text true rest))
  listed x one new p q =
      ap (λ xs. xs ++ items_text true rest) (q ∙ ap (λ xs. xs ++ compact_text x) p)
      ∙ append_assoc (old ++ comma_if later) (compact_text x) (items_text true rest) ∙
      append_assoc old (comma_if later) (compact_text x ++ items_text true rest)

  pub listed_success : (one new j : List ℕ) (s : Said) → one ≡ old ++ comma_if later →
      new ≡ one ++ compact_text (success j (get (codes "metadata") d) s) → j ≡ key → o ≡ Ok s → Lists new true
  listed_success one new j s p q named is =
      listed (success j (get (codes "metadata") d) s) one new p q
      ∙ ap (λ k. old ++ (comma_if later ++ (compact_text (success k (get (codes "metadata") d) s) ++ items_text true rest))) named
      ∙ ap (λ r. old ++ items_text later (with_flag_item key (value_or_failure key d r) rest)) (sym is)

  pub listed_failure : (one new j : List ℕ) → one ≡ old ++ comma_if later →
      new ≡ one ++ compact_text (failure NamesNoVariant (Some j)) → j ≡ key → o ≡ Err NoVariant → Lists new true
  listed_failure one new j p q named is =
      listed (failure NamesNoVariant (Some j)) one new p q
      ∙ ap (λ k. old ++ (comma_if later ++ (compact_text (failure NamesNoVariant (Some k)) ++ items_text true rest))) named
      ∙ ap (λ r. old ++ items_text later (with_flag_item key (value_or_failure key d r) rest)) (sym is)

  pub listed_not : o ≡ Err Disabled → Lists old later
  listed_not is = ap (λ r. old ++ items_text later (with_flag_item key (value_or_failure key d r) rest)) (sym is)

round : (items : Items) → codes "{\"flags\":[" ++ (items_text false items ++ 125 ∷ []) ≡ compact_text
    (object (member (codes "flags") (array items) no_members))
unfolding escape_byte
round items = refl

-- the flags in their list
pub flags_put : (items : Items) (none start flags end : List ℕ) → none ≡ [] → start ≡ none ++ codes "{\"flags\":[" →
    flags ++ 93 ∷ [] ≡ start ++ items_text false items → end ≡ flags ++ codes "]}"
    → end ≡ compact_text (object (member (codes "flags") (array items) no_members))
flags_put items none start flags end empty p q r =
    r ∙ sym (append_assoc flags (93 ∷ []) (125 ∷ [])) ∙
    ap (λ xs. xs ++ 125 ∷ []) (q ∙
    ap (λ xs. xs ++ items_text false items) (p ∙ ap (λ xs. xs ++ codes "{\"flags\":[") empty))
    ∙ append_assoc (codes "{\"flags\":[") (items_text false items) (125 ∷ []) ∙ round items
