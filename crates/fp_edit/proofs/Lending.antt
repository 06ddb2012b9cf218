-- Parts that are lent one by one, and the tests of an edit in the order of its parts.
use Rattle.std.proofs.Common.{◌≡◌, ◌<◌, ◌≤◌, ◌+◌, ℕ, zero, suc, Bool, true, false, List, [], ◌∷◌, ◌++◌, length, map, drop}
use Rattle.std.proofs.Common.{get_or, Option, Some, None, refl, sym, ap, subst, ◌∙◌, add-one, arith}
use Rattle.std.specs.Prelude.{is_some}
use Rattle.std.specs.Borrow.{Bor}
use Rattle.std.specs.FinMap as fin
use Rattle.std.specs.Int.{from_bool}
use Rattle.std.proofs.Math.ListN.{drop_of_length-le, get_or-map}
use Rattle.std.proofs.lemmas.List.{length-map}
use Rattle.fp_base.specs.Tests.{first_failed}
use Rattle.fp_base.proofs.Turns.{drop-here}
use Rattle.fp_edit.specs.Admits.{has_revision, has_room, is_as_expected, is_within, keys, keys_from, present}
use Rattle.fp_edit.specs.Edits.{change_in, joint, parts, Proposal, single}
use Rattle.fp_edit.specs.Flags.{Flags, State, one_found, size}
use Rattle.fp_edit.specs.Lent.{conflict_at, left_at, part_with, proposed}
use Rattle.fp_edit.specs.Parts.{ProposedPart, is_put, part_key, proposed_of}
use Rattle.fp_edit.specs.declared.edit.Change.{Change}
use Rattle.fp_edit.specs.declared.edit.EditFault.{EditFault}
use Rattle.fp_edit.specs.declared.edit.EditFault.TheVariants.{SetTooLarge, RevisionsUsed}
use Rattle.fp_documents.specs.declared.flags.Flag.{Flag}
use Rattle.fp_documents.proofs.Sizes.{count-insert, size-insert}

-- ---- one part
pub key_with : (k : List ℕ) (o : Option (Bor (List ℕ))) → part_key (part_with k o) ≡ k
key_with k None = refl
key_with k (Some text) = refl

pub puts_with : (k : List ℕ) (o : Option (Bor (List ℕ))) → is_put (part_with k o) ≡ is_some o
puts_with k None = refl
puts_with k (Some text) = refl

pub one_with : (r : ℕ) (k : List ℕ) (o : Option (Bor (List ℕ))) → one_found (left_at r (part_with k o)) ≡ from_bool (is_some o)
one_with r k None = refl
one_with r k (Some text) = refl

-- ---- the part at a place
pub proposed_at : (changes : List Change) (i : ℕ) (c : Change) → c ≡ get_or changes i c
    → proposed_of c ≡ get_or (map proposed_of changes) i (proposed_of c)
proposed_at changes i c is = sym (get_or-map proposed_of changes i c ∙ ap proposed_of (sym is))

pub part_at : (p : Proposal) (i : ℕ) (x : ProposedPart) → x ≡ get_or (proposed p) i x → x.part ≡ get_or (parts (change_in p)) i x.part
part_at (single p) i x is = ap (λ y. y.part) is ∙ sym (get_or-map (λ y. y.part) (p ∷ []) i x)
part_at (joint ps) i x is = ap (λ y. y.part) is ∙ sym (get_or-map (λ y. y.part) ps i x)

-- ---- the tests from a place on
abbrev pub keys_left : State → Proposal → ℕ → List (Bool × EditFault)
keys_left s (single p) zero = keys s (single p)
keys_left s (single p) (suc i) = []
keys_left s (joint ps) i = keys_from s i (drop i ps)

abbrev Rest : State → Proposal → List (Bool × EditFault)
Rest s p = (has_room s (change_in p), SetTooLarge) ∷ (has_revision s, RevisionsUsed) ∷ []

abbrev pub fault_from : State → Proposal → ℕ → Option EditFault
fault_from s p i = first_failed (keys_left s p i ++ Rest s p)

module _ (s : State) where
  key_here : (p : Proposal) (i : ℕ) (x : ProposedPart) → i < length (parts (change_in p)) → x ≡ get_or (proposed p) i x
      → keys_left s p i ≡ (is_as_expected s x, conflict_at p i (present s x)) ∷ keys_left s p (i + 1)
  key_here (single p) zero x within is = rw is refl
  key_here (single p) (suc i) x within is = absurd (omega (arith, within))
  key_here (joint ps) i x within is =
      let inside : i < length ps = subst (λ (n : ℕ). i < n) (length-map ps (λ (y : ProposedPart). y.part)) within in
      ap (keys_from s i) (drop-here ps i x inside is)
      ∙ ap (λ (n : ℕ). (is_as_expected s x, conflict_at (joint ps) i (present s x)) ∷ keys_from s n (drop (i + 1) ps)) (sym (add-one i))

  module _ (p : Proposal) (i : ℕ) (x : ProposedPart) (within : i < length (parts (change_in p)))
      (is : x ≡ get_or (proposed p) i x) where
    pub fault_later : is_as_expected s x ≡ true → fault_from s p i ≡ fault_from s p (i + 1)
    fault_later met = ap (λ ts. first_failed (ts ++ Rest s p)) (key_here p i x within is) ∙ rw met refl

    pub fault_here : is_as_expected s x ≡ false → fault_from s p i ≡ Some (conflict_at p i (present s x))
    fault_here unmet = ap (λ ts. first_failed (ts ++ Rest s p)) (key_here p i x within is) ∙ rw unmet refl

  none_left : (p : Proposal) (i : ℕ) → length (parts (change_in p)) ≤ i → keys_left s p i ≡ []
  none_left (single p) zero end = absurd (omega (arith, end))
  none_left (single p) (suc i) end = refl
  none_left (joint ps) i end =
      let behind : length ps ≤ i = subst (λ (n : ℕ). n ≤ i) (length-map ps (λ (y : ProposedPart). y.part)) end in
      ap (keys_from s i) (drop_of_length-le ps behind)

  pub fault_behind : (p : Proposal) (i : ℕ) → length (parts (change_in p)) ≤ i → fault_from s p i ≡ first_failed (Rest s p)
  fault_behind p i end = ap (λ ts. first_failed (ts ++ Rest s p)) (none_left p i end)

-- ---- the limits
-- the revision that a flag is marked with takes the same room as any other
pub room_whenever : (m : Flags) (k text : List ℕ) (r n limit : ℕ)
    → is_within (fin.insert m k (record { definition = text; changed = r })) limit
    ≡ is_within (fin.insert m k (record { definition = text; changed = n })) limit
room_whenever m k text r n limit =
    let f : Flag = record { definition = text; changed = r } in
    let g : Flag = record { definition = text; changed = n } in
    let counts = count-insert m k f in let sizes = size-insert m k f in
    let other_counts = count-insert m k g in let other_sizes = size-insert m k g in
    let count : fin.len (fin.insert m k f) ≡ fin.len (fin.insert m k g) = omega (arith, counts, other_counts) in
    let bytes : size (fin.insert m k f) ≡ size (fin.insert m k g) = omega (arith, sizes, other_sizes) in
    rw (count, bytes) refl
