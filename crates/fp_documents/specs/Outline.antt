-- The parts of a set's document, and flags that are others with some of them put anew.
use Rattle.std.specs.Prelude.{◌≡◌, ℕ, ◌+◌, ◌<◌, ◌≤◌, Bool, false, true, List, [], ◌∷◌, ◌++◌, length, nat_lt, slice_set}
use Rattle.std.specs.Prelude.{codes, if◌then◌else◌, nat_eq}
use Rattle.std.specs.FinMap as map
use Rattle.std.specs.List.{slice_range, splice, starts_with}
use Rattle.json.specs.Print.{quoted}
use Rattle.serde_json.specs.Written.{comma_if, compact_text, members_text}
use Rattle.fp_definition.specs.Key.{key_bytes}
use Rattle.fp_documents.specs.Document.{data_of, document, members_of}
use Rattle.fp_documents.specs.Flags.{State}
use Rattle.fp_documents.specs.declared.document.Document.{Document}
use Rattle.fp_documents.specs.declared.document.Place.{Place}
use Rattle.fp_documents.specs.declared.flags.Flag.{Flag}

-- a flag's part of a document, with a comma in front unless it is the first
abbrev pub part : Bool → List ℕ × Flag → List ℕ
part later e = comma_if later ++ (quoted e.0 ++ 58 ∷ compact_text (data_of e.1.definition))

-- what the part of a key's flag begins with, and by which it is known
abbrev pub head : Bool → List ℕ → List ℕ
head later k = comma_if later ++ (quoted k ++ 58 ∷ [])

abbrev pub is_part_of : Bool → List ℕ → List ℕ → Bool
is_part_of later k text = starts_with nat_eq text (head later k)

-- how long the parts of flags are
abbrev pub part_lengths : Bool → List (List ℕ × Flag) → List ℕ
part_lengths later [] = []
part_lengths later (e ∷ es) = length (part later e) ∷ part_lengths true es

-- the text of these flags, from the first of them to the document's end
abbrev pub rest_text : Bool → List (List ℕ × Flag) → List ℕ
rest_text later es = members_text later (members_of es) ++ 125 ∷ []

-- the document of these flags
abbrev pub whole_text : List (List ℕ × Flag) → List ℕ
whole_text es = codes "{\"flags\":{" ++ rest_text false es

-- how many flags were changed after a revision
abbrev pub changed_after : ℕ → List (List ℕ × Flag) → ℕ
changed_after revision [] = 0
changed_after revision (e ∷ es) =
    (if nat_lt revision e.1.changed then 1 else 0) + changed_after revision es

-- the same keys, and at each the same flag, but for those that were changed after a revision
abbrev pub SameButChanged : ℕ → List (List ℕ × Flag) → List (List ℕ × Flag) → Type 0
SameButChanged revision [] [] = Unit {0}
SameButChanged revision [] (f ∷ fs) = ⊥
SameButChanged revision (e ∷ es) [] = ⊥
SameButChanged revision (e ∷ es) (f ∷ fs) =
    (e.0 ≡ f.0) × (f.1.changed ≤ revision → e ≡ f) × SameButChanged revision es fs

-- each flag that was changed after a revision stands at the place of one that had its key
abbrev pub KeepsKeys : ℕ → List (List ℕ × Flag) → List (List ℕ × Flag) → Type 0
KeepsKeys revision [] [] = Unit {0}
KeepsKeys revision [] (f ∷ fs) = ⊥
KeepsKeys revision (e ∷ es) [] = ⊥
KeepsKeys revision (e ∷ es) (f ∷ fs) = (revision < f.1.changed → e.0 ≡ f.0) × KeepsKeys revision es fs

-- as many flags, of which the others are the same where the changed ones keep their keys
abbrev pub HasAsMany : ℕ → List (List ℕ × Flag) → List (List ℕ × Flag) → Type 0
HasAsMany revision es fs =
    (length fs ≡ length es) × (KeepsKeys revision es fs → SameButChanged revision es fs)

-- the document of these flags, and how long their parts of it are
pub record Outlines (d : Document) (es : List (List ℕ × Flag)) : Type 0 where
  pub text : d.text.items ≡ whole_text es
  pub lengths : d.lengths.items ≡ part_lengths false es

-- the document of a set, in which no flag was changed after the set's revision
pub record IsDocumentOf (d : Document) (s : State) : Type 0 where
  pub outlines : Outlines d (map.entries s.flags)
  pub shows : d.text.items ≡ document s.flags
  pub revision : d.revision ≡ s.revision
  pub changed : changed_after s.revision (map.entries s.flags) ≡ 0

-- the same text and the same parts, at the same revision
abbrev pub IsAlike : Document → Document → Type 0
IsAlike d e = (e.text.items ≡ d.text.items) × (e.lengths.items ≡ d.lengths.items) × (e.revision ≡ d.revision)

-- a document becomes that of these flags where a flag's new part takes this place in it
pub record IsPlaceOf (p : Place) (d : Document) (es : List (List ℕ × Flag)) : Type 0 where
  pub within : p.at + p.len ≤ length d.text.items
  pub counted : p.index < length d.lengths.items
  pub outlines : (e : Document) (new : List ℕ) → new ≡ part p.later (key_bytes p.key.now, p.flag.now)
      → e.text.items ≡ splice d.text.items p.at (p.at + p.len) new →
      e.lengths.items ≡ slice_set d.lengths.items p.index (length new) → Outlines e es

-- a flag that was changed since a document stands at the place of one that had another key
abbrev pub HasNewKey : Document → List (List ℕ × Flag) → Type 0
HasNewKey d fs = (es : List (List ℕ × Flag)) × Outlines d es × (KeepsKeys d.revision es fs → ⊥)

-- a flag's new part may take this place, where the part that is there has its key
pub record MayTake (p : Place) (d : Document) (es : List (List ℕ × Flag)) : Type 0 where
  pub within : p.at + p.len ≤ length d.text.items
  pub place : is_part_of p.later (key_bytes p.key.now) (slice_range d.text.items p.at (p.at + p.len)) ≡ true → IsPlaceOf p d es
  pub other : is_part_of p.later (key_bytes p.key.now) (slice_range d.text.items p.at (p.at + p.len)) ≡ false → HasNewKey d es
