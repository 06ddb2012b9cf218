-- Documents: how they begin, and that they tell of keys and definitions alone.
use Rattle.std.proofs.Common.{◌≡◌, ℕ, List, [], ◌∷◌, ◌++◌, length, map, take, drop, true, false}
use Rattle.std.proofs.Common.{Result, Ok, Err, refl, sym, ap, ◌∙◌}
use Rattle.std.specs.Prelude.{bytes_eq, codes}
use Rattle.std.specs.FinMap as fin
use Rattle.std.proofs.lemmas.Slice.Eq.{bytes_eq-Decides}
use Rattle.serde_json.specs.Data.{Members, member, no_members, object}
use Rattle.serde_json.specs.Written.{compact_text}
use Rattle.serde_json.proofs.OnLiterals.{serde_json_on_literals}
use Rattle.fp_documents.specs.Document.{data_of, document, members_of}
use Rattle.fp_documents.specs.Outline.{rest_text}
use Rattle.fp_documents.specs.declared.flags.Flag.{Flag}
use Rattle.fp_edit.specs.Flags.{Flags, State}
use Rattle.fp_shown.specs.Reading.{told, told_of}
use Rattle.fp_shown.specs.Sets.{IsSetOf}

abbrev pub Head : List ℕ
Head = codes "{\"flags\":{"

pub document-rest : (flags : Flags) → document flags ≡ Head ++ rest_text false (fin.entries flags)
unfolding serde_json_on_literals
document-rest flags = refl

-- what a set's document begins with, and what is left behind that
pub begins_so : (revision : ℕ) (bytes : List ℕ) (s : State) → IsSetOf revision bytes s
    → bytes_eq (take (length Head) bytes) Head ≡ true
begins_so revision bytes s h =
    let is = sym h.spelled ∙ document-rest s.flags in
    ap (λ text. bytes_eq (take (length Head) text) Head) is ∙ (bytes_eq-Decides Head Head).1 refl

pub goes_on_so : (revision : ℕ) (bytes : List ℕ) (s : State) → IsSetOf revision bytes s
    → drop (length Head) bytes ≡ rest_text false (fin.entries s.flags)
goes_on_so revision bytes s h = ap (drop (length Head)) (sym h.spelled ∙ document-rest s.flags)

-- ---- keys and definitions

members_told : List (List ℕ × List ℕ) → Members
members_told [] = no_members
members_told (t ∷ ts) = member t.0 (data_of t.1) (members_told ts)

members-told : (es : List (List ℕ × Flag)) → members_of es ≡ members_told (map told_of es)
unfolding members_told
members-told [] = refl
members-told (e ∷ es) = ap (member e.0 (data_of e.1.definition)) (members-told es)

-- flags of which the same is told have the same document
pub same_document : (a b : Flags) → told a ≡ told b → document a ≡ document b
same_document a b same =
    let members = members-told (fin.entries a) ∙ ap members_told same
    ∙ sym (members-told (fin.entries b)) in
    ap (λ ms. compact_text (object (member (codes "flags") (object ms) no_members))) members

pub told_again : (revision : ℕ) (bytes : List ℕ) (s : State) (flags : Flags)
    → IsSetOf revision bytes s → told flags ≡ told s.flags → bytes_eq (document flags) bytes ≡ true
told_again revision bytes s flags h same =
    (bytes_eq-Decides (document flags) bytes).1 (same_document flags s.flags same ∙ h.spelled)

-- the fault in a result
pub same_fault : {A : Type 0} {E : Type 0} (a : Result A E) (e f : E) → a ≡ Err e → a ≡ Err f
    → e ≡ f
same_fault a e f is other = ap (λ r. fault_or r e) (sym is ∙ other)
  where
    fault_or : {A : Type 0} {E : Type 0} → Result A E → E → E
    fault_or (Ok x) e = e
    fault_or (Err f) e = f
