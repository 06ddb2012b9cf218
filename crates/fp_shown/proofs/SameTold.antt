-- Flags of which a document tells the same.
use Rattle.std.proofs.Common.{◌≡◌, ℕ, List, [], ◌∷◌, ◌++◌, map, drop, Bool, true, false, refl, sym}
use Rattle.std.proofs.Common.{ap, ap₂, ◌∙◌}
use Rattle.std.specs.Prelude.{All}
use Rattle.std.specs.FinMap as fin
use Rattle.std.specs.Str.{IsUtf8}
use Rattle.std.proofs.lemmas.List.{append_cancel_left, append_cancel_right}
use Rattle.std.proofs.lemmas.List.Elements.{All-head, All-tail}
use Rattle.json.specs.Print.{quoted}
use Rattle.serde_json.specs.Written.{comma_if}
use Rattle.fp_base.specs.Json.{json_of}
use Rattle.fp_definition.specs.Valid.{is_definition_text}
use Rattle.fp_documents.specs.Document.{document}
use Rattle.fp_documents.specs.Outline.{rest_text}
use Rattle.fp_edit.specs.Flags.{State}
use Rattle.fp_shown.specs.Reading.{told, told_of}
use Rattle.fp_shown.specs.Sets.{IsFlag, IsLawful}
use Rattle.fp_shown.proofs.Definitions.{behind-definition}
use Rattle.fp_shown.proofs.Documents.{Head, document-rest}
use Rattle.fp_shown.proofs.Ends.{same_some}
use Rattle.fp_shown.proofs.Names.{quoted-reads}
use Rattle.fp_shown.proofs.Passing.{same_key}
use Rattle.fp_shown.proofs.Scanning.{behind, behind-quoted, between_at}
use Rattle.fp_shown.proofs.Standing.{Entry, not_end, text-first}

-- what stands behind a name, and the key in it
same_behind : (k l x y : List ℕ) → quoted k ++ x ≡ quoted l ++ y → x ≡ y
same_behind k l x y e = same_some x y (sym (behind-quoted k 0 x) ∙ ap (behind (between_at 0)) e
    ∙ behind-quoted l 0 y)

same_name : (k l x y : List ℕ) → IsUtf8 k → IsUtf8 l → quoted k ++ x ≡ quoted l ++ y → k ≡ l
same_name k l x y utf8 other e =
    let names = append_cancel_right (quoted k) (quoted l) x (e
    ∙ ap (λ z. quoted l ++ z) (sym (same_behind k l x y e))) in
    same_key (quoted l) l k (ap json_of (sym names) ∙ quoted-reads k utf8) (quoted-reads l other)

-- and behind a definition, and the definition
same_rest : (t u x y : List ℕ) → is_definition_text t ≡ true → is_definition_text u ≡ true
    → t ++ x ≡ u ++ y → x ≡ y
same_rest t u x y h g e =
    same_some x y (sym (behind-definition t x h) ∙ ap (behind (between_at 0)) e
    ∙ behind-definition u y g)

same_text : (t u x y : List ℕ) → is_definition_text t ≡ true → is_definition_text u ≡ true
    → t ++ x ≡ u ++ y → t ≡ u
same_text t u x y h g e =
    append_cancel_right t u x (e ∙ ap (λ z. u ++ z) (sym (same_rest t u x y h g e)))

one_text : (revision other : ℕ) (later : Bool) (es fs : List Entry) → All (IsFlag revision) es
    → All (IsFlag other) fs → rest_text later es ≡ rest_text later fs
    → map told_of es ≡ map told_of fs
one_text revision other later [] [] h g e = refl
one_text revision other later [] (f ∷ fs) h g e =
    absurd (not_end later f fs (rest_text later []) e refl)
one_text revision other later (d ∷ es) [] h g e =
    absurd (not_end later d es (rest_text later []) (sym e) refl)
one_text revision other later (d ∷ es) (f ∷ fs) h g e =
    let one = All-head (IsFlag revision) d es h in
    let two = All-head (IsFlag other) f fs g in
    let left = d.1.definition ++ rest_text true es in
    let right = f.1.definition ++ rest_text true fs in
    let named : quoted d.0 ++ 58 ∷ left ≡ quoted f.0 ++ 58 ∷ right =
    append_cancel_left (comma_if later) (quoted d.0 ++ 58 ∷ left) (quoted f.0 ++ 58 ∷ right)
    (sym (text-first later d es one.definition) ∙ e ∙ text-first later f fs two.definition) in
    let valued : left ≡ right = ap (drop 1) (same_behind d.0 f.0 (58 ∷ left) (58 ∷ right) named) in
    let key = same_name d.0 f.0 (58 ∷ left) (58 ∷ right) one.utf8 two.utf8 named in
    let t = d.1.definition in
    let u = f.1.definition in
    let x = rest_text true es in
    let y = rest_text true fs in
    let text = same_text t u x y one.definition two.definition valued in
    let others = same_rest t u x y one.definition two.definition valued in
    ap₂ (λ (t : List ℕ × List ℕ) ts. t ∷ ts) (ap₂ (λ k t. (k, t)) key text)
    (one_text revision other true es fs (All-tail (IsFlag revision) d es h)
    (All-tail (IsFlag other) f fs g) others)

-- sets of one document
pub told_alike : (a b : State) → IsLawful a → IsLawful b → document a.flags ≡ document b.flags
    → told a.flags ≡ told b.flags
told_alike a b lawful other same =
    let es = fin.entries a.flags in
    let fs = fin.entries b.flags in
    let whole = sym (document-rest a.flags) ∙ same ∙ document-rest b.flags in
    one_text a.revision b.revision false es fs lawful.flags other.flags
    (append_cancel_left Head (rest_text false es) (rest_text false fs) whole)
