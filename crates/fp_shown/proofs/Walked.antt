-- Flags of a set, looked at one after another.
use Rattle.std.proofs.Common.{◌≡◌, ◌≤◌, ◌<◌, ℕ, List, [], ◌∷◌, length, true, subst, arith}
use Rattle.std.specs.Prelude.{All}
use Rattle.std.specs.FinMap as map
use Rattle.std.specs.Str.{IsUtf8}
use Rattle.std.proofs.lemmas.Bool.{and_from, le-leb}
use Rattle.std.proofs.lemmas.List.Elements.{All-cons, All-head, All-nil, All-tail}
use Rattle.fp_definition.specs.Key.{is_key, key_bytes}
use Rattle.fp_definition.specs.Valid.{is_definition_text}
use Rattle.fp_definition.specs.declared.key.FlagKey.{FlagKey}
use Rattle.fp_documents.specs.Entries.{entries_of, entry_of}
use Rattle.fp_documents.specs.declared.flags.Flag.{Flag}
use Rattle.fp_edit.specs.Flags.{IsChangedBy, State}
use Rattle.fp_edit.specs.Numbers.{MOST_FLAGS, REVISIONS_END}
use Rattle.fp_shown.specs.Sets.{IsFlag, IsLawful}

key_is : (k : FlagKey) → is_key (key_bytes k) ≡ true
key_is k =
    let filled = k.filled in
    let short = k.short in
    let some : 1 ≤ length (key_bytes k) = omega (arith, filled) in
    and_from _ _ (le-leb 1 (length (key_bytes k)) some) (le-leb (length (key_bytes k)) 256 short)

-- where some flags decide for all, those behind the first do, which was looked at
pub decided : (revision : ℕ) (all : List (List ℕ × Flag)) (es rest : List (FlagKey × Flag))
    (k : FlagKey) (f : Flag) → es ≡ (k, f) ∷ rest
    → (All (IsFlag revision) (entries_of es) → All (IsFlag revision) all)
    → All (λ e. IsChangedBy revision e.1) es
    → IsUtf8 (key_bytes k) → is_definition_text f.definition ≡ true
    → All (IsFlag revision) (entries_of rest) → All (IsFlag revision) all
decided revision all es rest k f is decide changed utf8 text others =
    let P : FlagKey × Flag → Type 0 = λ e. IsChangedBy revision e.1 in
    let here = All-head P (k, f) rest (subst (All P) is changed) in
    let one : IsFlag revision (entry_of (k, f)) =
    record { long = key_is k; utf8 = utf8; definition = text; changed = here } in
    subst (λ fs. All (IsFlag revision) (entries_of fs) → All (IsFlag revision) all) is decide
    (All-cons (IsFlag revision) (entry_of (k, f)) (entries_of rest) one others)

pub changed_behind : (revision : ℕ) (es rest : List (FlagKey × Flag)) (k : FlagKey) (f : Flag)
    → es ≡ (k, f) ∷ rest → All (λ e. IsChangedBy revision e.1) es
    → All (λ e. IsChangedBy revision e.1) rest
changed_behind revision es rest k f is changed =
    let P : FlagKey × Flag → Type 0 = λ e. IsChangedBy revision e.1 in
    All-tail P (k, f) rest (subst (All P) is changed)

pub none_left : (s : State) (es : List (FlagKey × Flag)) → es ≡ []
    → (All (IsFlag s.revision) (entries_of es) → All (IsFlag s.revision) (map.entries s.flags))
    → s.revision < REVISIONS_END → map.len s.flags ≤ MOST_FLAGS → IsLawful s
none_left s es none decide numbered few = record {
  numbered = numbered;
  few = few;
  flags = subst (λ fs. All (IsFlag s.revision) (entries_of fs)
      → All (IsFlag s.revision) (map.entries s.flags)) none decide (All-nil (IsFlag s.revision));
}
