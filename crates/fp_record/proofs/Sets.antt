-- The image of a set is in order.
use Rattle.std.proofs.Common.{◌≡◌, ℕ, suc, ◌<◌, ◌≤◌, List, [], ◌∷◌, All, subst, arith}
use Rattle.std.specs.List.{AllByRecursion}
use Rattle.std.specs.FinMap as fin
use Rattle.fp_definition.specs.declared.key.FlagKey.{FlagKey}
use Rattle.fp_documents.specs.Entries.{entries_of}
use Rattle.fp_edit.specs.Flags.{Flags, IsChangedBy}
use Rattle.fp_documents.specs.declared.flags.Flag.{Flag}
use Rattle.fp_documents.proofs.Maps.{sorted_keys}
use Rattle.fp_record.specs.WellFormed.{IsOrdered}
use Rattle.fp_edit.specs.declared.flag_set.TheConstants.{MOST_FLAGS}

changed_all : (revision : ℕ) (es : List (FlagKey × Flag)) → All (λ e. IsChangedBy revision e.1) es →
    AllByRecursion (λ f. 0 < f.1.changed) (entries_of es)
changed_all revision [] h = tt
changed_all revision (e ∷ es) h =
    let here : IsChangedBy revision e.1 = h 0 e (omega arith) in
    (here.0, changed_all revision es (λ k d lt. h (suc k) d (omega (arith, lt))))

pub set_in_order : (revision : ℕ) (flags : Flags) (es : List (FlagKey × Flag)) → fin.len flags ≤ MOST_FLAGS →
    entries_of es ≡ fin.entries flags → All (λ e. IsChangedBy revision e.1) es → IsOrdered (fin.entries flags)
set_in_order revision flags es few same changed = record {
  few = subst (λ (n : ℕ). n ≤ MOST_FLAGS) (fin.len-entries flags) few;
  ascending = sorted_keys (fin.entries flags) (fin.entries_sorted flags);
  changed = subst (λ (all : List (List ℕ × Flag)). AllByRecursion (λ f. 0 < f.1.changed) all) same (changed_all revision es changed);
}
