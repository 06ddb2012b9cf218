-- Which edits have a place in a slot.
use Rattle.std.proofs.Common.{◌<◌, ℕ, zero, suc, List, [], ◌∷◌, length, arith, slice_index_or}
use Rattle.std.specs.List.{AllByRecursion}
use Rattle.fp_edit.specs.Following.{change_of, changes_of}
use Rattle.fp_edit.specs.declared.edit.Edit.{Edit}
use Rattle.fp_recovery.specs.Stands.{IsAllowed}

-- where all have, each has
pub allowed_at : (version : ℕ) (edits : List Edit) (i : ℕ) (e : Edit) → i < length edits →
    AllByRecursion (IsAllowed version) (changes_of edits) → IsAllowed version (change_of (slice_index_or edits i e))
allowed_at version [] i e lt all = absurd (omega (arith, lt))
allowed_at version (x ∷ xs) zero e lt all = all.0
allowed_at version (x ∷ xs) (suc i) e lt all = allowed_at version xs i e (omega (arith, lt)) all.1
