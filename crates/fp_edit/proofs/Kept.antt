-- What stays true of a set, through an insert and through a change.
use Rattle.std.proofs.Common.{◌≡◌, ℕ, ◌+◌, ◌<◌, ◌≤◌, ◌⊎◌, inl, inr, ⊎_elim, List, [], ◌∷◌, true, false, cond, refl, sym, arith}
use Rattle.std.proofs.lemmas.Bool.{and_parts, leb-true, ltb-true}
use Rattle.std.specs.FinMap as fin
use Rattle.fp_base.specs.Bytes.{bytes_cmp}
use Rattle.fp_edit.specs.Admits.{flags_after, parts_after, has_revision, has_room, is_within}
use Rattle.fp_edit.specs.Edits.{Change, parts}
use Rattle.fp_edit.specs.Flags.{Flags, State, IsChangedBy, IsTallied, size}
use Rattle.fp_edit.specs.Parts.{Part, put, delete, any_put}
use Rattle.fp_edit.specs.declared.edit.TheConstants.{REVISIONS_END}
use Rattle.fp_edit.specs.declared.flag_set.TheConstants.{MOST_FLAGS}
use Rattle.fp_documents.specs.declared.flags.Flag.{Flag}
use Rattle.fp_documents.specs.declared.flags.TheConstants.{IMAGE_HEAD}
use Rattle.fp_edit.proofs.Changed.{changed-empty, changed-insert, changed-later, changed-parts}
use Rattle.fp_documents.proofs.Sizes.{size-empty, size-remove, count-remove}

pub kept-insert : (m : Flags) (r s limit kept : ℕ) (k : List ℕ) (f : Flag) → IsTallied m r limit kept → r ≤ s →
    s < REVISIONS_END → IsChangedBy s f → is_within (fin.insert m k f) limit ≡ true
    → IsTallied (fin.insert m k f) s limit (size (fin.insert m k f))
kept-insert m r s limit kept k f was later some here room = record {
  size = refl;
  few = leb-true _ _ (and_parts _ _ room).0;
  numbered = some;
  within = λ _. leb-true _ _ (and_parts _ _ room).1;
  changed = changed-insert s m k f (changed-later r s m later was.changed) here;
}

-- parts that put no flag only take away
none-put : (r : ℕ) (m : Flags) (ps : List Part) → any_put ps ≡ false
    → (size (parts_after r m ps) ≤ size m) × (fin.len (parts_after r m ps) ≤ fin.len m)
none-put r m [] h = (omega arith, omega arith)
none-put r m (put k text ∷ ps) h = absurd cc
none-put r m (delete k ∷ ps) h =
    let rest = none-put r (fin.remove m k) ps h in
    let bytes = size-remove m k in
    let count = count-remove m k in (omega arith, omega arith)

-- a change that there is room for leads to no larger set than the limits allow
module _ (s : State) (c : Change) (room : has_room s c ≡ true) where
  -- it is within them, or it puts no flag and is no larger than it was
  within_or_less : (is_within (flags_after s c) s.limit ≡ true) ⊎ (size (flags_after s c) ≤ size s.flags) ×
      (fin.len (flags_after s c) ≤ fin.len s.flags)
  within_or_less =
      elim (any_put (parts c)) as (λ b. any_put (parts c) ≡ b →
      cond b (is_within (flags_after s c) s.limit) true ≡ true →
      (is_within (flags_after s c) s.limit ≡ true) ⊎ (size (flags_after s c) ≤ size s.flags) ×
      (fin.len (flags_after s c) ≤ fin.len s.flags)) [
        | true ↦ λ e r. inl r
        | false ↦ λ e r. inr (none-put (s.revision + 1) s.flags (parts c) e)
      ] refl room

  -- what bounds its size and its limit bounds it then
  pub size_room : (n : ℕ) → size s.flags ≤ n → s.limit ≤ n → size (flags_after s c) ≤ n
  size_room n small limited = ⊎_elim
      (λ fits. let within : size (flags_after s c) ≤ s.limit = leb-true _ _ (and_parts _ _ fits).1 in omega arith)
      (λ less. omega arith) within_or_less

  few_room : fin.len s.flags ≤ MOST_FLAGS → fin.len (flags_after s c) ≤ MOST_FLAGS
  few_room few = ⊎_elim (λ fits. leb-true _ _ (and_parts _ _ fits).0) (λ less. omega arith) within_or_less

  -- after a change that is accepted
  pub kept-after : (kept : ℕ) → IsTallied s.flags s.revision s.limit kept → has_revision s ≡ true
      → IsTallied (flags_after s c) (s.revision + 1) s.limit (size (flags_after s c))
  kept-after kept was more =
      let same = was.size in record {
        size = refl;
        few = few_room was.few;
        numbered = ltb-true _ _ more;
        within = λ h. let within = was.within h in size_room s.limit (omega arith) (omega arith);
        changed = changed-parts (s.revision + 1) s.flags (parts c) (omega arith)
            (changed-later s.revision (s.revision + 1) s.flags (omega arith) was.changed);
      }

pub kept-empty : (revision limit : ℕ) → revision < REVISIONS_END → IsTallied fin.empty revision limit IMAGE_HEAD
kept-empty revision limit some = record {
  size = sym size-empty;
  few = let none = fin.len-empty bytes_cmp Flag in omega (arith, none);
  numbered = some;
  within = λ h. h;
  changed = changed-empty revision;
}
