-- The revisions that changed a set's flags, after an insert and after all parts of a change.
use Rattle.std.proofs.Common.{◌≡◌, ℕ, ◌≤◌, List, [], ◌∷◌, Option, Some, None, cond, Bool, true, false, unwrap_or}
use Rattle.std.proofs.Common.{is_some, sym, ap, subst, ◌∙◌, true≢false, arith}
use Rattle.std.specs.Ordering.{eq_by_cmp}
use Rattle.std.proofs.lemmas.Cmp.{nat_list_cmp_total}
use Rattle.std.specs.FinMap as fin
use Rattle.fp_base.specs.Bytes.{bytes_cmp}
use Rattle.fp_edit.specs.Admits.{parts_after}
use Rattle.fp_edit.specs.Flags.{Flags, IsChangedBy}
use Rattle.fp_edit.specs.Parts.{Part, put, delete}
use Rattle.fp_documents.specs.declared.flags.Flag.{Flag}

abbrev pub AreChangedBy : ℕ → Flags → Type 0
AreChangedBy r m = (k : List ℕ) (f : Flag) → fin.get m k ≡ Some f → IsChangedBy r f

pub after_insert : (b : Bool) (o : Option Flag) (r : ℕ) (v f : Flag) → (o ≡ Some f → IsChangedBy r f) → IsChangedBy r v →
    cond b (Some v) o ≡ Some f → IsChangedBy r f
after_insert true o r v f was now e = let same : v ≡ f = ap (λ x. unwrap_or x v) e in subst (IsChangedBy r) same now
after_insert false o r v f was now e = was e

after_remove : (b : Bool) (o : Option Flag) (r : ℕ) (f : Flag) → (o ≡ Some f → IsChangedBy r f) → cond b None o ≡ Some f → IsChangedBy r f
after_remove true o r f was e = absurd (true≢false (sym (ap is_some e)))
after_remove false o r f was e = was e

pub changed-insert : (r : ℕ) (m : Flags) (k : List ℕ) (v : Flag) → AreChangedBy r m → IsChangedBy r v → AreChangedBy r (fin.insert m k v)
changed-insert r m k v was now q f e =
    after_insert (eq_by_cmp bytes_cmp q k) (fin.get m q) r v f (was q f) now
    (sym (fin.get-insert nat_list_cmp_total m k v q) ∙ e)

changed-remove : (r : ℕ) (m : Flags) (k : List ℕ) → AreChangedBy r m → AreChangedBy r (fin.remove m k)
changed-remove r m k was q f e =
    after_remove (eq_by_cmp bytes_cmp q k) (fin.get m q) r f (was q f)
    (sym (fin.get-remove nat_list_cmp_total m k q) ∙ e)

-- at a later revision too
pub changed-later : (r s : ℕ) (m : Flags) → r ≤ s → AreChangedBy r m → AreChangedBy s m
changed-later r s m later was q f e = let h = was q f e in (h.0, omega arith)

-- after all parts of a change that makes this revision
pub changed-parts : (r : ℕ) (m : Flags) (ps : List Part) → 1 ≤ r → AreChangedBy r m → AreChangedBy r (parts_after r m ps)
changed-parts r m [] some was = was
changed-parts r m (put k text ∷ ps) some was =
    let v : Flag = record { definition = text; changed = r } in
    changed-parts r (fin.insert m k v) ps some (changed-insert r m k v was (some, omega arith))
changed-parts r m (delete k ∷ ps) some was = changed-parts r (fin.remove m k) ps some (changed-remove r m k was)

pub changed-empty : (r : ℕ) → AreChangedBy r fin.empty
changed-empty r q f e = absurd (true≢false (sym (ap is_some (sym (fin.get-empty bytes_cmp q) ∙ e))))
