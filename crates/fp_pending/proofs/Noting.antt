-- What flags take behind edits, noted by their keys.
use Rattle.std.proofs.Common.{◌≡◌, ℕ, Bool, true, false, List, Option, Some, cond, is_eq, refl, sym, ap, ◌∙◌}
use Rattle.std.specs.Prelude.{bytes_eq, unwrap_or}
use Rattle.std.specs.Borrow.{Bor}
use Rattle.std.specs.BTreeMap.{BTreeMap}
use Rattle.std.specs.Cmp.{eq_by_cmp_equiv}
use Rattle.std.specs.Cmp.Lexicographic.{texts_ties}
use Rattle.std.specs.FinMap as fin
use Rattle.std.proofs.lemmas.Cmp.{nat_list_cmp_total}
use Rattle.std.proofs.lemmas.Slice.Eq.{bytes_eq-Decides}
use Rattle.fp_base.specs.Bytes.{bytes_cmp}
use Rattle.fp_edit.specs.Admits.{part_after}
use Rattle.fp_edit.specs.Flags.{Flags, cost_found}
use Rattle.fp_edit.specs.Lent.{left_at}
use Rattle.fp_pending.specs.Noted.{AreNoted, noted_at}
use Rattle.fp_edit.specs.Parts.{Part, part_key}
use Rattle.fp_edit.proofs.Parts.{apart, get-other, get-own}

abbrev Notes : Type 0
Notes = BTreeMap (Bor (List ℕ)) ℕ

pub chosen : (b : Bool) (cost before : ℕ) (o : Option ℕ) → unwrap_or (cond b (Some cost) o) before ≡ cond b cost (unwrap_or o before)
chosen true cost before o = refl
chosen false cost before o = refl

pub same_key : (own k : List ℕ) → is_eq (bytes_cmp own k) ≡ bytes_eq k own
same_key own k = (eq_by_cmp_equiv nat_list_cmp_total).symm own k ∙ sym (texts_ties k own)

-- a key's cost is noted
abbrev pub Notes-one : Notes → Notes → List ℕ → ℕ → Type 0
Notes-one m n key cost = (k : List ℕ) (before : ℕ) → noted_at n k before ≡ cond (bytes_eq k key) cost (noted_at m k before)

module _ (m n : Notes) (r : ℕ) (before after : Flags) (p : Part) (cost : ℕ)
    (is : cost ≡ cost_found (part_key p) (left_at r p)) (was : AreNoted m before after) where
  noted-at : (k : List ℕ) (b : Bool) → bytes_eq k (part_key p) ≡ b →
      cond b cost (noted_at m k (cost_found k (fin.get before k))) ≡ cost_found k (fin.get (part_after r after p) k)
  noted-at k true h =
      let same : k ≡ part_key p = (bytes_eq-Decides k (part_key p)).0 h in
      is ∙ ap (λ q. cost_found q (left_at r p)) (sym same) ∙ ap (cost_found k) (sym (get-own r after p k same))
  noted-at k false h = was k ∙ ap (cost_found k) (sym (get-other r after p k (apart k (part_key p) h)))

  -- where that is what a part leaves there
  pub noted-part : Notes-one m n (part_key p) cost → AreNoted n before (part_after r after p)
  noted-part more k = more k (cost_found k (fin.get before k)) ∙ noted-at k (bytes_eq k (part_key p)) refl
