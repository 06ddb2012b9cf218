-- What is accepted because the numbers behind it are no more than others that the limits let pass.
use Rattle.std.proofs.Common.{◌≡◌, ◌<◌, ◌≤◌, ◌+◌, ◌^◌, ℕ, suc, Bool, true, false, List, [], ◌∷◌, map, None, refl}
use Rattle.std.proofs.Common.{ap, ◌∙◌, arith, le-leb}
use Rattle.std.specs.Prelude.{if◌then◌else◌}
use Rattle.std.specs.FinMap as fin
use Rattle.std.specs.List.{AllByRecursion}
use Rattle.std.proofs.lemmas.Bool.{and_from}
use Rattle.fp_base.specs.Tests.{first_failed}
use Rattle.fp_edit.specs.Admits.{flags_after, has_revision, has_room, is_within, keys, next, refusal}
use Rattle.fp_edit.specs.Edits.{Change}
use Rattle.fp_edit.specs.Flags.{State, size}
use Rattle.fp_edit.specs.Following.{unconditional}
use Rattle.fp_pending.specs.Tallies.{Bounds, Tallies}
use Rattle.fp_edit.specs.Parts.{Part, delete, free, is_put, put}
use Rattle.fp_edit.proofs.Followed.{AreExpected, change-unconditional, passes}

roomy : (b c : Bool) → c ≡ true → (if b then c else true) ≡ true
roomy true c h = h
roomy false c h = refl

module _ {limit revision count bytes : ℕ} {s : State} where
  pub bounded : Tallies limit revision count bytes s → Bounds limit revision count bytes s
  bounded t = let count_is = t.count_is in let size_is = t.size_is in
      record { limit_is = t.limit_is; revision_is = t.revision_is; few = omega (arith, count_is); short = omega (arith, size_is) }

  pub passes_below : Bounds limit revision count bytes s → (c : Change) (n m : ℕ) →
      first_failed (keys s (unconditional c)) ≡ None → revision + 1 < 2 ^ 63
      → fin.len (flags_after s c) ≤ n → size (flags_after s c) ≤ m → n ≤ 4096 → m ≤ limit →
      (refusal s (unconditional c) ≡ None) × Bounds limit (revision + 1) n m (next s c)
  passes_below b c n m expected more few short most within =
      let limit_is = b.limit_is in
      let revision_is = b.revision_is in
      let room : is_within (flags_after s c) s.limit ≡ true =
      and_from _ _ (le-leb (fin.len (flags_after s c)) 4096 (omega (arith, few, most)))
      (le-leb (size (flags_after s c)) s.limit (omega (arith, short, within, limit_is))) in
      let has : has_revision s ≡ true = le-leb (suc (s.revision + 1)) (2 ^ 63) (omega (arith, more, revision_is)) in (
        passes s (unconditional c) expected
            (ap (has_room s) (change-unconditional c) ∙ roomy _ (is_within (flags_after s c) s.limit) room) has,
        record { limit_is = b.limit_is; revision_is = ap (λ (r : ℕ). r + 1) b.revision_is; few = few; short = short },
      )

-- parts that put flags find what they expect
pub puts_expected : (s : State) (ps : List Part) → AllByRecursion (λ (p : Part). is_put p ≡ true) ps → AreExpected s (map free ps)
puts_expected s [] h = tt
puts_expected s (put k text ∷ ps) h = (refl, puts_expected s ps h.1)
puts_expected s (delete k ∷ ps) h = absurd (cc (h.0))
