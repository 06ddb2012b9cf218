-- Courses are of any length.
use Rattle.std.proofs.Common.{List, [], ◌∷◌, ◌++◌, refl, subst}
use Rattle.fp_disk.specs.declared.disk.Disk.{Ghosts}
use Rattle.fp_committer.specs.Course.{Course, Passes}
use Rattle.fp_committer.specs.StoreHalf.{StoreHalfState}

module _ {D : Type 0} (disk : Ghosts D) where
  passes_then : (a b c : StoreHalfState D) (xs ys : List (StoreHalfState D)) → Passes disk a xs b →
      Passes disk b ys c → Passes disk a (xs ++ ys) c
  passes_then a b c [] ys h k = subst (λ (x : StoreHalfState D). Passes disk x ys c) h k
  passes_then a b c (x ∷ xs) ys h k = (h.0, passes_then x b c xs ys h.1 k)

  pub course_still : (a : StoreHalfState D) → Course disk a a
  course_still a = record { by = []; each = refl }

  pub course_then : (a b c : StoreHalfState D) → Course disk a b → Course disk b c → Course disk a c
  course_then a b c h k = record { by = h.by ++ k.by; each = passes_then a b c h.by k.by h.each k.each }
