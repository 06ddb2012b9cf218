-- What equal data are.
use Rattle.std.proofs.Common.{◌≡◌, ◌↔◌, Bool, true, false, ◌||◌, refl, ap, subst, rules}
use Rattle.std.proofs.lemmas.Bool.Decides.{Decides-int_eq}
use Rattle.std.proofs.lemmas.Slice.Eq.{bytes_eq-Decides}
use Rattle.fp_operators.specs.Data.{Data, null, boolean, whole, text, list, object}
use Rattle.fp_operators.specs.Equality.{strict_equality, loose_equality, stands_for}
use Rattle.fp_operators.specs.Laws.{IsScalar}
use Rattle.fp_operators.proofs.Contained.{same_test}

-- scalars that pass are one
pub strict_same : (a b : Data) → strict_equality a b ≡ true → IsScalar a × (a ≡ b)
strict_same null null h = (search rules, refl)
strict_same (boolean true) (boolean true) h = (search rules, refl)
strict_same (boolean true) (boolean false) h = cc h
strict_same (boolean false) (boolean true) h = cc h
strict_same (boolean false) (boolean false) h = (search rules, refl)
strict_same (whole x) (whole y) h = (search rules, ap whole ((Decides-int_eq x y).0 h))
strict_same (text s) (text t) h = (search rules, ap text ((bytes_eq-Decides s t).0 h))
strict_same a b h = cc h

-- a scalar passes beside itself
pub strict_itself : (a : Data) → IsScalar a → strict_equality a a ≡ true
strict_itself null h = refl
strict_itself (boolean true) h = refl
strict_itself (boolean false) h = refl
strict_itself (whole x) h = (Decides-int_eq x x).1 refl
strict_itself (text s) h = (bytes_eq-Decides s s).1 refl
strict_itself (list ds) h = absurd h
strict_itself (object ms) h = absurd h

pub strict_sameness : (a b : Data) → (strict_equality a b ≡ true) ↔ (IsScalar a × (a ≡ b))
strict_sameness a b = (strict_same a b, λ h. subst (λ d. strict_equality a d ≡ true) h.1 (strict_itself a h.0))

pub strict_implies_loose : (a b : Data) → strict_equality a b ≡ true → loose_equality a b ≡ true
strict_implies_loose a b h = ap (λ t. t || stands_for a b || stands_for b a) h

-- one way and the other
strict_turned : (a b : Data) → strict_equality a b ≡ true → strict_equality b a ≡ true
strict_turned a b h =
    let same = strict_same a b h in subst (λ d. strict_equality d a ≡ true) same.1 (strict_itself a same.0)

strict_symmetric : (a b : Data) → strict_equality a b ≡ strict_equality b a
strict_symmetric a b = same_test _ _ (strict_turned a b) (strict_turned b a)

turned : (p q r s : Bool) → p ≡ q → p || r || s ≡ q || s || r
turned true q r s e = rw (← e) refl
turned false q true true e = rw (← e) refl
turned false q true false e = rw (← e) refl
turned false q false true e = rw (← e) refl
turned false q false false e = rw (← e) refl

pub loose_symmetric : (a b : Data) → loose_equality a b ≡ loose_equality b a
loose_symmetric a b = turned _ _ (stands_for a b) (stands_for b a) (strict_symmetric a b)
