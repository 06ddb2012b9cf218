-- What a writer appends and a reader consumes, where the bytes are known.
use Rattle.std.proofs.Common.{◌≡◌, ℕ, List, [], ◌++◌, Option, Some, None, IfSome, refl, sym, ap, subst, ◌∙◌, append_assoc, append-nil}
use Rattle.std.specs.Io.KnownBytes.{Appends, Consumes}

-- a writer that is left alone
pub Appends-nil : (a : Option (List ℕ)) → Appends a a []
Appends-nil None = tt
Appends-nil (Some xs) = sym (append-nil xs)

-- one write after another
pub Appends-more : (a b c : Option (List ℕ)) (xs ys : List ℕ) → Appends a b xs → Appends b c ys → Appends a c (xs ++ ys)
Appends-more None b c xs ys p q = tt
Appends-more (Some a) None c xs ys p q = absurd p
Appends-more (Some a) (Some b) None xs ys p q = absurd q
Appends-more (Some a) (Some b) (Some c) xs ys p q = q ∙ ap (λ l. l ++ ys) p ∙ append_assoc a xs ys

-- a reader whose bytes are known has what it gave in front of what is left
pub Consumes-some : (o n : Option (List ℕ)) (rest bs : List ℕ) → o ≡ Some rest → Consumes o n bs → (ys : List ℕ) ×
    (n ≡ Some ys) × (rest ≡ bs ++ ys)
Consumes-some o n rest bs e h = consumed n (subst (λ p. Consumes p n bs) e h)
  where
    consumed : (n : Option (List ℕ)) → Consumes (Some rest) n bs → (ys : List ℕ) × (n ≡ Some ys) × (rest ≡ bs ++ ys)
    consumed None h = absurd h
    consumed (Some ys) h = (ys, refl, h)

-- a fact for each value that there may be
pub IfSome-each : {A : Type 0} (o : Option A) (P : A → Type 0) → ((x : A) → o ≡ Some x → P x) → IfSome o P
IfSome-each None P f = tt
IfSome-each (Some x) P f = f x refl
