-- Stacks: lists of which the first item is the one put last.
use Rattle.std.specs.Prelude.{ℕ, zero, suc, List, [], ◌∷◌}

-- a stack, with the items put onto it one after the other
abbrev pub onto : {A : Type 0} → List A → List A → List A
onto [] s = s
onto (x ∷ xs) s = onto xs (x ∷ s)

-- so many items off a stack, in the order in which they were put, before others; and what is left
abbrev pub off : {A : Type 0} → ℕ → List A → List A → List A × List A
off zero s others = (others, s)
off (suc n) [] others = (others, [])
off (suc n) (x ∷ s) others = off n s (x ∷ others)
