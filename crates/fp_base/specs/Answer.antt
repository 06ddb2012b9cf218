-- What a call answers, beside what a definition says.
--
-- A crate tells what its faults mean by a relation `Tells`: of a fault that was answered, the fault
-- of the definition that it stands for has a property. Want of memory stands for none, and so tells
-- nothing.
use Rattle.std.specs.Prelude.{◌≡◌, Option, Some, Result, Ok, Err}

-- the answer, as it is seen, is an outcome of this kind
abbrev pub Answers : {A B E F : Type 0} → (A → B) → (E → (F → Type 0) → Type 0) → Result A E
    → (Result B F → Type 0) → Type 0
Answers seen Tells (Ok a) Has = Has (Ok (seen a))
Answers seen Tells (Err e) Has = Tells e (λ f. Has (Err f))

-- the answer is what a definition says, or memory ran out
abbrev pub Gives : {A B E F : Type 0} → (A → B) → (E → (F → Type 0) → Type 0) → Result A E
    → Result B F
    → Type 0
Gives seen Tells answer said = Answers seen Tells answer (λ outcome. said ≡ outcome)

-- the fault is the first that there is, or memory ran out
abbrev pub IsFirst : {E F : Type 0} → (E → (F → Type 0) → Type 0) → Option F → E → Type 0
IsFirst Tells first e = Tells e (λ f. first ≡ Some f)
