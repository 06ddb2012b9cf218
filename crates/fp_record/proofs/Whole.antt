-- Reading the whole input, and reading it once.
use Rattle.std.proofs.Common.{◌≡◌, ℕ, ◌-◌, true, eqb, cond, List, [], ◌++◌, length, drop, Result, Ok, Err, refl, sym}
use Rattle.std.proofs.Common.{ap, subst, ◌∙◌, arith, ◌⊎◌, inl, inr}
use Rattle.std.specs.Prelude.{IfOk}
use Rattle.std.proofs.lemmas.Bool.{eqb-true}
use Rattle.std.proofs.lemmas.List.{append-nil, length-drop, drop_all}
use Rattle.fp_record.specs.declared.fault.RecordFault.{RecordFault}
use Rattle.fp_record.specs.declared.fault.RecordFault.TheVariants as fault
use Rattle.fp_base.specs.Answer.{Gives}
use Rattle.fp_record.specs.Fields.{Tells}
use Rattle.fp_record.specs.Reading.{whole}
use Rattle.fp_record.proofs.Places.{bind_ok, met, ok_is, From, Takes}

pub whole_ok : {A : Type 0} (bytes : List ℕ) (read : Result (A × ℕ) ℕ) (v : A) → whole bytes read ≡ Ok v → read ≡ Ok (v, length bytes)
whole_ok {A = A} bytes read v e =
    let b = bind_ok read (λ found. cond (eqb found.1 (length bytes)) (Ok found.0) (Err found.1)) v e in
    let m = met (eqb b.0.1 (length bytes)) b.0.1 (Ok b.0.0) v b.2 in
    let is : b.0.0 ≡ v = ok_is b.0.0 v m.1 in
    let end : b.0.1 ≡ length bytes = eqb-true b.0.1 (length bytes) m.0 in
    let Reads : A × ℕ → Type 0 = λ x. read ≡ Ok x in
    subst (λ (n : ℕ). Reads (v, n)) end (subst (λ (a : A). Reads (a, b.0.1)) is b.1)

pub whole_again : {A : Type 0} (bytes : List ℕ) (read : Result (A × ℕ) ℕ) (v : A) (next : ℕ) → read ≡ Ok (v, next) →
    From bytes next [] → whole bytes read ≡ Ok v
whole_again bytes read v next e h =
    let within = h.within in
    let none : length bytes - next ≡ 0 = sym (length-drop next bytes) ∙ ap length h.is in
    let end : eqb next (length bytes) ≡ true = grind arith in
    rw (e, end) refl

-- the text that stands from the start to the end is all
pub Takes-all : (bytes text : List ℕ) → Takes bytes 0 text (length bytes) → bytes ≡ text
Takes-all bytes text h = h.parts ∙ ap (λ (t : List ℕ). text ++ t) (drop_all (length bytes) bytes (omega arith)) ∙ append-nil text

-- bytes are read in one way
pub one_reading : {A : Type 0} (bytes : List ℕ) (read : Result (A × ℕ) ℕ) (v w : A) (m n : ℕ) (x y : List ℕ) →
    read ≡ Ok (v, m) → read ≡ Ok (w, n) → From bytes m x → From bytes n y → (v ≡ w) × (x ≡ y)
one_reading {A = A} bytes read v w m n x y a b p q =
    let first : A × ℕ = (v, m) in
    let second : A × ℕ = (w, n) in
    let same = ok_is first second (sym a ∙ b) in
    (ap (λ (z : A × ℕ). z.0) same, sym p.is ∙ ap (λ (z : A × ℕ). drop z.1 bytes) same ∙ q.is)

-- what a decoder answers where the bytes are read so
pub is_found : {A : Type 0} (r : Result A RecordFault) (read : Result A ℕ) (v : A) → Gives (λ a. a) Tells r read →
    read ≡ Ok v → (r ≡ Ok v) ⊎ (r ≡ Err fault.Memory)
is_found {A = A} (Ok a) read v given e = inl (ap (λ (x : A). Ok x) (ok_is a v (sym given ∙ e)))
is_found (Err fault.Memory) read v given e = inr refl
is_found (Err (fault.BadRecord at)) read v given e = absurd cc

-- what holds of all that is read so
pub is_read : {A : Type 0} (P : A → Type 0) (r : Result A RecordFault) (read : Result A ℕ) →
    Gives (λ a. a) Tells r read → ((v : A) → read ≡ Ok v → P v) → IfOk r P
is_read P (Ok a) read given all = all a given
is_read P (Err e) read given all = tt
