-- One after the other: what is read so is spelled so, and what is spelled so is read.
use Rattle.std.proofs.Common.{◌≡◌, ℕ, zero, suc, ◌+◌, ◌-◌, ◌<◌, ◌≤◌, List, [], ◌∷◌, ◌++◌, length, Result, Ok, Err}
use Rattle.std.proofs.Common.{refl, ap, subst, ◌∙◌, append_assoc, arith}
use Rattle.std.specs.List.{flat_map}
use Rattle.std.proofs.lemmas.List.Concat.{flat_map-cons}
use Rattle.fp_base.specs.Steps.{◌>>=◌}
use Rattle.fp_record.specs.Reading.{many_from}
use Rattle.fp_record.proofs.Places.{bind_ok, ok_is, From, Takes, Takes-nothing, Takes-then}

-- each of these leads from a state to the next
abbrev pub Leads : {A S : Type 0} → (S → A → S → Type 0) → S → List A → S → Type 0
Leads Step s [] t = s ≡ t
Leads {S = S} Step s (a ∷ all) t = (u : S) × Step s a u × Leads Step u all t

pub many_take : {A S : Type 0} (bytes : List ℕ) (step : S → Result (A × S) ℕ) (place : S → ℕ) (spelling : A → List ℕ)
    (Step : S → A → S → Type 0)
    (one_takes : (s : S) (x : A × S) → step s ≡ Ok x → Takes bytes (place s) (spelling x.0) (place x.1) × Step s x.0 x.1)
    (n : ℕ) (s : S) (x : List A × S) → place s ≤ length bytes → many_from step n s ≡ Ok x →
    Takes bytes (place s) (flat_map spelling x.0) (place x.1) × (length x.0 ≡ n) × Leads Step s x.0 x.1
unfolding many_from
many_take {A = A} {S = S} bytes step place spelling Step one_takes zero s x within e =
    let start : List A × S = ([], s) in
    subst (λ (y : List A × S). Takes bytes (place s) (flat_map spelling y.0) (place y.1) × (length y.0 ≡ 0) ×
    Leads Step s y.0 y.1) (ok_is start x e)
    (Takes-nothing bytes (place s) within, refl, refl)
many_take {A = A} {S = S} bytes step place spelling Step one_takes (suc n) s x within e =
    let a = bind_ok (step s) (λ one. many_from step n one.1 >>= λ others. Ok (one.0 ∷ others.0, others.1)) x e in
    let one = a.0 in
    let b = bind_ok (many_from step n one.1) (λ others. Ok (one.0 ∷ others.0, others.1)) x a.2 in
    let others = b.0 in
    let first = one_takes s one a.1 in
    let second = many_take bytes step place spelling Step one_takes n one.1 others first.0.within b.1 in
    let both = Takes-then bytes (place s) (spelling one.0) (place one.1) (flat_map spelling others.0) (place others.1) first.0 second.0 in
    let made : List A × S = (one.0 ∷ others.0, others.1) in
    subst (λ (y : List A × S). Takes bytes (place s) (flat_map spelling y.0) (place y.1) × (length y.0 ≡ suc n) ×
    Leads Step s y.0 y.1) (ok_is made x b.2)
    (rw flat_map-cons both, ap suc second.1, (one.1, first.1, second.2))

pub many_again : {A S : Type 0} (bytes : List ℕ) (step : S → Result (A × S) ℕ) (place : S → ℕ)
    (spelling : A → List ℕ) (Can : S → List A → Type 0)
    (one_again : (s : S) (a : A) (all : List A) (rest : List ℕ) → Can s (a ∷ all) →
    From bytes (place s) (spelling a ++ rest) → (t : S) × (step s ≡ Ok (a, t)) × From bytes (place t) rest ×
    Can t all)
    (all : List A) (s : S) (rest : List ℕ) → Can s all → From bytes (place s) (flat_map spelling all ++ rest) →
    (t : S) × (many_from step (length all) s ≡ Ok (all, t)) × From bytes (place t) rest
unfolding many_from
many_again bytes step place spelling Can one_again [] s rest can h = (s, refl, h)
many_again bytes step place spelling Can one_again (a ∷ all) s rest can h =
    let regrouped : flat_map spelling (a ∷ all) ++ rest ≡ spelling a ++ (flat_map spelling all ++ rest) =
    ap (λ (t : List ℕ). t ++ rest) (flat_map-cons spelling a all) ∙
    append_assoc (spelling a) (flat_map spelling all) rest in
    let one = one_again s a all (flat_map spelling all ++ rest) can (subst (λ (t : List ℕ). From bytes (place s) t) regrouped h) in
    let others = many_again bytes step place spelling Can one_again all one.0 rest one.3 one.2 in
    (others.0, rw (one.1, others.1) (refl {a = Ok (a ∷ all, others.0)}), others.2)

-- one, and those behind it
pub many_next : {A S : Type 0} (step : S → Result (A × S) ℕ) (n : ℕ) (s : S) (one : A × S) (others : List A × S) →
    step s ≡ Ok one → many_from step n one.1 ≡ Ok others → many_from step (suc n) s ≡ Ok (one.0 ∷ others.0, others.1)
unfolding many_from
many_next step n s one others e h = rw (e, h) (refl {a = Ok (one.0 ∷ others.0, others.1)})

-- what was read before, and what is read then
abbrev behind : {A S : Type 0} → List A → Result (List A × S) ℕ → Result (List A × S) ℕ
behind front read = read >>= λ y. Ok (front ++ y.0, y.1)

behind_none : {A S : Type 0} (read : Result (List A × S) ℕ) → read ≡ behind [] read
behind_none (Ok y) = refl
behind_none (Err at) = refl

behind_one : {A S : Type 0} (a : A) (front : List A) (read : Result (List A × S) ℕ) →
    (behind front read >>= λ z. Ok (a ∷ z.0, z.1)) ≡ behind (a ∷ front) read
behind_one a front (Ok y) = refl
behind_one a front (Err at) = refl

next_is : {A S : Type 0} (step : S → Result (A × S) ℕ) (count : ℕ) (s : S) (one : A × S) (front : List A)
    (read : Result (List A × S) ℕ) → step s ≡ Ok one → many_from step count one.1 ≡ behind front read
    → many_from step (suc count) s ≡ behind (one.0 ∷ front) read
unfolding many_from
next_is step count s one front read e h = rw (e, h) (behind_one one.0 front read)

many_split : {A S : Type 0} (step : S → Result (A × S) ℕ) (n m count : ℕ) (s : S) (x : List A × S) → count ≡ n + m →
    many_from step n s ≡ Ok x → many_from step count s ≡ behind x.0 (many_from step m x.1)
unfolding many_from
many_split {A = A} {S = S} step zero m count s x all e =
    let start : List A × S = ([], s) in
    let same : count ≡ m = omega (arith, all) in
    rw same (subst (λ (z : List A × S). many_from step m s ≡ behind z.0 (many_from step m z.1)) (ok_is start x e)
    (behind_none (many_from step m s)))
many_split step (suc n) m zero s x all e = absurd (omega (arith, all))
many_split {A = A} {S = S} step (suc n) m (suc count) s x all e =
    let a = bind_ok (step s) (λ one. many_from step n one.1 >>= λ others. Ok (one.0 ∷ others.0, others.1)) x e in
    let b = bind_ok (many_from step n a.0.1) (λ others. Ok (a.0.0 ∷ others.0, others.1)) x a.2 in
    let made : List A × S = (a.0.0 ∷ b.0.0, b.0.1) in
    subst (λ (z : List A × S). many_from step (suc count) s ≡ behind z.0 (many_from step m z.1)) (ok_is made x b.2)
    (next_is step count s a.0 b.0.0 (many_from step m b.0.1) a.1 (many_split step n m count a.0.1 b.0 (omega (arith, all)) b.1))

-- one more behind those that were read
pub one_more : {A S : Type 0} (step : S → Result (A × S) ℕ) (n : ℕ) (s : S) (x : List A × S) (y : A × S) →
    many_from step n s ≡ Ok x → step x.1 ≡ Ok y → many_from step (n + 1) s ≡ Ok (x.0 ++ y.0 ∷ [], y.1)
unfolding many_from
one_more step n s x y e h = many_split step n 1 (n + 1) s x refl e ∙ rw h (refl {a = Ok (x.0 ++ y.0 ∷ [], y.1)})

-- where the one behind those that were read isn't there, no more are
pub many_stops : {A S : Type 0} (step : S → Result (A × S) ℕ) (n count : ℕ) (s : S) (x : List A × S) (at : ℕ) →
    n < count → many_from step n s ≡ Ok x → step x.1 ≡ Err at → many_from step count s ≡ Err at
unfolding many_from
many_stops step n count s x at lt e h = many_split step n (suc (count - suc n)) count s x (omega (arith, lt)) e ∙ rw h (refl {a = Err at})
