-- What a write leaves at each place.
use Rattle.std.specs.Prelude.{◌≡◌, ◌≤◌, ◌<◌, ◌+◌, ◌-◌, ℕ, max, List, ◌++◌, length, take, drop}
use Rattle.std.specs.Prelude.{replicate, slice_index}
use Rattle.std.proofs.lemmas.Grind.{common_steps}
use Rattle.std.proofs.lemmas.List.{get_or-append_right, get_or-drop}
use Rattle.std.proofs.Common.{ap, ◌∙◌, arith}
use Rattle.fp_disk.specs.Outcomes.{with_bytes_at}

pub length-overwritten : (old more : List ℕ) (at : ℕ) →
    length (with_bytes_at old at more) ≡ max (length old) (at + length more)
length-overwritten old more at = grind (arith, common_steps)

pub overwritten_before : (old more : List ℕ) (at k : ℕ) → k < at → k < length old →
    slice_index (with_bytes_at old at more) k ≡ slice_index old k
overwritten_before old more at k lt in_old = grind (arith, common_steps)

pub overwritten_behind : (old more : List ℕ) (at k : ℕ) → at + length more ≤ k →
    slice_index (with_bytes_at old at more) k ≡ slice_index old k
overwritten_behind old more at k le =
    let front = take at (old ++ replicate (at - length old) 0) ++ more in
    let len : length front ≡ at + length more = grind (arith, common_steps) in
    let there : (at + length more) + (k - (at + length more)) ≡ k = omega arith in
    get_or-append_right front (drop (at + length more) old) (at + length more) k 0 len le
    ∙ (get_or-drop (at + length more) old (k - (at + length more)) 0
    ∙ ap (λ (j : ℕ). slice_index old j) there)
