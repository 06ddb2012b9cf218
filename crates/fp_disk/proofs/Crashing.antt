-- What a crash leaves, by whatever choice, is an outcome.
use Rattle.std.proofs.Common.{◌≡◌, ◌≤◌, ◌<◌, ◌+◌, ◌-◌, ℕ, false, nat_le, nat_lt, ◌&&◌, List, [], ◌∷◌, length, take}
use Rattle.std.proofs.Common.{refl, arith, sym, ap, ◌∙◌, inl, inr, slice_index, slice_index_or, subst, Result, Ok, Err}
use Rattle.std.proofs.Common.{IfOk, if◌then◌else◌}
use Rattle.std.proofs.lemmas.Grind.{common_steps}
use Rattle.std.proofs.lemmas.Bool.{cases_lt}
use Rattle.std.proofs.lemmas.List.{take_more}
use Rattle.std.proofs.lemmas.Bool.Decides.{nat_tests}
use Rattle.fp_disk.specs.declared.call.Call.{Call}
use Rattle.fp_disk.specs.declared.call.Request.{Request}
use Rattle.fp_disk.specs.declared.call.Request.TheVariants.{Len, Read, Write, Sync}
use Rattle.fp_disk.specs.declared.choice.Fill.{Fill}
use Rattle.fp_disk.specs.Outcomes.{IsOutcome, AreBytes, Covers}
use Rattle.fp_disk.specs.Memory.{Memory, HoldsBytes, fresh, state, unsynced_of, ranges_of, reach_of, with_request, writes_after}
use Rattle.fp_disk.specs.Crash.{IsLeft, byte_after_writes, fill_of, byte_of_fill, reaches}
use Rattle.fp_disk.proofs.Keeping.{writes_after_more}

apart : (at n k : ℕ) → ((at ≤ k) × (k < at + n) → ⊥) → (nat_le at k && nat_lt k (at + n)) ≡ false
apart at n k out = elim (cases_lt k at) [
  | inl less ↦ grind (arith, nat_tests)
  | inr le ↦ elim (cases_lt k (at + n)) [
    | inl lt ↦ absurd (out (le, lt))
    | inr past ↦ grind (arith, nat_tests)
  ]
]

-- a place that no write reaches keeps its byte
laid_apart : (fills : List Fill) (rest : Fill) (ws : List (ℕ × List ℕ)) (k byte : ℕ) →
    (Covers (ranges_of ws) k → ⊥) → byte_after_writes fills rest ws k byte ≡ byte
laid_apart fills rest [] k byte out = refl
laid_apart fills rest (w ∷ ws) k byte out =
    let off : reaches w k ≡ false = apart w.0 (length w.1) k (λ inside. out (inl inside)) in
    rw off (laid_apart fills rest ws k byte (λ covers. out (inr covers)))

reach_least : (n : ℕ) (ws : List (ℕ × List ℕ)) → n ≤ reach_of n ws
reach_least n [] = omega arith
reach_least n (w ∷ ws) = let le = reach_least n ws in omega (arith, le)

left_outcome : (wanted : ℕ) (fills : List Fill) (rest : Fill) (m : Memory) (c : List ℕ) → AreBytes c →
    IsLeft wanted fills rest (state m) c → IsOutcome (unsynced_of (state m)) c
left_outcome wanted fills rest m c bytes left = let least = reach_least (length (state m).synced) (state m).writes in
    let n = left.length_is in record {
      bytes = bytes;
      no_shorter = omega (arith, n);
      no_longer = omega (arith, least, n);
      kept = λ k lt out. left.places k (omega (arith, n, lt)) ∙
          (laid_apart fills rest (state m).writes k (slice_index_or (state m).synced k (byte_of_fill rest k 0 0)) out ∙
          within (state m).synced k (byte_of_fill rest k 0 0) lt);
    }
  where
    within : (xs : List ℕ) (k d : ℕ) → k < length xs → slice_index_or xs k d ≡ slice_index xs k
    within xs k d lt = grind (arith, common_steps)

pub outcome_held : {E : Type 0} (wanted : ℕ) (fills : List Fill) (rest : Fill) (m : Memory) (bytes : List ℕ) →
    IsLeft wanted fills rest (state m) bytes → (result : Result Memory E) → IfOk result (λ d. d ≡ fresh bytes) →
    IfOk result (λ d. HoldsBytes d.first d.calls) → IfOk result (λ d. IsOutcome (unsynced_of (state m)) d.first)
outcome_held wanted fills rest m bytes left (Ok d) is holds = let first : d.first ≡ bytes = ap (λ (d : Memory). d.first) is in
    left_outcome wanted fills rest m d.first holds.at_first (subst (λ (c : List ℕ). IsLeft wanted fills rest (state m) c) (sym first) left)
outcome_held wanted fills rest m bytes left (Err e) is holds = tt

-- one call more

pub with_request-other : (ws : List (ℕ × List ℕ)) (r : Request) →
    ((at : ℕ) (bytes : List ℕ) → r ≡ Write at bytes → ⊥) → with_request ws r ≡ ws
with_request-other ws Len other = refl
with_request-other ws (Read at n) other = refl
with_request-other ws (Write at bytes) other = absurd (other at bytes refl)
with_request-other ws Sync other = refl

pub writes_after-take : (calls : List Call) (i : ℕ) (c : Call) → i < length calls → c ≡ slice_index_or calls i c →
    writes_after [] (take (i + 1) calls) ≡ with_request (writes_after [] (take i calls)) c.request
writes_after-take calls i c lt is = ap (λ (cs : List Call). writes_after [] cs) (take_more calls i c lt) ∙
    (writes_after_more [] (take i calls) (slice_index_or calls i c) ∙
    ap (λ (d : Call). with_request (writes_after [] (take i calls)) d.request) (sym is))

-- one write more, laid over what was left so far
pub laid_more : (fills : List Fill) (rest fill : Fill) (ws : List (ℕ × List ℕ)) (at number : ℕ)
    (bytes first before now : List ℕ) → number ≡ length ws → fill ≡ fill_of fills rest number →
    length before ≡ length first
    → ((k : ℕ) → k < length first → slice_index before k ≡ byte_after_writes fills rest ws k (slice_index first k))
    → ((k : ℕ) → k < length before →
    slice_index now k ≡ (if reaches (at, bytes) k then byte_of_fill fill k (slice_index before k)
    (slice_index bytes (k - at)) else slice_index before k))
    → (k : ℕ) → k < length first → slice_index now k ≡ byte_after_writes fills rest ((at, bytes) ∷ ws) k (slice_index first k)
laid_more fills rest fill ws at number bytes first before now is chosen len so_far one k lt =
    let before_k : slice_index before k ≡ byte_after_writes fills rest ws k (slice_index first k) = so_far k lt in
    let fill_is : fill ≡ fill_of fills rest (length ws) = chosen ∙ ap (λ (n : ℕ). fill_of fills rest n) is in
    one k (omega (arith, len, lt)) ∙
    (ap (λ (old : ℕ). (if reaches (at, bytes) k then byte_of_fill fill k old (slice_index bytes (k - at)) else
    old)) before_k
    ∙ ap (λ (f : Fill). (if reaches (at, bytes) k then byte_of_fill f k
    (byte_after_writes fills rest ws k (slice_index first k)) (slice_index bytes (k - at)) else byte_after_writes
    fills rest ws k (slice_index first k))) fill_is)
