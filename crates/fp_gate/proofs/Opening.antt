-- What the byte of a gate adds to what a crash may leave.
use Rattle.std.proofs.Common.{◌≡◌, ◌⊎◌, ◌≤◌, ◌<◌, ℕ, List, length, refl, arith, sym, subst, ◌∙◌, ap, inl, inr, slice_index, slice_set}
use Rattle.std.proofs.lemmas.Grind.{common_steps}
use Rattle.std.proofs.lemmas.Bool.{cases_eq}
use Rattle.std.proofs.lemmas.List.Elements.{All-get_or, All-set}
use Rattle.fp_disk.specs.declared.call.Progress.TheVariants.{Whole}
use Rattle.fp_disk.specs.MemoryLaws.{written_changes}
use Rattle.fp_disk.specs.Outcomes.{ChangesWithin, PendingState, IsOutcome, IsByte, Elapses, LeavesOnly, Written, with_write}
use Rattle.fp_disk.specs.Moments.{leaves_call, leaves_map}
use Rattle.fp_gate.specs.Gates.{Gated, IsShut, StaysAsRead, Guards, IsButFor}

-- an outcome after a write of one byte that was there is one from before, but for that byte
pub touched_but_for : (u : PendingState) (bytes : List ℕ) (at : ℕ) (c : List ℕ) → IsOutcome u bytes →
    at < length bytes → IsOutcome (with_write u at 1) c → IsButFor u at c
touched_but_for u bytes at c present there out = let was = slice_index bytes at in let len = length-put c at was in
    let a = out.no_shorter in let b = out.no_longer in let p = present.no_longer in record {
      before = slice_set c at was;
      outcome = record {
        bytes = All-set IsByte c at was (All-get_or IsByte bytes at 0 there present.bytes) out.bytes;
        no_shorter = omega (arith, len, a);
        no_longer = omega (arith, len, b, p, there);
        kept = λ k lt apart. elim (cases_eq k at) [
          | inl same ↦ same_place c at k was same (omega (arith, a, lt, same)) ∙
              (ap (λ (j : ℕ). slice_index bytes j) (sym same) ∙ present.kept k lt apart)
          | inr other ↦ other_place c at k was other ∙ out.kept k lt (λ covers. elim covers [
            | inl here ↦ other (let h = here.0 in let h' = here.1 in omega (arith, h, h'))
            | inr more ↦ apart more
          ])
        ];
      };
      same_length = sym len;
      elsewhere = λ k other. sym (other_place c at k was other);
    }
  where
    length-put : (xs : List ℕ) (at x : ℕ) → length (slice_set xs at x) ≡ length xs
    length-put xs at x = grind (arith, common_steps)

    same_place : (xs : List ℕ) (at k x : ℕ) → k ≡ at → at < length xs → slice_index (slice_set xs at x) k ≡ x
    same_place xs at k x same there = grind (arith, common_steps)

    other_place : (xs : List ℕ) (at k x : ℕ) → (k ≡ at → ⊥) → slice_index (slice_set xs at x) k ≡ slice_index xs k
    other_place xs at k x other = grind (arith, common_steps)

-- what a gate guards is there where it is open, since it is there in every outcome from before
pub but_for_guards : (g : Gated) (u : PendingState) (bytes c : List ℕ) → (g.at < g.from) ⊎ (g.to ≤ g.at) →
    IsShut u g.at → StaysAsRead u bytes g.from g.to → IsButFor u g.at c → Guards g bytes c
but_for_guards g u bytes c apart shut firm b = let same = b.same_length in let in_it = (shut b.before b.outcome).0 in (
  omega (arith, same, in_it),
  λ is_open k le lt. let f = firm b.before b.outcome k le lt in let f0 = f.0 in
      (omega (arith, same, f0), b.elsewhere k (elsewhere k le lt) ∙ f.1),
)
  where
    elsewhere : (k : ℕ) → g.from ≤ k → k < g.to → k ≡ g.at → ⊥
    elsewhere k le lt is = elim apart [
      | inl before ↦ omega (arith, is, le, before)
      | inr behind ↦ omega (arith, is, lt, behind)
    ]

module _ {D : Type 0} (honest : D → Type 0) (bytes : D → List ℕ) (unsynced : D → PendingState) (moment : D → ℕ)
    (crash_states_since : D → ℕ → List ℕ → Type 0)
    (present : (d : D) → honest d → IsOutcome (unsynced d) (bytes d))
    (only_now : (d : D) (c : List ℕ) → honest d → crash_states_since d (moment d) c → IsOutcome (unsynced d) c)
    (old new : D) (g : Gated) (h : honest old) (shut : IsShut (unsynced old) g.at)
    (time : Elapses (moment old) (moment new) (crash_states_since old) (crash_states_since new)
    (IsOutcome (with_write (unsynced old) g.at 1))) where
  pub each : LeavesOnly moment crash_states_since old new (IsButFor (unsynced old) g.at)
  each = leaves_call moment crash_states_since old new (IsOutcome (unsynced old))
      (IsOutcome (with_write (unsynced old) g.at 1)) (IsButFor (unsynced old) g.at) time
      (λ c left. only_now old c h left)
      (λ c out. record { before = c; outcome = out; same_length = refl; elsewhere = λ k other. refl })
      (λ c out. touched_but_for (unsynced old) (bytes old) g.at c (present old h) (shut (bytes old) (present old h)).0 out)

  pub guards : (g.at < g.from) ⊎ (g.to ≤ g.at) → StaysAsRead (unsynced old) (bytes old) g.from g.to →
      LeavesOnly moment crash_states_since old new (Guards g (bytes old))
  guards apart firm = leaves_map moment crash_states_since old new (IsButFor (unsynced old) g.at)
      (Guards g (bytes old)) (λ c b. but_for_guards g (unsynced old) (bytes old) c apart shut firm b) each

-- what a write changes
pub written_within : (old more new : List ℕ) (at : ℕ) → Written old at more new → ChangesWithin old at (length more) new
written_within old more new at is =
    subst (λ (b : List ℕ). ChangesWithin old at (length more) b) (sym is) (written_changes Whole old more at)
