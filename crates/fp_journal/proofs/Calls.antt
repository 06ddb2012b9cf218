-- What a disk call keeps of a slot, over any disk.
use Rattle.std.proofs.Common.{◌≡◌, ◌⊎◌, ◌<◌, ◌+◌, inl, inr, ⊎_elim, ℕ, List, [], ◌∷◌, ◌++◌, length, arith, sym, subst}
use Rattle.fp_disk.specs.Outcomes.{Elapses, IsOutcome, LeavesOnly, PendingState, Written, all_synced, with_write}
use Rattle.fp_disk.specs.Moments.{leaves_call}
use Rattle.fp_journal.specs.Holds.{Holds, IsSynced, Apart}
use Rattle.fp_journal.specs.Chain.{Ends}
use Rattle.fp_journal.specs.Moments.{KeepsFirm}
use Rattle.fp_journal.specs.State.{EndsClosed, IsDurable, IsBetween}
use Rattle.fp_journal.proofs.Holds.{firm_outcome, firm_touched, firm_settled}
use Rattle.fp_journal.proofs.Gates.{quiet_outcome, quiet_touched, between_opened, between_outcome, gate_written}
use Rattle.fp_gate.specs.declared.gate.TheConstants.{OPEN}

module _ {D : Type 0} (honest : D → Type 0) (bytes : D → List ℕ) (unsynced : D → PendingState) (moment : D → ℕ)
    (crash_states_since : D → ℕ → List ℕ → Type 0)
    (present : (d : D) → honest d → IsOutcome (unsynced d) (bytes d))
    (only_now : (d : D) (c : List ℕ) → honest d → crash_states_since d (moment d) c → IsOutcome (unsynced d) c)
    (old new : D) (h : honest old) where
  abbrev pub Leaves : (List ℕ → Type 0) → Type 0
  Leaves P = LeavesOnly moment crash_states_since old new P

  abbrev pub Time : PendingState → Type 0
  Time u = Elapses (moment old) (moment new) (crash_states_since old) (crash_states_since new) (IsOutcome u)

  pub goes : (u : PendingState) (P : List ℕ → Type 0) → Time u → ((c : List ℕ) → IsOutcome (unsynced old) c → P c) →
      ((c : List ℕ) → IsOutcome u c → P c) → Leaves P
  goes u P time before after = leaves_call moment crash_states_since old new (IsOutcome (unsynced old)) (IsOutcome u)
      P time (λ c left. only_now old c h left) before after

  -- ---- firm text that the call doesn't reach
  pub frame_write : (from n : ℕ) (Out : ℕ → ℕ → Type 0) → ((at m : ℕ) → Out at m → Apart from n at m) →
      Time (with_write (unsynced old) from n) →
      (unsynced new ≡ unsynced old) ⊎ (unsynced new ≡ with_write (unsynced old) from n)
      → KeepsFirm moment crash_states_since unsynced old new Out
  frame_write from n Out apart time is at t out f =
      let g = firm_touched (unsynced old) at from n t (apart at (length t) out) f in (
        ⊎_elim (λ same. subst (λ (u : PendingState). IsSynced u at t) (sym same) f)
            (λ touch. subst (λ (u : PendingState). IsSynced u at t) (sym touch) g) is,
        goes (with_write (unsynced old) from n) (λ c. Holds c at t) time
            (λ c o. firm_outcome (unsynced old) at t c f o)
            (λ c o. firm_outcome (with_write (unsynced old) from n) at t c g o),
      )

  pub frame_sync : (Out : ℕ → ℕ → Type 0) → Time (unsynced old) →
      (unsynced new ≡ unsynced old) ⊎ (unsynced new ≡ all_synced (bytes old)) →
      KeepsFirm moment crash_states_since unsynced old new Out
  frame_sync Out time is at t out f =
      let all : (c : List ℕ) → IsOutcome (unsynced old) c → Holds c at t = λ c o. firm_outcome (unsynced old) at t c f o in (
        ⊎_elim (λ same. subst (λ (u : PendingState). IsSynced u at t) (sym same) f)
            (λ sure. subst (λ (u : PendingState). IsSynced u at t) (sym sure)
            (firm_settled (bytes old) at t (all (bytes old) (present old h)))) is,
        goes (unsynced old) (λ c. Holds c at t) time all all,
      )

  -- ---- the slot
  module _ (start stop : ℕ) (text more next : List ℕ) (is_next : next ≡ text ++ OPEN ∷ more) where
    abbrev pub Before : List ℕ → Type 0
    Before c = Ends start stop text c

    abbrev pub Either : List ℕ → Type 0
    Either c = Ends start stop text c ⊎ Ends start stop next c

    abbrev Broken : Type 0
    Broken = EndsClosed start stop text (unsynced new) ⊎ IsBetween start stop text more (unsynced new)

    -- the body's write: n bytes from this place on, behind the gate
    module _ (quiet : EndsClosed start stop text (unsynced old)) (at n : ℕ) (behind : start + length text < at) where
      abbrev Tried : PendingState
      Tried = with_write (unsynced old) at n

      tried : EndsClosed start stop text Tried
      tried = quiet_touched start stop text (unsynced old) at n (inr (omega (arith, behind))) quiet

      pub stage_quiet : unsynced new ≡ Tried → EndsClosed start stop text (unsynced new)
      stage_quiet is = subst (λ (u : PendingState). EndsClosed start stop text u) (sym is) tried

      pub stage_leaves : Time Tried → Leaves Before
      stage_leaves time = goes Tried Before time (λ c o. quiet_outcome start stop text (unsynced old) c quiet o)
          (λ c o. quiet_outcome start stop text Tried c tried o)

      pub stage_failed : (unsynced new ≡ unsynced old) ⊎ (unsynced new ≡ Tried) → EndsClosed start stop text (unsynced new)
      stage_failed (inl same) = subst (λ (u : PendingState). EndsClosed start stop text u) (sym same) quiet
      stage_failed (inr is) = stage_quiet is

    -- the gate's byte
    either : (u : PendingState) (c : List ℕ) → IsBetween start stop text more u → IsOutcome u c → Either c
    either u c i o = subst (λ (t : List ℕ). Ends start stop text c ⊎ Ends start stop t c) (sym is_next)
        (between_outcome start stop text more u c i o)

    module _ (at : EndsClosed start stop text (unsynced old) × IsDurable start stop text more (unsynced old))
        (place : ℕ) (is : place ≡ start + length text) where
      abbrev Opens : PendingState
      Opens = with_write (unsynced old) place 1

      opens : IsBetween start stop text more Opens
      opens = subst (λ (k : ℕ). IsBetween start stop text more (with_write (unsynced old) k 1)) (sym is)
          (between_opened start stop text more (unsynced old) at.0 at.1)

      pub gate_leaves : Time Opens → Leaves Either
      gate_leaves time = goes Opens Either time (λ c o. inl (quiet_outcome start stop text (unsynced old) c at.0 o))
          (λ c o. either Opens c opens o)

      pub gate_failed : (unsynced new ≡ unsynced old) ⊎ (unsynced new ≡ Opens) → Broken
      gate_failed (inl same) = inl (subst (λ (u : PendingState). EndsClosed start stop text u) (sym same) at.0)
      gate_failed (inr touch) = inr (subst (λ (u : PendingState). IsBetween start stop text more u) (sym touch) opens)

      pub gate_open : Written (bytes old) place (OPEN ∷ []) (bytes new) → unsynced new ≡ Opens →
          Ends start stop next (bytes new) × IsBetween start stop text more (unsynced new)
      gate_open w touch = (
        subst (λ (t : List ℕ). Ends start stop t (bytes new)) (sym is_next)
            (gate_written start stop text more (unsynced old) (bytes old) (bytes new) at.0 at.1 (present old h)
            (subst (λ (k : ℕ). Written (bytes old) k (OPEN ∷ []) (bytes new)) is w)),
        subst (λ (u : PendingState). IsBetween start stop text more u) (sym touch) opens,
      )
