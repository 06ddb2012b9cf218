-- What the calls of a disk add to what a crash may leave.
use Rattle.std.specs.Prelude.{ℕ, List}
use Rattle.std.proofs.Common.{inl, inr, ⊎_elim, arith}
use Rattle.fp_disk.specs.Outcomes.{Elapses, LeavesOnly}

module _ {D : Type 0} (moment : D → ℕ) (crash_states_since : D → ℕ → List ℕ → Type 0) where
  -- one call, where what may be left before it has P and so have the outcomes that it adds
  pub leaves_call : (old new : D) (now outcomes P : List ℕ → Type 0) →
      Elapses (moment old) (moment new) (crash_states_since old) (crash_states_since new) outcomes
      → ((c : List ℕ) → crash_states_since old (moment old) c → now c)
      → ((c : List ℕ) → now c → P c) → ((c : List ℕ) → outcomes c → P c)
      → LeavesOnly moment crash_states_since old new P
  leaves_call old new now outcomes P time only before after = record {
    later = time.later;
    each = λ c left. ⊎_elim (λ past. before c (only c past)) (after c)
        (time.nothing_else (moment old) c (omega arith) left);
    before = λ t c le left. ⊎_elim (λ past. inl past) (λ out. inr (after c out))
        (time.nothing_else t c le left);
  }

  -- what has P has Q
  pub leaves_map : (old new : D) (P Q : List ℕ → Type 0) → ((c : List ℕ) → P c → Q c) →
      LeavesOnly moment crash_states_since old new P →
      LeavesOnly moment crash_states_since old new Q
  leaves_map old new P Q weaker leaves = record {
    later = leaves.later;
    each = λ c left. weaker c (leaves.each c left);
    before = λ t c le left. ⊎_elim (λ past. inl past) (λ p. inr (weaker c p))
        (leaves.before t c le left);
  }

  -- one stretch of time and the next
  pub leaves_then : (old between new : D) (P : List ℕ → Type 0) →
      LeavesOnly moment crash_states_since old between P →
      LeavesOnly moment crash_states_since between new P →
      LeavesOnly moment crash_states_since old new P
  leaves_then old between new P first second =
      let a = first.later in let b = second.later in
      record {
        later = omega (arith, a, b);
        each = λ c left. ⊎_elim (first.each c) (λ p. p) (second.before (moment old) c a left);
        before = λ t c le left. ⊎_elim (first.before t c le) (λ p. inr p)
            (second.before t c (omega (arith, a, le)) left);
      }

  -- both are left where each is
  pub leaves_both : (old new : D) (P Q : List ℕ → Type 0) →
      LeavesOnly moment crash_states_since old new P →
      LeavesOnly moment crash_states_since old new Q →
      LeavesOnly moment crash_states_since old new (λ c. P c × Q c)
  leaves_both old new P Q p q = record {
    later = p.later;
    each = λ c left. (p.each c left, q.each c left);
    before = λ t c le left. ⊎_elim (λ past. inl past)
        (λ x. ⊎_elim (λ past. inl past) (λ y. inr (x, y)) (q.before t c le left))
        (p.before t c le left);
  }

  -- no time goes by
  pub leaves_still : (d : D) (P : List ℕ → Type 0) →
      ((c : List ℕ) → crash_states_since d (moment d) c → P c) →
      LeavesOnly moment crash_states_since d d P
  leaves_still d P now = record {
    later = omega arith;
    each = now;
    before = λ t c le left. inl left;
  }
