-- What others write outside the slot, and their syncs, keep what it holds.
use Rattle.std.proofs.Common.{◌≡◌, ◌⊎◌, inl, inr, ⊎_elim, ℕ, Bool, true, false, ◌+◌, ◌≤◌, List, [], ◌∷◌, ◌++◌, length}
use Rattle.std.proofs.Common.{sym, subst, arith, length-append}
use Rattle.fp_disk.specs.Outcomes.{PendingState, IsOutcome, all_synced, with_write, Written}
use Rattle.fp_journal.specs.declared.slot.Slot.{Slot}
use Rattle.fp_journal.specs.declared.journal.Phase.{Phase}
use Rattle.fp_journal.specs.declared.journal.Phase.TheVariants.{Idle, Staged, BodySynced, GateOpened, Failed}
use Rattle.fp_journal.specs.Holds.{Apart}
use Rattle.fp_journal.specs.Chain.{Ends, with_length, spell}
use Rattle.fp_journal.specs.State.{ClaimsAt, SecuresAt, HasAmong, HasChainOrNext, IsAt, IsLeft, EndsClosed, IsReady}
use Rattle.fp_journal.specs.State.{IsDurable, IsBetween, has_begun}
use Rattle.fp_journal.proofs.Holds.{holds_apart, firm_touched, firm_outcome, firm_settled, settled_outcome}
use Rattle.fp_journal.proofs.Gates.{quiet_outcome, quiet_touched, quiet_settled, sure_touched, between_outcome, text-more}

-- a fact of each phase
pub by_phase : (P : Phase → Type 0) → P Idle → P Staged → P BodySynced → P GateOpened → P Failed → (p : Phase) → P p
by_phase P a b c d e Idle = a
by_phase P a b c d e Staged = b
by_phase P a b c d e BodySynced = c
by_phase P a b c d e GateOpened = d
by_phase P a b c d e Failed = e

module _ (start stop : ℕ) (text more next : List ℕ) (from n : ℕ) (out : (from + n ≤ start) ⊎ (stop ≤ from)) where
  apart : (at m : ℕ) → start ≤ at → at + m ≤ stop → Apart from n at m
  apart at m low high = ⊎_elim (λ before. inl (omega (arith, before, low))) (λ behind. inr (omega (arith, behind, high))) out

  quiet_stays : (u : PendingState) → EndsClosed start stop text u → EndsClosed start stop text (with_write u from n)
  quiet_stays u q = let w = q.within in
      quiet_touched start stop text u from n (apart start (length text + 1) (omega arith) (omega (arith, w))) q

  sure_stays : (u : PendingState) → IsDurable start stop text more u → IsDurable start stop text more (with_write u from n)
  sure_stays u r = let w = r.within in
      sure_touched start stop text more u from n
      (apart (start + length text + 1) (length more + 1) (omega arith) (omega (arith, w))) r

  between_stays : (u : PendingState) → IsBetween start stop text more u → IsBetween start stop text more (with_write u from n)
  between_stays u i = let w = i.back.within in
      record {
        front = firm_touched u start from n text (apart start (length text) (omega arith) (omega (arith, w)))
            i.front;
        back = sure_stays u i.back;
      }

  -- whatever of a write outside was done
  left_stays : (begun : Bool) (u : PendingState) → IsLeft begun u start stop text more →
      IsLeft begun (with_write u from n) start stop text more
  left_stays false u s = quiet_stays u s
  left_stays true u s = ⊎_elim (λ q. inl (quiet_stays u q)) (λ i. inr (between_stays u i)) s

  pub left_outside : (p : Phase) (begun : Bool) (b : List ℕ) (u : PendingState) →
      IsAt p begun u b start stop text more next →
      IsLeft (has_begun p begun) (with_write u from n) start stop text more
  left_outside p begun b u = by_phase
      (λ p. IsAt p begun u b start stop text more next →
      IsLeft (has_begun p begun) (with_write u from n) start stop text more) (quiet_stays u) (λ s. quiet_stays u s.0)
      (λ s. quiet_stays u s.0) (λ s. inr (between_stays u s.1)) (left_stays begun u) p

  module _ (b new piece : List ℕ) (is : n ≡ length piece) (wrote : Written b from piece new) where
    ends_stays : (t : List ℕ) → Ends start stop t b → Ends start stop t new
    ends_stays t e = let w = e.within in let len = length-append t (e.gate ∷ []) in
        record {
          gate = e.gate;
          shut = e.shut;
          holds =
              holds_apart b piece new (t ++ e.gate ∷ []) from start wrote
              (⊎_elim (λ before. inl (omega (arith, before, is))) (λ behind. inr (omega (arith, behind, w, len))) out)
              e.holds;
          within = e.within;
        }

    ready_stays : IsReady start stop text more b → IsReady start stop text more new
    ready_stays r = let w = r.within in let len = length-append more (r.gate ∷ []) in
        record {
          gate = r.gate;
          shut = r.shut;
          holds =
              holds_apart b piece new (more ++ r.gate ∷ []) from (start + length text + 1) wrote
              (⊎_elim (λ before. inl (omega (arith, before, is))) (λ behind. inr (omega (arith, behind, w, len))) out)
              r.holds;
          within = r.within;
        }

    pub at_outside : (p : Phase) (begun : Bool) (u : PendingState) → IsAt p begun u b start stop text more next →
        IsAt p begun (with_write u from n) new start stop text more next
    at_outside p begun u = by_phase
        (λ p. IsAt p begun u b start stop text more next →
        IsAt p begun (with_write u from n) new start stop text more next) (quiet_stays u)
        (λ s. (quiet_stays u s.0, ready_stays s.1)) (λ s. (quiet_stays u s.0, sure_stays u s.1))
        (λ s. (ends_stays next s.0, between_stays u s.1)) (left_stays begun u) p

module _ (start stop : ℕ) (text more next b : List ℕ) (u : PendingState) where
  -- a call that failed and wrote nothing
  pub left_at : (p : Phase) (begun : Bool) → IsAt p begun u b start stop text more next → IsLeft (has_begun p begun) u start stop text more
  left_at p begun = by_phase (λ p. IsAt p begun u b start stop text more next →
      IsLeft (has_begun p begun) u start stop text more) (λ q. q) (λ s. s.0) (λ s. s.0) (λ s. inr s.1) (λ s. s) p

  module _ (o : IsOutcome u b) where
    quiet_synced : EndsClosed start stop text u → EndsClosed start stop text (all_synced b)
    quiet_synced q = quiet_settled start stop text b (quiet_outcome start stop text u b q o)

    sure_synced : IsDurable start stop text more u → IsDurable start stop text more (all_synced b)
    sure_synced r = record {
      gate = r.gate;
      shut = r.shut;
      firm =
          firm_settled b (start + length text + 1) (more ++ r.gate ∷ [])
          (firm_outcome u (start + length text + 1) (more ++ r.gate ∷ []) b r.firm o);
      within = r.within;
    }

    between_synced : IsBetween start stop text more u → IsBetween start stop text more (all_synced b)
    between_synced i = record { front = firm_settled b start text (firm_outcome u start text b i.front o); back = sure_synced i.back }

    left_synced : (begun : Bool) → IsLeft begun u start stop text more → IsLeft begun (all_synced b) start stop text more
    left_synced false s = quiet_synced s
    left_synced true s = ⊎_elim (λ q. inl (quiet_synced q)) (λ i. inr (between_synced i)) s

    pub at_synced : (p : Phase) (begun : Bool) → IsAt p begun u b start stop text more next →
        IsAt p begun (all_synced b) b start stop text more next
    at_synced p begun = by_phase (λ p. IsAt p begun u b start stop text more next →
        IsAt p begun (all_synced b) b start stop text more next) quiet_synced (λ s. (quiet_synced s.0, s.1))
        (λ s. (quiet_synced s.0, sure_synced s.1)) (λ s. (s.0, between_synced s.1)) (left_synced begun) p

-- ---- what the outcomes are
module _ (slot : Slot) (front : List ℕ) (bodies : List (List ℕ)) (body : List ℕ) where
  abbrev text : List ℕ
  text = front ++ spell bodies

  abbrev next : List ℕ
  next = front ++ spell (bodies ++ body ∷ [])

  either : (u : PendingState) (c : List ℕ) → IsBetween slot.start slot.stop text (with_length body) u →
      IsOutcome u c → HasChainOrNext slot front bodies body c
  either u c i o = subst (λ (t : List ℕ). Ends slot.start slot.stop text c ⊎ Ends slot.start slot.stop t c)
      (sym (text-more front bodies body)) (between_outcome slot.start slot.stop text (with_length body) u c i o)

  left_claims : (begun : Bool) (u : PendingState) (c : List ℕ) →
      IsLeft begun u slot.start slot.stop text (with_length body) → IsOutcome u c →
      HasAmong begun slot front bodies body c
  left_claims false u c q o = quiet_outcome slot.start slot.stop text u c q o
  left_claims true u c s o = ⊎_elim (λ q. inl (quiet_outcome slot.start slot.stop text u c q o)) (λ i. either u c i o) s

  pub at_claims : (p : Phase) (begun : Bool) (b : List ℕ) (u : PendingState) (c : List ℕ) →
      IsAt p begun u b slot.start slot.stop text (with_length body) next → IsOutcome u c →
      ClaimsAt p begun slot front bodies body c
  at_claims p begun b u c s o = left_claims (has_begun p begun) u c
      (left_at slot.start slot.stop text (with_length body) next b u p begun s) o

  -- what a sync leaves
  pub at_secures : (p : Phase) (begun : Bool) (b : List ℕ) (u : PendingState) (c : List ℕ) → IsOutcome u b →
      IsAt p begun u b slot.start slot.stop text (with_length body) next → IsOutcome (all_synced b) c →
      SecuresAt p begun slot front bodies body c
  at_secures Idle begun b u c now q o = quiet_outcome slot.start slot.stop text u c q (settled_outcome u b c now o)
  at_secures Staged begun b u c now s o = let r = s.1 in let at : ℕ = slot.start + length text + 1 in record {
    chain = quiet_outcome slot.start slot.stop text u c s.0 (settled_outcome u b c now o);
    next = record {
      gate = r.gate;
      shut = r.shut;
      holds =
          firm_outcome (all_synced b) at (with_length body ++ r.gate ∷ []) c
          (firm_settled b at (with_length body ++ r.gate ∷ []) r.holds) o;
      within = r.within;
    };
  }
  at_secures BodySynced begun b u c now s o = let r = s.1 in let was = settled_outcome u b c now o in record {
    chain = quiet_outcome slot.start slot.stop text u c s.0 was;
    next = record {
      gate = r.gate;
      shut = r.shut;
      holds =
          firm_outcome u (slot.start + length text + 1) (with_length body ++ r.gate ∷ []) c r.firm was;
      within =
          r.within;
    };
  }
  at_secures GateOpened begun b u c now s o =
      quiet_outcome slot.start slot.stop next (all_synced b) c (quiet_settled slot.start slot.stop next b s.0) o
  at_secures Failed begun b u c now s o = left_claims begun u c s (settled_outcome u b c now o)

  pub outside_claims : (from n : ℕ) → (from + n ≤ slot.start) ⊎ (slot.stop ≤ from) →
      (p : Phase) (begun : Bool) (b : List ℕ) (u : PendingState) (c : List ℕ) →
      IsAt p begun u b slot.start slot.stop text (with_length body) next → IsOutcome (with_write u from n) c →
      ClaimsAt p begun slot front bodies body c
  outside_claims from n out p begun b u c s o =
      left_claims (has_begun p begun) (with_write u from n) c
      (left_outside slot.start slot.stop text (with_length body) next from n out p begun b u s) o
