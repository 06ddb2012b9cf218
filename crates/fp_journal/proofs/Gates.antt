-- What each outcome of a slot stands for. The text is any bytes.
use Rattle.std.proofs.Common.{◌≡◌, ◌≢◌, ◌⊎◌, inl, inr, ℕ, ◌+◌, ◌<◌, List, [], ◌∷◌, ◌++◌, length, sym, ◌∙◌, ap, subst, arith, length-append}
use Rattle.std.specs.Prelude.{slice_index}
use Rattle.std.proofs.lemmas.Bool.{cases_eq}
use Rattle.std.proofs.lemmas.List.{append_assoc, append-nil}
use Rattle.fp_disk.specs.Outcomes.{PendingState, IsOutcome, all_synced, with_write, Written}
use Rattle.fp_journal.specs.Holds.{Holds, Apart}
use Rattle.fp_journal.specs.Chain.{Ends, with_length, spell}
use Rattle.fp_journal.specs.State.{EndsClosed, IsReady, IsDurable, IsBetween}
use Rattle.fp_journal.proofs.Holds.{holds_append, holds_front, holds_byte, holds_written, holds_apart, firm_outcome}
use Rattle.fp_journal.proofs.Holds.{firm_touched, firm_settled, firm_front}
use Rattle.fp_gate.specs.declared.gate.TheConstants.{OPEN}

module _ (start stop : ℕ) (text : List ℕ) where
  abbrev pub End : ℕ
  End = start + length text

  -- what is quiet stands in each outcome
  pub quiet_outcome : (u : PendingState) (c : List ℕ) → EndsClosed start stop text u → IsOutcome u c → Ends start stop text c
  quiet_outcome u c q o = record {
    gate = q.gate;
    shut = q.shut;
    holds = firm_outcome u start (text ++ q.gate ∷ []) c q.firm o;
    within =
        q.within;
  }

  -- writes apart from text and gate leave it so
  pub quiet_touched : (u : PendingState) (from n : ℕ) → Apart from n start (length text + 1) →
      EndsClosed start stop text u → EndsClosed start stop text (with_write u from n)
  quiet_touched u from n apart q = let len : length (text ++ q.gate ∷ []) ≡ length text + 1 = length-append text (q.gate ∷ []) in
      record {
        gate = q.gate;
        shut = q.shut;
        firm =
            firm_touched u start from n (text ++ q.gate ∷ []) (subst (λ (k : ℕ). Apart from n start k) (sym len) apart)
            q.firm;
        within = q.within;
      }

  pub quiet_settled : (b : List ℕ) → Ends start stop text b → EndsClosed start stop text (all_synced b)
  quiet_settled b e = record { gate = e.gate; shut = e.shut; firm = firm_settled b start (text ++ e.gate ∷ []) e.holds; within = e.within }

  module _ (more : List ℕ) where
    -- what a write of more and a closed gate leaves
    pub ready_written : (old new : List ℕ) (at : ℕ) → at ≡ End + 1 → End + 1 + length more < stop →
        Written old at (more ++ 0 ∷ []) new → IsReady start stop text more new
    ready_written old new at is lt w =
        record {
          gate = 0;
          shut = λ e. omega (arith, e);
          holds =
              subst (λ (k : ℕ). Holds new k (more ++ 0 ∷ [])) is (holds_written old (more ++ 0 ∷ []) new at w);
          within =
              lt;
        }

    -- text, an open gate, more and a closed gate
    pub longer : (c : List ℕ) (gate : ℕ) → gate ≢ OPEN → Holds c start text → Holds c End (OPEN ∷ []) →
        Holds c (End + 1) (more ++ gate ∷ []) → End + 1 + length more < stop → Ends start stop (text ++ OPEN ∷ more) c
    longer c gate shut front opened back lt = let len = length-append text (OPEN ∷ more) in record {
      gate = gate;
      shut = shut;
      holds = subst (λ (t : List ℕ). Holds c start t) (sym (append_assoc text (OPEN ∷ more) (gate ∷ [])))
          (holds_append c start text (OPEN ∷ (more ++ gate ∷ [])) front (holds_append c End (OPEN ∷ []) (more ++ gate ∷ []) opened back));
      within = omega (arith, len, lt);
    }

    pub sure_touched : (u : PendingState) (from n : ℕ) → Apart from n (End + 1) (length more + 1) →
        IsDurable start stop text more u → IsDurable start stop text more (with_write u from n)
    sure_touched u from n apart r = let len : length (more ++ r.gate ∷ []) ≡ length more + 1 = length-append more (r.gate ∷ []) in
        record {
          gate = r.gate;
          shut = r.shut;
          firm =
              firm_touched u (End + 1) from n (more ++ r.gate ∷ [])
              (subst (λ (k : ℕ). Apart from n (End + 1) k) (sym len) apart) r.firm;
          within = r.within;
        }

    -- a write of the gate leaves nothing else in doubt
    pub between_opened : (u : PendingState) → EndsClosed start stop text u → IsDurable start stop text more u →
        IsBetween start stop text more (with_write u End 1)
    between_opened u q r = record {
      front =
          firm_touched u start End 1 text (inr (omega arith)) (firm_front u start text (q.gate ∷ []) q.firm);
      back =
          sure_touched u End 1 (inl (omega arith)) r;
    }

    -- then it is shut or open in each outcome
    pub between_outcome : (u : PendingState) (c : List ℕ) → IsBetween start stop text more u → IsOutcome u c →
        Ends start stop text c ⊎ Ends start stop (text ++ OPEN ∷ more) c
    between_outcome u c i o =
        let r = i.back in let w = r.within in
        let front : Holds c start text = firm_outcome u start text c i.front o in
        let back : Holds c (End + 1) (more ++ r.gate ∷ []) = firm_outcome u (End + 1) (more ++ r.gate ∷ []) c r.firm o in
        let long = back.long in
        let byte : Holds c End (slice_index c End ∷ []) = holds_byte c End (omega (arith, long)) in
        elim (cases_eq (slice_index c End) OPEN) [
          | inl opened ↦ inr (longer c r.gate r.shut front (subst (λ (x : ℕ). Holds c End (x ∷ [])) opened byte) back r.within)
          | inr shut ↦ inl (record {
            gate = slice_index c End;
            shut = shut;
            holds =
                holds_append c start text (slice_index c End ∷ []) front byte;
            within = omega (arith, w);
          })
        ]

    -- an open gate puts the staged one behind the others
    pub gate_written : (u : PendingState) (b new : List ℕ) → EndsClosed start stop text u →
        IsDurable start stop text more u → IsOutcome u b → Written b End (OPEN ∷ []) new →
        Ends start stop (text ++ OPEN ∷ more) new
    gate_written u b new q r o w =
        longer new r.gate r.shut (holds_apart b (OPEN ∷ []) new text End start w (inr (omega arith))
        (holds_front b start text (q.gate ∷ []) (firm_outcome u start (text ++ q.gate ∷ []) b q.firm o)))
        (holds_written b (OPEN ∷ []) new End w)
        (holds_apart b (OPEN ∷ []) new (more ++ r.gate ∷ []) End (End + 1) w (inl (omega arith))
        (firm_outcome u (End + 1) (more ++ r.gate ∷ []) b r.firm o)) r.within

pub spell-more : (bs : List (List ℕ)) (b : List ℕ) → spell (bs ++ b ∷ []) ≡ spell bs ++ OPEN ∷ with_length b
spell-more [] b = ap (λ (t : List ℕ). OPEN ∷ t) (append-nil (with_length b))
spell-more (x ∷ xs) b = ap (λ (t : List ℕ). OPEN ∷ t)
    (ap (λ (t : List ℕ). with_length x ++ t) (spell-more xs b) ∙
    sym (append_assoc (with_length x) (spell xs) (OPEN ∷ with_length b)))

-- one more body is one more piece of text
pub text-more : (front : List ℕ) (bs : List (List ℕ)) (b : List ℕ) →
    front ++ spell (bs ++ b ∷ []) ≡ (front ++ spell bs) ++ OPEN ∷ with_length b
text-more front bs b = ap (λ (t : List ℕ). front ++ t) (spell-more bs b) ∙ sym (append_assoc front (spell bs) (OPEN ∷ with_length b))
