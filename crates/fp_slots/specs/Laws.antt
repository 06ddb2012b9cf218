-- What follows from the definitions.
use Rattle.std.specs.Prelude.{◌<◌, ◌≤◌, ◌+◌, ℕ, List, [], ◌∷◌, ◌++◌, length}
use Rattle.fp_journal.specs.Chain.{with_length}
use Rattle.fp_gate.specs.Numbers.{OPEN}
use Rattle.fp_journal.specs.declared.slot.Slot.{Slot}
use Rattle.fp_slots.specs.State.{IsCopied, IsPlan}
use Rattle.fp_slots.specs.Rules.{Rules, RulesNeither}

-- one slot rules at most
abbrev pub RulesAlone : Type 0
RulesAlone = (c : List ℕ) (slot other : ℕ) → Rules slot other c → Rules other slot c → ⊥

-- where a reader is told that neither rules, neither does
abbrev pub RefusesRightly : Type 0
RefusesRightly = (c : List ℕ) (first second k : ℕ) → RulesNeither first second c k →
    (Rules first second c → ⊥) × (Rules second first c → ⊥)

-- a batch that is sealed beside a compaction goes behind the text that is planned, and no byte that
-- was copied changes
abbrev pub PlanGoesOn : Type 0
PlanGoesOn = (slot : Slot) (generation done : ℕ) (text body b : List ℕ) →
    IsPlan slot generation text (text ++ 0 ∷ []) → done ≤ length text →
    IsCopied slot.start (text ++ 0 ∷ []) done b
    → slot.start + length (text ++ OPEN ∷ with_length body) < slot.stop
    → IsPlan slot generation (text ++ OPEN ∷ with_length body)
    ((text ++ OPEN ∷ with_length body) ++ 0 ∷ [])
    × IsCopied slot.start ((text ++ OPEN ∷ with_length body) ++ 0 ∷ []) done b
