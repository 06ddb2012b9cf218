-- Which of two slots decides what a disk stands for.
use Rattle.std.specs.Prelude.{◌≡◌, ◌≢◌, ◌⊎◌, ◌↔◌, ◌<◌, ◌+◌, ◌^◌, ℕ, Bool, IsTrue, List, length}
use Rattle.std.specs.Prelude.{slice_index}
use Rattle.std.specs.Int.{w64, to_be_bytes}
use Rattle.fp_journal.specs.Holds.{Holds}
use Rattle.fp_journal.specs.Firsts.{AreFirst}
use Rattle.fp_journal.specs.Chain.{Ends}
use Rattle.fp_journal.specs.declared.slot.Slot.{Slot}
use Rattle.fp_gate.specs.Numbers.{OPEN}
use Rattle.fp_slots.specs.declared.choosing.SlotFault.{SlotFault}
use Rattle.fp_slots.specs.declared.choosing.SlotFault.TheVariants.{Damaged}
use Rattle.fp_slots.specs.Numbers.{GENERATION_PLACE, VERSION_PLACE}
use Rattle.fp_slots.specs.Numbers.{IMAGE_PLACE}

-- behind the gate of the slot that begins at this place stands this generation, whole
pub record HasGeneration (slot n : ℕ) (c : List ℕ) : Type 0 where
  pub small : n < 2 ^ 64
  pub text : Holds c (slot + GENERATION_PLACE) (to_be_bytes w64 n)

-- Of the slots that begin at these two places the first rules: both gates are there, its own is
-- open, and the other's is closed or both have a generation and its own is the greater
pub record Rules (slot other : ℕ) (c : List ℕ) : Type 0 where
  pub there : other < length c
  pub opened : slice_index c slot ≡ OPEN
  pub over : (slice_index c other ≢ OPEN)
      ⊎ ((mine its : ℕ) × HasGeneration slot mine c × HasGeneration other its c × (its < mine))

-- the first of two slots rules, and holds this text in front of a closed gate
pub record RulesWith (slot other : Slot) (text c : List ℕ) : Type 0 where
  pub rules : Rules slot.start other.start c
  pub ends : Ends slot.start slot.stop text c

-- ---- what a reader finds
-- these are the first bytes of the slot that begins at this place: so many as stand in front of its
-- image, or as many as there are
abbrev pub IsLead : List ℕ → ℕ → List ℕ → Type 0
IsLead c slot bytes = AreFirst c slot IMAGE_PLACE bytes

-- these are those of both
abbrev pub HasLeads : (first : Slot) (a : List ℕ) (second : Slot) (b : List ℕ) → List ℕ → Type 0
HasLeads first a second b c = IsLead c first.start a × IsLead c second.start b

-- one of two slots, with its first bytes, and the other one
abbrev pub IsOneOf : (first : Slot) (a : List ℕ) (second : Slot) (b : List ℕ) (slot : Slot)
    (bytes : List ℕ) (other : Slot) → Type 0
IsOneOf first a second b slot bytes other = ((slot ≡ first) × (bytes ≡ a) × (other ≡ second))
    ⊎ ((slot ≡ second) × (bytes ≡ b) × (other ≡ first))

-- the one rules over the other, whose gate is open or isn't
pub record IsRuling (slot other : ℕ) (is_open : Bool) (c : List ℕ) : Type 0 where
  pub rules : Rules slot other c
  pub gate : IsTrue is_open ↔ (slice_index c other ≡ OPEN)

-- neither rules, and k is the place that tells it
pub data RulesNeither (first second : ℕ) (c : List ℕ) (k : ℕ) : Type 0 where
  none_open : slice_index c first ≢ OPEN → slice_index c second ≢ OPEN → k ≡ first →
      RulesNeither first second c k
  cut : slice_index c first ≡ OPEN → slice_index c second ≡ OPEN →
      length c < second + VERSION_PLACE → k ≡ length c → RulesNeither first second c k
  equal : slice_index c first ≡ OPEN → slice_index c second ≡ OPEN → (n : ℕ) →
      HasGeneration first n c → HasGeneration second n c → k ≡ second + GENERATION_PLACE →
      RulesNeither first second c k

-- the fault names that place
abbrev pub RefusesSlots : ℕ → ℕ → List ℕ → SlotFault → Type 0
RefusesSlots first second c (Damaged at) = RulesNeither first second c at
