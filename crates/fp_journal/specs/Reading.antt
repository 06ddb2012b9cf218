-- A chain of bodies in bytes, as it is read.
use Rattle.std.specs.Prelude.{◌≡◌, ◌≢◌, ◌⊎◌, ◌<◌, ◌≤◌, ◌+◌, ℕ, List, [], ◌∷◌, ◌++◌, length, min}
use Rattle.std.specs.Prelude.{slice_index}
use Rattle.std.specs.Int.{w32, from_be_bytes, to_be_bytes}
use Rattle.fp_journal.specs.declared.chain.BodyFault.{BodyFault}
use Rattle.fp_journal.specs.declared.chain.BodyFault.TheVariants as body_fault
use Rattle.fp_journal.specs.declared.pieces.BytesFault.{BytesFault}
use Rattle.fp_journal.specs.declared.pieces.BytesFault.TheVariants as bytes_fault
use Rattle.fp_journal.specs.declared.chain.ChainFault.{ChainFault}
use Rattle.fp_journal.specs.declared.chain.ChainFault.TheVariants as chain_fault
use Rattle.fp_journal.specs.Holds.{Holds}
use Rattle.fp_journal.specs.Chain.{Ends, with_length, spell}
use Rattle.fp_journal.specs.State.{AllShort}
use Rattle.fp_journal.specs.Numbers.{BODY_PLACE}
use Rattle.fp_gate.specs.Numbers.{OPEN}

-- the bodies stand there, each behind an open gate and its length,
-- and a closed gate before this stop behind the last
pub record IsChain (most at stop : ℕ) (bodies : List (List ℕ)) (c : List ℕ) : Type 0 where
  pub short : AllShort most bodies
  pub ends : Ends at stop (spell bodies) c

-- ---- the next link
-- the gate is there and closed
pub record IsClosed (at stop : ℕ) (c : List ℕ) : Type 0 where
  pub within : at < stop
  pub long : at < length c
  pub shut : slice_index c at ≢ OPEN

-- the gate is open, and behind it stand the body's length and the body, up to the next gate
pub record IsNext (most at stop : ℕ) (body : List ℕ) (next : ℕ) (c : List ℕ) : Type 0 where
  pub holds : Holds c at (OPEN ∷ with_length body)
  pub short : length body ≤ most
  pub place : next ≡ at + BODY_PLACE + length body
  pub within : next ≤ stop

-- the number in the four bytes behind a gate
abbrev pub length_at : List ℕ → ℕ → ℕ
length_at c at = from_be_bytes w32
    (slice_index c (at + 1) ∷ slice_index c (at + 2) ∷ slice_index c (at + 3)
    ∷ slice_index c (at + 4) ∷ [])

-- There is neither, and k is the first byte to show it: the bytes end at this limit before a field
-- does, or the length is above the most
pub data BreaksBefore (most limit : ℕ) (c : List ℕ) (at k : ℕ) : Type 0 where
  no_gate : limit ≤ at → k ≡ at → BreaksBefore most limit c at k
  no_length : slice_index c at ≡ OPEN → at < limit → limit < at + BODY_PLACE → k ≡ at + 1 →
      BreaksBefore most limit c at k
  too_long : slice_index c at ≡ OPEN → at + BODY_PLACE ≤ limit → most < length_at c at
      → k ≡ at + 1 → BreaksBefore most limit c at k
  no_body : slice_index c at ≡ OPEN → at + BODY_PLACE ≤ limit → length_at c at ≤ most →
      limit < at + BODY_PLACE + length_at c at → k ≡ at + BODY_PLACE →
      BreaksBefore most limit c at k

-- that is where the bytes or the slot end
abbrev pub Breaks : ℕ → ℕ → List ℕ → (at k : ℕ) → Type 0
Breaks most stop c at k = BreaksBefore most (min stop (length c)) c at k

-- ---- the front of a link, in the bytes from its gate on: so many lie between gate and limit
-- the gate is open, and behind it stands the length of a body that may be and fits
pub record SpellsLink (bytes : List ℕ) (left most n : ℕ) : Type 0 where
  pub text : Holds bytes 0 (OPEN ∷ to_be_bytes w32 n)
  pub short : n ≤ most
  pub within : BODY_PLACE + n ≤ left

-- neither, and k is the first byte to show it
pub data BreaksLink (most : ℕ) (bytes : List ℕ) (left at k : ℕ) : Type 0 where
  link_no_length : slice_index bytes 0 ≡ OPEN → left < BODY_PLACE → k ≡ at + 1 →
      BreaksLink most bytes left at k
  link_too_long : slice_index bytes 0 ≡ OPEN → BODY_PLACE ≤ left → most < length_at bytes 0
      → k ≡ at + 1 → BreaksLink most bytes left at k
  link_no_body : slice_index bytes 0 ≡ OPEN → BODY_PLACE ≤ left → length_at bytes 0 ≤ most →
      left < BODY_PLACE + length_at bytes 0 → k ≡ at + BODY_PLACE → BreaksLink most bytes left at k

-- ---- a whole chain
-- a reader takes the bodies in order, and is then that
abbrev pub Reads : {R : Type 0} → (R → List ℕ → R → Type 0) → R → List (List ℕ) → R → Type 0
Reads takes before [] after = before ≡ after
Reads {R = R} takes before (b ∷ bs) after = (middle : R) × takes before b middle
    × Reads takes middle bs after

-- a chain stands there, no other does, its closed gate is at this end,
-- and the reader has taken its bodies
pub record FoundChain {R : Type 0} (takes : R → List ℕ → R → Type 0) (most at stop : ℕ) (c : List ℕ)
    (before after : R) (end : ℕ) : Type 0 where
  pub bodies : List (List ℕ)
  pub chain : IsChain most at stop bodies c
  pub only : (others : List (List ℕ)) → IsChain most at stop others c → others ≡ bodies
  pub place : end ≡ at + length (spell bodies)
  pub reads : Reads takes before bodies after

-- The same as it was read of a disk, and the text of the bodies behind the one that was there. What
-- stands on the disk is said of one that is honest
pub record ReadsChain {R : Type 0} (honest : Type 0) (takes : R → List ℕ → R → Type 0)
    (most at stop : ℕ) (c : List ℕ) (before after : R) (old new : List ℕ) (end : ℕ) : Type 0 where
  pub bodies : List (List ℕ)
  pub reads : Reads takes before bodies after
  pub short : AllShort most bodies
  pub text : new ≡ old ++ spell bodies
  pub place : end ≡ at + length (spell bodies)
  pub within : end < stop
  pub chain : honest → IsChain most at stop bodies c
  pub only : honest → (others : List (List ℕ)) → IsChain most at stop others c → others ≡ bodies

-- Bodies stand there, none of them past the stop, and the reader takes them;
-- behind them there is no link, or one whose body it refuses. k is the first byte to show it
pub record StopsAt {R : Type 0} (takes : R → List ℕ → R → Type 0)
    (refuses : R → List ℕ → ℕ → Type 0) (most at stop : ℕ) (c : List ℕ) (before : R)
    (k : ℕ) : Type 0 where
  pub bodies : List (List ℕ)
  pub gate : ℕ
  pub last : R
  pub holds : Holds c at (spell bodies)
  pub short : AllShort most bodies
  pub place : gate ≡ at + length (spell bodies)
  pub within : (gate ≡ at) ⊎ (gate ≤ stop)
  pub reads : Reads takes before bodies last
  pub fault : Breaks most stop c gate k
      ⊎ ((body : List ℕ) × (next : ℕ) × (offset : ℕ) × IsNext most gate stop body next c
      × refuses last body offset × (k ≡ gate + BODY_PLACE + offset))

-- ---- what the faults say
abbrev pub IsWrong : ℕ → (ℕ → Type 0) → BodyFault → Type 0
IsWrong n P (body_fault.BadBody at) = (at ≤ n) × P at
IsWrong n P body_fault.Memory = Unit {0}

abbrev pub IsOnlyDamage : (ℕ → Type 0) → ChainFault → Type 0
IsOnlyDamage P (chain_fault.Damaged at) = P at
IsOnlyDamage P chain_fault.Device = ⊥
IsOnlyDamage P chain_fault.Memory = ⊥

abbrev pub TellsDamage : (ℕ → Type 0) → ChainFault → Type 0
TellsDamage P (chain_fault.Damaged at) = P at
TellsDamage P chain_fault.Device = Unit {0}
TellsDamage P chain_fault.Memory = Unit {0}

abbrev pub Refuses : {R : Type 0} → (R → List ℕ → R → Type 0) → (R → List ℕ → ℕ → Type 0) → ℕ → ℕ →
    ℕ → List ℕ → R → ChainFault → Type 0
Refuses takes refuses most at stop c before (chain_fault.Damaged k) =
    StopsAt takes refuses most at stop c before k
Refuses takes refuses most at stop c before chain_fault.Device = Unit {0}
Refuses takes refuses most at stop c before chain_fault.Memory = Unit {0}

abbrev pub fault_of_bytes : BytesFault → ChainFault
fault_of_bytes bytes_fault.Device = chain_fault.Device
fault_of_bytes bytes_fault.Memory = chain_fault.Memory
