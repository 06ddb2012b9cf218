-- The frames that bytes hold, and where reading stops.
use Rattle.std.specs.Prelude.{◌≡◌, ℕ, ◌<◌, List, ◌++◌, length, Option, Some, None, ◌⊎◌}
use Rattle.fp_stream.specs.declared.hello.Hello.{Hello}
use Rattle.fp_stream.specs.declared.fault.FrameFault.{FrameFault}
use Rattle.fp_stream.specs.Heads.{head, IsHead, HasFault}
use Rattle.fp_stream.specs.Frames.{Snapshot, stream_of, AreNews, has_after}

-- a lawful head, and less than its whole body behind it
pub record LacksBody (has : Hello) (rest : List ℕ) : Type 0 where
  pub revision : ℕ
  pub size : ℕ
  pub body : List ℕ
  pub is : rest ≡ head revision size ++ body
  pub lawful : IsHead has revision size
  pub short : length body < size

-- sixteen bytes that are no lawful head, whatever follows
pub record FaultStands (has : Hello) (rest : List ℕ) (fault : FrameFault) : Type 0 where
  pub front : List ℕ
  pub behind : List ℕ
  pub is : rest ≡ front ++ behind
  pub long : length front ≡ 16
  pub wrong : HasFault has front fault

-- why no further frame stands there: it hasn't come in whole, or there is a fault
abbrev pub Stops : Hello → List ℕ → Option FrameFault → Type 0
Stops has rest None = (length rest < 16) ⊎ LacksBody has rest
Stops has rest (Some fault) = FaultStands has rest fault

-- who has this reads these frames at the front of the bytes, and there stops:
-- at a fault, or at none
pub record Reads (has : Hello) (bytes : List ℕ) (frames : List Snapshot) (rest : List ℕ)
    (fault : Option FrameFault) : Type 0 where
  pub whole : bytes ≡ stream_of frames ++ rest
  pub news : AreNews has frames
  pub stops : Stops (has_after has frames) rest fault
