-- A decoder, and what it answers.
use Rattle.std.specs.Prelude.{◌≡◌, ◌≢◌, ℕ, List, [], ◌++◌, Option, Some, IfNone, IsSome, Result, Ok}
use Rattle.std.specs.Prelude.{Err, ◌⊎◌}
use Rattle.std.specs.Global.{Vec}
use Rattle.fp_stream.specs.declared.hello.Hello.{Hello}
use Rattle.fp_stream.specs.declared.frame.Frame.{Frame}
use Rattle.fp_stream.specs.declared.fault.FrameFault.{FrameFault}
use Rattle.fp_stream.specs.declared.fault.FrameFault.TheVariants.{BadMagic, TooLong, NotRising}
use Rattle.fp_stream.specs.declared.fault.FrameFault.TheVariants.{Memory, Failed}
use Rattle.fp_stream.specs.Frames.{Snapshot, has_after, snapshots_of}
use Rattle.fp_stream.specs.Reading.{Reads}

-- what the subscriber has, the bytes that came behind its last whole frame, and the fault that the
-- next call answers, whatever comes
pub record Reader : Type 0 where
  pub has : Hello
  pub held : List ℕ
  pub owed : Option FrameFault

-- of who has this, these bytes give these frames and leave the reader so
pub record DecodesTo (has : Hello) (bytes : List ℕ) (frames : List Snapshot)
    (after : Reader) : Type 0 where
  pub rest : List ℕ
  pub reads : Reads has bytes frames rest after.owed
  pub held : IfNone after.owed (after.held ≡ rest)
  pub last : after.has ≡ has_after has frames

-- a fault that is answered at once: the bytes give no frame before it
pub record Refuses (has : Hello) (bytes : List ℕ) (fault : FrameFault)
    (after : Reader) : Type 0 where
  pub rest : List ℕ
  pub reads : Reads has bytes [] rest (Some fault)
  pub failed : after.owed ≡ Some Failed

-- frames that are answered: all that the bytes give; a fault behind them is owed, and none where
-- there are no frames
pub record Decodes (has : Hello) (bytes : List ℕ) (frames : List Snapshot)
    (after : Reader) : Type 0 where
  pub leaves : DecodesTo has bytes frames after
  pub turn : IsSome after.owed → frames ≢ []

-- what a decoder that owes no fault answers to a piece
abbrev pub Feeds : Reader → List ℕ → Result (Vec Frame) FrameFault → Reader → Type 0
Feeds before piece (Ok frames) after =
    Decodes before.has (before.held ++ piece) (snapshots_of frames.items) after
Feeds before piece (Err BadMagic) after = Refuses before.has (before.held ++ piece) BadMagic after
Feeds before piece (Err TooLong) after = Refuses before.has (before.held ++ piece) TooLong after
Feeds before piece (Err NotRising) after = Refuses before.has (before.held ++ piece) NotRising after
Feeds before piece (Err Memory) after = after ≡ before
Feeds before piece (Err Failed) after = ⊥

-- a decoder of who had this has taken these bytes, and has given these frames of them: all that
-- they hold; a fault that stands behind them is owed, or was answered
pub record HasRead (has : Hello) (bytes : List ℕ) (frames : List Snapshot)
    (now : Reader) : Type 0 where
  pub rest : List ℕ
  pub fault : Option FrameFault
  pub reads : Reads has bytes frames rest fault
  pub told : (now.owed ≡ fault) ⊎ (IsSome fault × (now.owed ≡ Some Failed))
  pub held : IfNone now.owed (now.held ≡ rest)
  pub last : IfNone now.owed (now.has ≡ has_after has frames)

-- what a call took of its piece, and what it gave
abbrev pub bytes_taken : Result (Vec Frame) FrameFault → List ℕ → List ℕ
bytes_taken (Ok frames) piece = piece
bytes_taken (Err BadMagic) piece = piece
bytes_taken (Err TooLong) piece = piece
bytes_taken (Err NotRising) piece = piece
bytes_taken (Err Memory) piece = []
bytes_taken (Err Failed) piece = piece

abbrev pub snapshots_given : Result (Vec Frame) FrameFault → List Snapshot
snapshots_given (Ok frames) = snapshots_of frames.items
snapshots_given (Err fault) = []
