-- What a subscriber is shown of a stream.
use Rattle.std.specs.Prelude.{◌≡◌, ◌<◌, ℕ, List, [], ◌∷◌, ◌++◌, codes, decimal, Option, Some, None, OnOk}
use Rattle.std.specs.Prelude.{Result, Ok, Err}
use Rattle.std.specs.Io.KnownBytes.{Appends, Consumes, IsAtEnd}
use Rattle.fp_streams.specs.declared.counted.StreamFault.{StreamFault}
use Rattle.fp_streams.specs.declared.counted.StreamFault.TheVariants as stream
use Rattle.fp_stream.specs.declared.fault.FrameFault.{FrameFault}
use Rattle.fp_stream.specs.declared.fault.FrameFault.TheVariants as frame
use Rattle.fp_stream.specs.declared.hello.Hello.{Hello}
use Rattle.fp_stream.specs.declared.watch.WatchFault.{WatchFault}
use Rattle.fp_stream.specs.declared.watch.WatchFault.TheVariants.{Device, Memory, BadFrame}
use Rattle.fp_stream.specs.Frames.{Snapshot}
use Rattle.fp_stream.specs.Reading.{Reads}

-- a snapshot on a line: its revision, a space, its document and a newline
abbrev pub line_of : Snapshot → List ℕ
line_of s = decimal s.revision ++ 32 ∷ (s.document ++ 10 ∷ [])

-- several, one behind the other
abbrev pub lines_of : List Snapshot → List ℕ
lines_of [] = []
lines_of (s ∷ ss) = line_of s ++ lines_of ss

-- ---- faults

abbrev pub of_stream : StreamFault → WatchFault
of_stream stream.Device = Device
of_stream stream.Memory = Memory

abbrev pub of_frame : FrameFault → WatchFault
of_frame frame.BadMagic = BadFrame frame.BadMagic
of_frame frame.TooLong = BadFrame frame.TooLong
of_frame frame.NotRising = BadFrame frame.NotRising
of_frame frame.Memory = Memory
of_frame frame.Failed = BadFrame frame.Failed

-- what the program prints of one. Each fault of a frame has the same text
abbrev pub text_of : WatchFault → List ℕ
text_of Device = codes "device fault"
text_of Memory = codes "out of memory"
text_of (BadFrame fault) = codes "bad stream"

-- by the failures of the reader and the writer before and after: `Device` comes
-- exactly where one failed
abbrev pub BlamesStreams : ℕ → ℕ → Result (Unit {0}) WatchFault → Type 0
BlamesStreams before after (Ok x) = after ≡ before
BlamesStreams before after (Err Device) = before < after
BlamesStreams before after (Err Memory) = after ≡ before
BlamesStreams before after (Err (BadFrame f)) = after ≡ before

-- ---- what came, and what was shown of it

-- the fault that stands behind the frames
abbrev pub fault_in : Result (Unit {0}) WatchFault → Option FrameFault
fault_in (Ok x) = None
fault_in (Err Device) = None
fault_in (Err Memory) = None
fault_in (Err (BadFrame f)) = Some f

-- what was read and not looked at: nothing, but where memory was wanting to take it
abbrev pub IsLost : Result (Unit {0}) WatchFault → List ℕ → Type 0
IsLost (Ok x) bytes = bytes ≡ []
IsLost (Err Device) bytes = bytes ≡ []
IsLost (Err Memory) bytes = Unit {0}
IsLost (Err (BadFrame f)) bytes = bytes ≡ []

-- A reader gave these bytes to who has this, and each frame in them was shown, in order. Reading
-- stopped at a fault, or at less than a whole frame; where it ended well the reader had no more
pub record Watches (has : Hello) (reads left before held : Option (List ℕ))
    (outcome : Result (Unit {0}) WatchFault) : Type 0 where
  pub bytes : List ℕ
  pub lost : List ℕ
  pub frames : List Snapshot
  pub rest : List ℕ
  pub came : Consumes reads left (bytes ++ lost)
  pub looked_at : IsLost outcome lost
  pub read : Reads has bytes frames rest (fault_in outcome)
  pub shown : Appends before held (lines_of frames)
  pub end : OnOk outcome (IsAtEnd left)
