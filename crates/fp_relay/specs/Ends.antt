-- What a source sent, and why it is read no further.
use Rattle.std.specs.Prelude.{◌≡◌, ℕ, List, [], ◌++◌, Option, Result, Ok, Err}
use Rattle.std.specs.Io.KnownBytes.{Consumes}
use Rattle.fp_shown.specs.declared.fault.ShownFault.{ShownFault}
use Rattle.fp_shown.specs.declared.fault.ShownFault.TheVariants as shown
use Rattle.fp_stream.specs.declared.fault.FrameFault.{FrameFault}
use Rattle.fp_stream.specs.declared.fault.FrameFault.TheVariants as frame
use Rattle.fp_stream.specs.declared.hello.Hello.{Hello}
use Rattle.fp_stream.specs.declared.hello.Hello.TheVariants.{Nothing}
use Rattle.fp_stream.specs.Frames.{Snapshot}
use Rattle.fp_stream.specs.Reading.{Reads}
use Rattle.fp_streams.specs.declared.counted.StreamFault.{StreamFault}
use Rattle.fp_streams.specs.declared.counted.StreamFault.TheVariants as stream
use Rattle.fp_relay.specs.Following.{Shows}
use Rattle.fp_relay.specs.declared.source.SourceEnd.{SourceEnd}
use Rattle.fp_relay.specs.declared.source.SourceEnd.TheVariants.{Closed, Device, Memory, BadFrame}
use Rattle.fp_relay.specs.declared.source.SourceEnd.TheVariants.{NoSet}

abbrev pub of_stream : StreamFault → SourceEnd
of_stream stream.Device = Device
of_stream stream.Memory = Memory

abbrev pub of_frame : FrameFault → SourceEnd
of_frame frame.BadMagic = BadFrame frame.BadMagic
of_frame frame.TooLong = BadFrame frame.TooLong
of_frame frame.NotRising = BadFrame frame.NotRising
of_frame frame.Memory = Memory
of_frame frame.Failed = BadFrame frame.Failed

abbrev pub of_shown : ShownFault → SourceEnd
of_shown shown.NoSet = NoSet
of_shown shown.Memory = Memory

-- a source that ended the connection
abbrev pub end_of : Result (Unit {0}) SourceEnd → SourceEnd
end_of (Ok x) = Closed
end_of (Err end) = end

-- there was no set, or no memory for one
abbrev pub IsSetFault : SourceEnd → Type 0
IsSetFault NoSet = Unit {0}
IsSetFault Memory = Unit {0}
IsSetFault Closed = ⊥
IsSetFault Device = ⊥
IsSetFault (BadFrame f) = ⊥

-- all frames are looked at, but behind one that shows no set, or where memory was wanting
abbrev pub IsLeft : SourceEnd → List Snapshot → Type 0
IsLeft Closed behind = behind ≡ []
IsLeft Device behind = behind ≡ []
IsLeft (BadFrame f) behind = behind ≡ []
IsLeft Memory behind = Unit {0}
IsLeft NoSet behind = Unit {0}

-- no byte that came is left out, but where memory was wanting to look at it
abbrev pub IsLost : SourceEnd → List ℕ → Type 0
IsLost Closed lost = lost ≡ []
IsLost Device lost = lost ≡ []
IsLost (BadFrame f) lost = lost ≡ []
IsLost NoSet lost = lost ≡ []
IsLost Memory lost = Unit {0}

-- A source gave these bytes, and no fault is read over. Of the frames in them, in turn, those that are
-- news were shown
pub record Follows (reads left : Option (List ℕ)) (last now : Hello) (old new : List Snapshot)
    (end : SourceEnd) : Type 0 where
  pub bytes : List ℕ
  pub lost : List ℕ
  pub frames : List Snapshot
  pub behind : List Snapshot
  pub rest : List ℕ
  pub fault : Option FrameFault
  -- What was taken of the source are these bytes, and then those that were lost.
  pub came : Consumes reads left (bytes ++ lost)
  -- None is lost, but at `Memory`.
  pub held : IsLost end lost
  -- The frames that the bytes hold, in order, as they are read by the format.
  pub read : Reads Nothing bytes (frames ++ behind) rest fault
  -- The sets of the first of them were shown, each above what was shown last, and no other.
  pub shows : Shows last now old new frames
  -- So were all, but behind one that shows no set, or at `Memory`.
  pub looked_at : IsLeft end behind
