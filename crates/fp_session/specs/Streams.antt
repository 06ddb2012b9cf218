-- Streams that fail in a run.
use Rattle.std.specs.Prelude.{◌≡◌, ◌<◌, ◌≤◌, ℕ, Result, Ok, Err}
use Rattle.fp_streams.specs.declared.counted.StreamFault.{StreamFault}
use Rattle.fp_streams.specs.declared.counted.StreamFault.TheVariants as stream
use Rattle.fp_session.specs.declared.fault.ApplyFault.{ApplyFault}
use Rattle.fp_session.specs.declared.fault.ApplyFault.TheVariants.{Device, StoreFailed, Memory}
use Rattle.fp_session.specs.declared.fault.ApplyFault.TheVariants.{CommitMemory}

abbrev pub of_stream : StreamFault → ApplyFault
of_stream stream.Device = Device
of_stream stream.Memory = Memory

-- by the count of failures before and after:
-- it ends by `Device` only where a stream failed, and well only where none did
abbrev pub Blames : {A : Type 0} → ℕ → ℕ → Result A ApplyFault → Type 0
Blames before after (Ok x) = after ≡ before
Blames before after (Err Device) = before < after
Blames before after (Err StoreFailed) = before ≤ after
Blames before after (Err Memory) = before ≤ after
Blames before after (Err CommitMemory) = before ≤ after

-- a fault that no stream is behind
abbrev pub IsFromWithin : ApplyFault → Type 0
IsFromWithin Device = ⊥
IsFromWithin StoreFailed = Unit {0}
IsFromWithin Memory = Unit {0}
IsFromWithin CommitMemory = Unit {0}
