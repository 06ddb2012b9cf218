-- Streams, and when they fail.
use Rattle.std.specs.Prelude.{◌≡◌, ◌<◌, ℕ, Result, Ok, Err}
use Rattle.fp_streams.specs.declared.counted.StreamFault.{StreamFault}
use Rattle.fp_streams.specs.declared.counted.StreamFault.TheVariants.{Device, Memory}

-- a reader or a writer, how often it failed, and how often it may yet be read
pub record Stream (S : Type 0) : Type 0 where
  pub inner : S
  pub failures : ℕ
  pub reads_left : ℕ

-- a failure was counted exactly where the answer tells of one
abbrev pub CountsFailures : {A : Type 0} → ℕ → ℕ → Result A StreamFault → Type 0
CountsFailures before after (Ok a) = after ≡ before
CountsFailures before after (Err Device) = before < after
CountsFailures before after (Err Memory) = after ≡ before
