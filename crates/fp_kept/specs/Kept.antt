-- A frame as it is kept in a file.
use Rattle.std.specs.Prelude.{◌≡◌, ◌≢◌, ℕ, List, ◌++◌, length, Option, Some, None}
use Rattle.sha2.specs.Sha256.{sha256}
use Rattle.fp_stream.specs.declared.frame.Frame.{Frame}
use Rattle.fp_stream.specs.declared.hello.Hello.TheVariants.{Nothing}
use Rattle.fp_stream.specs.Frames.{Snapshot, frame, snapshot_of}
use Rattle.fp_stream.specs.Heads.{IsHead}

-- the bytes of a snapshot's frame
abbrev pub frame_of : Snapshot → List ℕ
frame_of s = frame s.revision s.document

-- and the digest of these behind them
abbrev pub kept_as : List ℕ → List ℕ
kept_as text = text ++ sha256 text

-- a frame may carry a snapshot
abbrev pub IsCarried : Snapshot → Type 0
IsCarried s = IsHead Nothing s.revision (length s.document)

-- the one frame that bytes are, if they are one
abbrev pub IsFrame : List ℕ → Option Frame → Type 0
IsFrame text (Some f) = IsCarried (snapshot_of f) × (text ≡ frame_of (snapshot_of f))
IsFrame text None = (s : Snapshot) → IsCarried s → text ≢ frame_of s

-- the frame that was kept as these bytes, if one was
abbrev pub IsKept : List ℕ → Option Frame → Type 0
IsKept bytes (Some f) = IsCarried (snapshot_of f) × (bytes ≡ kept_as (frame_of (snapshot_of f)))
IsKept bytes None = (s : Snapshot) → IsCarried s → bytes ≢ kept_as (frame_of s)
