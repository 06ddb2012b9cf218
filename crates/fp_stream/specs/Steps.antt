-- The parts of a call.
use Rattle.std.specs.Prelude.{◌≡◌, ℕ, ◌<◌, ◌≤◌, List, ◌++◌, length, drop, Option, Some, None}
use Rattle.fp_stream.specs.declared.hello.Hello.{Hello}
use Rattle.fp_stream.specs.declared.frame.Frame.{Frame}
use Rattle.fp_stream.specs.declared.head.Head.{Head}
use Rattle.fp_stream.specs.Heads.{head, IsHead}
use Rattle.fp_stream.specs.Frames.{Snapshot, stream_of, AreNews, has_after, snapshots_of}
use Rattle.fp_stream.specs.Decoding.{Reader, DecodesTo}

-- the bytes that came, of a head or of what is behind one that was read
abbrev pub held_of : Option Head → List ℕ → List ℕ
held_of None held = held
held_of (Some h) held = head h.revision h.size ++ held

-- how many bytes a head has, or the body behind one that was read
abbrev pub wanted_by : Option Head → ℕ
wanted_by None = 16
wanted_by (Some h) = h.size

-- a head that was read is lawful
abbrev pub IsKnown : Hello → Option Head → Type 0
IsKnown has None = Unit {0}
IsKnown has (Some h) = IsHead has h.revision h.size

-- less has come than the whole head, or the whole body behind a lawful one
pub record IsPart (has : Hello) (known : Option Head) (held : List ℕ) : Type 0 where
  pub short : length held < wanted_by known
  pub lawful : IsKnown has known

-- this frame stands there: its head, and then its body and more
pub record IsWhole (has : Hello) (front behind : List ℕ) (s : Snapshot) : Type 0 where
  pub lawful : IsHead has s.revision (length s.document)
  pub front_is : front ≡ head s.revision (length s.document)
  pub within : length s.document ≤ length behind
  pub behind_is : behind ≡ s.document ++ drop (length s.document) behind

-- frames were added, which are what these bytes give
pub record Adds (has : Hello) (bytes : List ℕ) (before now : List Frame)
    (after : Reader) : Type 0 where
  pub added : List Snapshot
  pub adds : snapshots_of now ≡ snapshots_of before ++ added
  pub leaves : DecodesTo has bytes added after

-- frames were added, which stand before the rest
pub record Passes (has : Hello) (bytes : List ℕ) (before now : List Frame) (last : Hello)
    (rest : List ℕ) : Type 0 where
  pub added : List Snapshot
  pub adds : snapshots_of now ≡ snapshots_of before ++ added
  pub news : AreNews has added
  pub whole : bytes ≡ stream_of added ++ rest
  pub is_last : last ≡ has_after has added
