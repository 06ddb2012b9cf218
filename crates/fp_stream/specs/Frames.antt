-- Frames, one behind the other.
use Rattle.std.specs.Prelude.{ℕ, List, [], ◌∷◌, ◌++◌, length, map}
use Rattle.fp_stream.specs.declared.hello.Hello.{Hello}
use Rattle.fp_stream.specs.declared.hello.Hello.TheVariants.{Has}
use Rattle.fp_stream.specs.declared.frame.Frame.{Frame}
use Rattle.fp_stream.specs.Heads.{head, IsHead}

-- a set of flags as it is told: its revision and its document
pub record Snapshot : Type 0 where
  pub revision : ℕ
  pub document : List ℕ

-- the bytes of one
abbrev pub frame : ℕ → List ℕ → List ℕ
frame revision document = head revision (length document) ++ document

-- of several, one behind the other
abbrev pub stream_of : List Snapshot → List ℕ
stream_of [] = []
stream_of (s ∷ ss) = frame s.revision s.document ++ stream_of ss

-- each may be told to who has this and then the ones before
abbrev pub AreNews : Hello → List Snapshot → Type 0
AreNews has [] = Unit {0}
AreNews has (s ∷ ss) = IsHead has s.revision (length s.document) × AreNews (Has s.revision) ss

-- what a subscriber has after them
abbrev pub has_after : Hello → List Snapshot → Hello
has_after has [] = has
has_after has (s ∷ ss) = has_after (Has s.revision) ss

-- what frames carry
abbrev pub snapshot_of : Frame → Snapshot
snapshot_of f = record { revision = f.revision; document = f.body.items }

abbrev pub snapshots_of : List Frame → List Snapshot
snapshots_of frames = map snapshot_of frames
