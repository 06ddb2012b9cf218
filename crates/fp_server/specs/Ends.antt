-- How a service leaves its file, and what it says.
use Rattle.std.specs.Prelude.{◌≡◌, ◌⊎◌, ◌<◌, ◌+◌, ℕ, List, [], ◌∷◌, ◌++◌, length, codes, decimal}
use Rattle.std.specs.Prelude.{Option, Result, Some}
use Rattle.std.specs.Io.KnownBytes.{Appends}
use Rattle.std.specs.Net.Text.{socket_text}
use Rattle.std.specs.declared.net.socket_addr.SocketAddr.{SocketAddr}
use Rattle.fp_disk.specs.Crashes.{EachCrash}
use Rattle.fp_disk.specs.declared.disk.Disk.{Ghosts as DiskGhosts}
use Rattle.fp_edit.specs.Edits.{Change}
use Rattle.fp_edit.specs.Flags.{State}
use Rattle.fp_edit.specs.Log.{after_all}
use Rattle.fp_commands.specs.declared.fault.CommandFault.{CommandFault}
use Rattle.fp_commands.specs.declared.fault.CommandFault.TheVariants.{Device, StoreFailed, Memory}
use Rattle.fp_commands.specs.Disks.{IsOnlyRead, IsShowingFault}
use Rattle.fp_commands.specs.Files.{Streams, failures}
use Rattle.fp_files.specs.Openings.{KeepsAll}
use Rattle.fp_files.specs.declared.files.DiskFiles.{Ghosts as FileGhosts}
use Rattle.fp_recovery.specs.Stands.{StandsFor}
use Rattle.fp_group_commit.specs.Store.{StoreState}
use Rattle.fp_committer.specs.Course.{GoesThrough, RunsCommitter}
use Rattle.fp_plane.specs.Flushing.{Flushes, HasBroken}
use Rattle.fp_plane.specs.declared.flushing.Broken.{Broken}
use Rattle.fp_committer.specs.StoreHalf.{StoreHalfState}

-- ---- what it says

abbrev pub line : List ℕ → List ℕ
line text = text ++ 10 ∷ []

-- where it listens, each address on a line behind its name
abbrev pub where_text : (ofrep edit stream : SocketAddr) → List ℕ
where_text ofrep edit stream = line (codes "ofrep " ++ socket_text ofrep)
    ++ line (codes "edit " ++ socket_text edit) ++ line (codes "stream " ++ socket_text stream)

pub record SaysWhere (before held : Option (List ℕ)) : Type 0 where
  pub ofrep : SocketAddr
  pub edit : SocketAddr
  pub stream : SocketAddr
  pub text : Appends before held (where_text ofrep edit stream)

-- and at its end the revision
pub record SaysAll (revision : ℕ) (before held : Option (List ℕ)) : Type 0 where
  pub ofrep : SocketAddr
  pub edit : SocketAddr
  pub stream : SocketAddr
  pub text : Appends before held (where_text ofrep edit stream
      ++ line (codes "stopped at revision " ++ decimal revision))

-- ---- its file

-- the disk at the path held these flags
pub record Opens {F D : Type 0} (files : FileGhosts F D) (disk : DiskGhosts D) (old : F)
    (path : List ℕ) (start : State) : Type 0 where
  pub before : D
  pub found : files.at old path ≡ Some before
  pub stands : disk.honest before → StandsFor (disk.bytes before) start

-- it stands there again as this one
abbrev pub IsBack : {F D : Type 0} → FileGhosts F D → DiskGhosts D → F → List ℕ → D → Type 0
IsBack files disk new path after = disk.honest after → files.at new path ≡ Some after

-- ---- the course of its disk

-- all that was drawn is settled, and so sealed
pub record IsServedStore {D : Type 0} (disk : DiskGhosts D) (s t : StoreState D) : Type 0 where
  pub run : GoesThrough disk s t
  pub same : t.store ≡ s.store
  pub settled : (run.last.half.all ≡ t.sealed) × (run.last.half.settled ≡ t.sealed)

-- where a flusher ended, however it did, and the service by this fault: the store failed only where
-- the flusher broke off
pub record IsBrokenOff {D : Type 0} (disk : DiskGhosts D) (first last : StoreHalfState D)
    (f : CommandFault) : Type 0 where
  pub ended : Result (Unit {0}) Broken
  pub flushed : Flushes disk first last ended
  pub cause : f ≡ StoreFailed → HasBroken disk first.store.disk last.store.disk last

-- the same of its store
pub record IsBrokenStore {D : Type 0} (disk : DiskGhosts D) (s t : StoreState D) (f : CommandFault)
    : Type 0 where
  pub run : GoesThrough disk s t
  pub same : t.store ≡ s.store
  pub cause : f ≡ StoreFailed → HasBroken disk s.disk t.disk run.last

-- ---- how it ends

-- It ended well: whatever a crash leaves of the disk at the path stands for the flags that it held
-- and some edits, and the revision that these make was told
pub record EndsWell {F D : Type 0} (files : FileGhosts F D) (disk : DiskGhosts D) (old new : F)
    (path : List ℕ) (before held : Option (List ℕ)) : Type 0 where
  pub start : State
  pub edits : List Change
  pub after : D
  pub opened : Opens files disk old path start
  pub back : IsBack files disk new path after
  pub run : RunsCommitter disk opened.before after start
  pub settled : run.run.last.half.settled ≡ edits
  pub keeps : EachCrash disk after (λ c. StandsFor c (after_all start edits))
  pub told : SaysAll (start.revision + length edits) before held

-- it was broken off: of a last batch of edits nothing is known
pub record BreaksOff {F D : Type 0} (files : FileGhosts F D) (disk : DiskGhosts D) (old new : F)
    (path : List ℕ) : Type 0 where
  pub start : State
  pub edits : List Change
  pub last : List Change
  pub after : D
  pub opened : Opens files disk old path start
  pub back : IsBack files disk new path after
  pub run : RunsCommitter disk opened.before after start
  pub keeps : EachCrash disk after (λ c. StandsFor c (after_all start edits)
      ⊎ StandsFor c (after_all start (edits ++ last)))

-- the disk at the path wasn't one to serve for this fault, and was only read
pub record IsUnserved {F D : Type 0} (files : FileGhosts F D) (disk : DiskGhosts D) (old new : F)
    (path : List ℕ) (f : CommandFault) : Type 0 where
  pub before : D
  pub after : D
  pub found : files.at old path ≡ Some before
  pub back : IsBack files disk new path after
  pub read : IsOnlyRead disk before after
  pub fault : IsShowingFault (disk.honest before) (disk.bytes before) f

-- the faults of letting connections in, and of waiting for the end
abbrev pub IsAttendingFault : CommandFault → Type 0
IsAttendingFault f = (f ≡ Device) ⊎ (f ≡ Memory)

-- and those of a store that is served
abbrev pub IsServingFault : CommandFault → Type 0
IsServingFault f = IsAttendingFault f ⊎ (f ≡ StoreFailed)

-- by a fault that isn't the store's: neither stream was touched, or one of them failed
abbrev pub BlamesStreams : {R W : Type 0} → (old new : Streams R W) → Type 0
BlamesStreams old new = (new ≡ old) ⊎ (failures old < failures new)

-- it ended by a fault
pub data EndsBadly {F D : Type 0} (files : FileGhosts F D) (disk : DiskGhosts D) (old new : F)
    (path : List ℕ) (f : CommandFault) : Type 0 where
  not_opened : f ≡ Device → KeepsAll files.at old new → EndsBadly files disk old new path f
  unserved : IsUnserved files disk old new path f → EndsBadly files disk old new path f
  broken_off : IsServingFault f → (b : BreaksOff files disk old new path)
      → (f ≡ StoreFailed → HasBroken disk b.opened.before b.after b.run.run.last)
      → EndsBadly files disk old new path f
