-- What a task of the service comes to: what it leaves, its status and what is told of its end.
use Rattle.std.specs.Prelude.{◌≡◌, ◌≢◌, ◌≤◌, ◌⊎◌, ◌++◌, ℕ, List, [], ◌∷◌, Option, Some, Result, Err, OnOk, IfErr}
use Rattle.std.specs.Io.KnownBytes.{Appends, IsAtEnd}
use Rattle.fp_commands.specs.Faults.{fault_text}
use Rattle.fp_commands.specs.Files.{Environment, failures, streams_of}
use Rattle.fp_commands.specs.Task.{IsStatusOf}
use Rattle.fp_commands.specs.declared.fault.CommandFault.{CommandFault}
use Rattle.fp_commands.specs.declared.fault.CommandFault.TheVariants.{StoreFailed}
use Rattle.fp_disk.specs.declared.disk.Disk.{Ghosts as DiskGhosts}
use Rattle.fp_files.specs.Openings.{KeepsOthers}
use Rattle.fp_files.specs.declared.files.DiskFiles.{Ghosts as FileGhosts}
use Rattle.fp_files.specs.declared.openings.Purpose.TheVariants.{Writing}
use Rattle.fp_stream.specs.Frames.{Snapshot}
use Rattle.fp_stream.specs.Reading.{Reads}
use Rattle.fp_stream.specs.Watching.{fault_in, lines_of, text_of}
use Rattle.fp_stream.specs.declared.hello.Hello.TheVariants.{Nothing}
use Rattle.fp_stream.specs.declared.watch.WatchFault.{WatchFault}
use Rattle.fp_stream.specs.declared.watch.WatchFault.TheVariants.{Device}
use Rattle.fp_streams.specs.Failures.{Stream}
use Rattle.fp_server.specs.Ends.{BlamesStreams, EndsBadly, EndsWell}
use Rattle.fp_server.specs.declared.task.Task.{Task}
use Rattle.fp_server.specs.declared.task.Task.TheVariants.{Serve, Watch}

-- ---- a service at a path

-- how it ended, which is well only where its input has ended; that path alone was opened, once, to
-- be written, and a store that failed is told only where no stream failed
pub record Serves {F D R W : Type 0} (files : FileGhosts F D) (disk : DiskGhosts D)
    (remaining : R → Option (List ℕ)) (contents : W → Option (List ℕ)) (old new : Environment F R W)
    (path : List ℕ) (outcome : Result (Unit {0}) CommandFault) : Type 0 where
  -- `Ok`: the disk at the path held some flags, and some edits were sealed; what was written is the
  -- three addresses, each on a line behind its name, and `stopped at revision N` with the revision
  -- that these edits make. H: the disk is at its path again, and every crash state stands for the
  -- flags with these edits. From its opening to its end it was called by a committer alone, so that
  -- H: any crash state at any moment is one that there might have been before, or stands for the
  -- flags with some first of these edits, all that were settled by then among them.
  pub well : OnOk outcome (EndsWell files disk old.files new.files path
      (contents old.writer.inner) (contents new.writer.inner))
  -- `Ok`: the input has ended.
  pub ended : OnOk outcome (IsAtEnd (remaining new.reader.inner))
  -- A fault is one of three. `Device`, and each path has what it had. Or the disk was only read, H:
  -- is back at its path, and the fault is that of its bytes, `Device` or `Memory`. Or the fault is
  -- `Device`, `Memory` or `StoreFailed`, this only where the disk failed since, or there is no room
  -- for what was drawn and no generation to make it. H: the disk is back then, every crash state
  -- stands for the flags with some edits, or with one batch more, and at any moment as above.
  pub badly : IfErr outcome (EndsBadly files disk old.files new.files path)
  -- `StoreFailed` only where neither the reader nor the writer failed.
  pub calm : IfErr outcome (λ f. f ≡ StoreFailed
      → failures (streams_of new) ≡ failures (streams_of old))
  -- Any other fault: the reader and the writer are as they were, so that nothing was said, or one of
  -- them failed.
  pub blames : IfErr outcome (λ f. f ≢ StoreFailed → BlamesStreams (streams_of old) (streams_of new))
  -- This path alone is asked for, once, to be written, which wants its lock.
  pub asked : files.asked new.files ≡ files.asked old.files ++ (path, Writing) ∷ []
  -- At each other path stays what was there.
  pub others : KeepsOthers files.at old.files new.files path

-- ---- what a service elsewhere sends

-- Some bytes came to who has nothing, and each frame in them was shown, in order, and nothing else:
-- up to a fault, or up to less than a whole frame
pub record ShowsFrames (before held : Option (List ℕ)) (outcome : Result (Unit {0}) WatchFault)
    : Type 0 where
  pub bytes : List ℕ
  pub frames : List Snapshot
  pub rest : List ℕ
  pub read : Reads Nothing bytes frames rest (fault_in outcome)
  pub shown : Appends before held (lines_of frames)

-- by the writer's failures: it failed only where a device is blamed
abbrev pub BlamesWriter : ℕ → ℕ → Result (Unit {0}) WatchFault → Type 0
BlamesWriter before after outcome = (outcome ≡ Err Device) ⊎ (after ≤ before)

-- it was shown, unless the writer failed; no file was opened, and nothing was read of the input
pub record ShowsService {F R W : Type 0} (contents : W → Option (List ℕ))
    (old new : Environment F R W) (outcome : Result (Unit {0}) WatchFault) : Type 0 where
  pub unopened : new.files ≡ old.files
  pub unread : new.reader ≡ old.reader
  pub shown : new.writer.failures ≡ old.writer.failures
      → ShowsFrames (contents old.writer.inner) (contents new.writer.inner) outcome
  pub device : BlamesWriter old.writer.failures new.writer.failures outcome

-- ---- a task

-- it ended somehow, and this is what it then leaves, its status, and what the error stream is told
abbrev pub Attends : {F D R W E : Type 0} → FileGhosts F D → DiskGhosts D → (R → Option (List ℕ)) → (W → Option (List ℕ))
    → (E → Option (List ℕ)) → Environment F R W → Environment F R W → Stream E → Stream E → Task
    → ℕ → Type 0
Attends files disk remaining contents told old new e0 e (Serve path addresses) status =
    (outcome : Result (Unit {0}) CommandFault)
    × Serves files disk remaining contents old new path.now outcome
    × IsStatusOf (λ f. Some (fault_text f)) told e0 e outcome status
Attends files disk remaining contents told old new e0 e (Watch address) status =
    (outcome : Result (Unit {0}) WatchFault) × ShowsService contents old new outcome
    × IsStatusOf (λ f. Some (text_of f)) told e0 e outcome status
