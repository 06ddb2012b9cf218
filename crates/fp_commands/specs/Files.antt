-- What a command does with the file that its words name.
use Rattle.std.specs.Prelude.{◌≡◌, ◌≢◌, ◌⊎◌, ◌<◌, ◌+◌, ℕ, List, [], ◌∷◌, ◌++◌, Bool, Option}
use Rattle.std.specs.Prelude.{Result, Ok, Err, IfErr, OnOk, IfOk, IfSome}
use Rattle.fp_disk.specs.Crashes.{AtAnyMoment, EachCrash, IsUntouched, SameHonesty}
use Rattle.fp_disk.specs.History.{Makes}
use Rattle.fp_disk.specs.Outcomes.{IsOutcome, all_synced}
use Rattle.fp_disk.specs.declared.disk.Disk.{Ghosts as DiskGhosts}
use Rattle.fp_disk.specs.declared.history.CallKind.TheVariants.{Length}
use Rattle.fp_files.specs.Lending.{IsLentOnce, IsNotOpened, IsThere, IsThereOrNew}
use Rattle.fp_files.specs.declared.files.DiskFiles.{Ghosts as FileGhosts}
use Rattle.fp_files.specs.declared.openings.Purpose.{Purpose}
use Rattle.fp_files.specs.declared.openings.Purpose.TheVariants.{Making, Writing, Reading}
use Rattle.fp_layout.specs.Numbers.{STANDARD_SLOT}
use Rattle.fp_layout.specs.NewDisk.{IsNewDisk, format_calls}
use Rattle.fp_recovery.specs.Durable.{IsNewSetOrNone, IsDurable}
use Rattle.fp_recovery.specs.Refusals.{StandsForNone}
use Rattle.fp_recovery.specs.Stands.{StandsFor}
use Rattle.fp_committer.specs.Course.{RunsCommitter}
use Rattle.fp_edit.specs.Flags.{State}
use Rattle.fp_session.specs.Asks.{Ask, asked_by_input}
use Rattle.fp_session.specs.Run.{IsRunWritten, IsToldBy}
use Rattle.fp_session.specs.declared.fault.ApplyFault.{ApplyFault}
use Rattle.fp_session.specs.Numbers.{MOST_WAITING}
use Rattle.fp_streams.specs.Failures.{Stream}
use Rattle.fp_commands.specs.Disks.{AskedByDocument, AskedByLines, Blames, BlamesRun, CallsOfRun}
use Rattle.fp_commands.specs.Disks.{IfFileRefused, IfRefused, IsApplyingFault, IsImportingFault}
use Rattle.fp_commands.specs.Disks.{IsLeftOnDisk, IsMakingFault, IsOnlyRead, IsRunOnDisk}
use Rattle.fp_commands.specs.Disks.{IsShowingFault, IsShown, IsStreamFault, IsToldOnDisk, IsUnbegun}
use Rattle.fp_commands.specs.Disks.{LacksRoom}
use Rattle.fp_commands.specs.Eval.{IsEvaluated}
use Rattle.fp_commands.specs.Faults.{of_run}
use Rattle.fp_commands.specs.Task.{Task, apply, init, apply_file, show, import, eval, no_flags}
use Rattle.fp_commands.specs.declared.fault.CommandFault.{CommandFault}
use Rattle.fp_commands.specs.declared.fault.CommandFault.TheVariants.{Device, NotEmpty}
use Rattle.fp_commands.specs.declared.fault.CommandFault.TheVariants.{Memory, StoreFailed}

-- what a command reads from and writes to, at a moment
pub record Streams (R W : Type 0) : Type 0 where
  pub reader : Stream R
  pub writer : Stream W

-- how often they have failed
abbrev pub failures : {R W : Type 0} → Streams R W → ℕ
failures s = s.reader.failures + s.writer.failures

-- and the files that it opens
pub record Environment (F R W : Type 0) : Type 0 where
  pub files : F
  pub reader : Stream R
  pub writer : Stream W

abbrev pub streams_of : {F R W : Type 0} → Environment F R W → Streams R W
streams_of o = record { reader = o.reader; writer = o.writer }

-- over memory: what a run from no flags writes, or that memory ran out or a stream failed, and
-- that all was told by then, unless the writer failed: of one line at most no revision
abbrev pub AppliesInMemory : {R W : Type 0} → (R → Option (List ℕ)) → (W → Option (List ℕ))
    → Stream R → Stream R
    → Stream W → Stream W → Result (Unit {0}) CommandFault → Type 0
AppliesInMemory remaining contents r0 r w0 w (Ok x) = IfSome (remaining r0.inner) (λ input.
    (told : Bool) × (flags : State) × IsRunWritten no_flags (asked_by_input input) told
    (contents w0.inner) (contents w.inner) flags)
AppliesInMemory remaining contents r0 r w0 w (Err f) = IsStreamFault f
    × BlamesRun {A = Unit {0}} (r0.failures + w0.failures) (r.failures + w.failures) (Err f)
    × (w.failures ≡ w0.failures → IfSome (remaining r0.inner) (λ input.
    (ended : ApplyFault) × (flags : State) × (f ≡ of_run ended)
    × IsToldBy no_flags (asked_by_input input) 1 ended (contents w0.inner) (contents w.inner)
    flags flags))

-- ---- what becomes of a disk: by these, as `init_disk`, `show_disk`,
-- `apply_disk` and `import_disk` promise it

-- a disk of no flags was made of an empty one
pub record MakesDisk {R W D : Type 0} (disk : DiskGhosts D) (old new : Streams R W)
    (before after : D) (outcome : Result (Unit {0}) CommandFault) : Type 0 where
  pub unread : new.reader ≡ old.reader
  pub nothing_written : new.writer ≡ old.writer
  pub made : disk.honest before → OnOk outcome (IsNewDisk STANDARD_SLOT (disk.bytes after))
  pub sure : disk.honest before → OnOk outcome (IsDurable (disk.unsynced after) no_flags)
  pub empty : disk.honest before → OnOk outcome (disk.bytes before ≡ [])
  pub not_empty : disk.honest before → IfErr outcome (λ f. f ≡ NotEmpty → disk.bytes before ≢ [])
  pub kept : disk.honest before → IfErr outcome (λ f. (disk.bytes before ≢ []) ⊎ (f ≢ Device)
      → IsUntouched disk before after)
  pub any_moment : disk.unsynced before ≡ all_synced []
      → AtAnyMoment disk before after (IsNewSetOrNone STANDARD_SLOT)
  pub called : Makes (Length ∷ format_calls) (disk.calls before) (disk.calls after) outcome
  pub untouched : IfErr outcome (λ f. (f ≡ Device) ⊎ (disk.calls after
      ≡ disk.calls before ++ Length ∷ []))
  pub fault : IfErr outcome IsMakingFault
  pub no_failure : OnOk outcome (disk.faults after ≡ disk.faults before)
  pub cause : IfErr outcome (λ f. f ≡ Device → disk.faults before < disk.faults after)
  pub honest : SameHonesty disk before after

-- the line of what the disk stands for was written, and nothing on the disk
pub record ShowsDisk {R W D : Type 0} (disk : DiskGhosts D) (contents : W → Option (List ℕ))
    (old new : Streams R W) (before after : D) (outcome : Result
    (Unit {0}) CommandFault) : Type 0 where
  pub unread : new.reader ≡ old.reader
  pub shown : OnOk outcome (IsShown (disk.honest before) (disk.bytes before)
      (contents old.writer.inner) (contents new.writer.inner))
  pub only_read : IsOnlyRead disk before after
  pub fault : IfErr outcome (IsShowingFault (disk.honest before) (disk.bytes before))
  pub nothing_written : IfErr outcome (IfRefused (new.writer ≡ old.writer))
  pub untold : IfErr outcome (λ _. new.writer.failures ≡ old.writer.failures
      → new.writer ≡ old.writer)
  pub nothing_stood : disk.honest before → StandsForNone (disk.bytes before)
      → new.writer ≡ old.writer
  pub device : Blames (disk.faults before + old.writer.failures)
      (disk.faults after + new.writer.failures) outcome
  pub no_failure : OnOk outcome (disk.faults after ≡ disk.faults before)
  pub honest : SameHonesty disk before after

-- what is asked of it, read from the reader in this way, was answered, and led what the disk stood
-- for to what it stands for; so much of it may be on its way at once
pub record RunsOnDisk {R W D : Type 0} (disk : DiskGhosts D) (remaining : R
    → Option (List ℕ)) (contents : W → Option (List ℕ))
    (Reads : List ℕ → List Ask → Type 0) (most : ℕ) (MayEnd : Type 0 → List ℕ → Option (List ℕ)
    → CommandFault → Type 0)
    (old new : Streams R W) (before after : D) (outcome : Result Bool CommandFault)
    : Type 0 where
  -- `Ok`: the input led, as a run, from some flags to others, and what that writes was written. H:
  -- the bytes stood for the first, every crash state now stands for the last. `Ok(true)`: what was
  -- written is exactly the script of the input.
  pub run : IfOk outcome (λ told. IsRunOnDisk (disk.honest before) (disk.bytes before)
      (disk.unsynced after)
      (remaining old.reader.inner) Reads told (contents old.writer.inner)
      (contents new.writer.inner))
  -- Its calls were those of opening, then of batches (write, sync, write, sync) and of steps of
  -- compactions in their order. `Ok`: of whole batches and compactions; a fault: of some first
  -- works and a part of one more, or a part of those of opening.
  pub called : CallsOfRun (disk.calls before) (disk.calls after) outcome
  -- H: whatever comes back, bytes that stood for a set stand for what some first of what is asked
  -- makes of it.
  pub left : disk.honest before →
      IsLeftOnDisk (disk.bytes before) (disk.bytes after) (remaining old.reader.inner) Reads
  -- H: so does any crash state at any moment, but for those that the disk had before it was opened.
  pub any_moment : AtAnyMoment disk before after (λ c. IsOutcome (disk.unsynced before) c
      ⊎ IsLeftOnDisk (disk.bytes before) c (remaining old.reader.inner) Reads)
  -- From its opening to its end the disk was called by a committer alone: H: at any moment all
  -- edits that were settled by then are kept. Or it was only read.
  pub committed : IsOnlyRead disk before after ⊎ ((start : State)
      × (disk.honest before → StandsFor (disk.bytes before) start)
      × RunsCommitter disk before after start)
  -- H: at a fault, unless the writer failed: no run had begun, which is not so at `StoreFailed`,
  -- and nothing was written, on the disk neither; or each crash state stands for flags of which all
  -- was told, but for one batch at most (of `apply_disk` one line): it is told no revision, by
  -- `store-failed`, or nothing where memory was wanting.
  pub told : disk.honest before → IfErr outcome (λ f. new.writer.failures ≡ old.writer.failures
      → IsUnbegun disk f before after old.writer new.writer
      ⊎ EachCrash disk after (λ c. IsToldOnDisk (disk.bytes before) c
      (remaining old.reader.inner) Reads most f
      (contents old.writer.inner) (contents new.writer.inner)))
  -- A fault is one of the bytes, `Device`, `StoreFailed` or `Memory`. H: opening refuses the bytes
  -- so, and they stand for no set. `import_disk` has its document's first fault too. H: that only
  -- where the bytes stand for a set.
  pub fault : IfErr outcome (MayEnd (disk.honest before) (disk.bytes before)
      (remaining old.reader.inner))
  -- A fault of the bytes or of the document: nothing was written to the output.
  pub nothing_written : IfErr outcome (IfRefused (new.writer ≡ old.writer))
  -- H: of bytes that stand for no set, whatever comes back: the disk was only read, as `only_read`
  -- has it, and reader and writer are as they were.
  pub nothing_stood : disk.honest before → StandsForNone (disk.bytes before)
      → IsOnlyRead disk before after × (new.reader ≡ old.reader) × (new.writer ≡ old.writer)
  -- A fault of the bytes or of the document: its calls were some first ones of sync and length, or
  -- these and reads behind them. H: the bytes stay, and any crash state at any moment is one from
  -- before.
  pub only_read : IfErr outcome (IfRefused (IsOnlyRead disk before after))
  -- A fault of the bytes: the reader is as it was.
  pub unread : IfErr outcome (IfFileRefused (new.reader ≡ old.reader))
  -- `StoreFailed`: the disk failed, or there is no room: some first of what is asked led to flags,
  -- and a batch of further edits to what more of it leads to. H: every crash state stands for these
  -- flags, is full for the batch, and of the last generation.
  pub cause : IfErr outcome (λ f. f ≡ StoreFailed → LacksRoom (disk.honest before)
      (disk.bytes before)
      (disk.unsynced after) (remaining old.reader.inner) Reads
      ⊎ (disk.faults before < disk.faults after))
  -- `Memory`: no call of the disk failed.
  pub memory : IfErr outcome (λ f. f ≡ Memory → disk.faults after ≡ disk.faults before)
  -- `Device` only where the disk, the reader or the writer failed, and `Ok` only where none did.
  pub device : BlamesRun (disk.faults before + failures old) (disk.faults after + failures new)
      outcome
  -- At any fault but `Device` the reader didn't fail.
  pub read : IfErr outcome (λ f. f ≢ Device → new.reader.failures ≡ old.reader.failures)
  -- `Ok`: no call of the disk failed.
  pub no_failure : OnOk outcome (disk.faults after ≡ disk.faults before)
  -- The disk is honest exactly if it was before.
  pub honest : SameHonesty disk before after

-- the lines that were read, and the puts of the document that was
abbrev pub AppliesToDisk : {R W D : Type 0} → DiskGhosts D → (R → Option (List ℕ)) → (W
    → Option (List ℕ))
    → Streams R W → Streams R W → D → D → Result Bool CommandFault → Type 0
AppliesToDisk disk remaining contents old new before after outcome =
    RunsOnDisk disk remaining contents AskedByLines 1
    (λ is_honest c left. IsApplyingFault is_honest c) old new before after outcome

abbrev pub ImportsToDisk : {R W D : Type 0} → DiskGhosts D → (R → Option (List ℕ)) → (W
    → Option (List ℕ))
    → Streams R W → Streams R W → D → D → Result Bool CommandFault → Type 0
ImportsToDisk disk remaining contents old new before after outcome =
    RunsOnDisk disk remaining contents AskedByDocument MOST_WAITING IsImportingFault old new before
    after outcome

-- the reply for a flag of what the disk stands for was written, and nothing on the disk
pub record EvaluatesOnDisk {R W D : Type 0} (disk : DiskGhosts D) (remaining : R
    → Option (List ℕ))
    (contents : W → Option (List ℕ)) (key : List ℕ) (now : ℕ) (old new : Streams R W)
    (before after : D) (outcome : Result (Unit {0}) CommandFault) : Type 0 where
  pub evaluated : OnOk outcome (IsEvaluated (disk.honest before) (disk.bytes before) key now
      (remaining old.reader.inner) (contents old.writer.inner) (contents new.writer.inner))
  pub only_read : IsOnlyRead disk before after
  pub fault : IfErr outcome (IsShowingFault (disk.honest before) (disk.bytes before))
  pub unread : IfErr outcome (IfFileRefused (new.reader ≡ old.reader))
  pub nothing_written : IfErr outcome (IfRefused (new.writer ≡ old.writer))
  pub untold : IfErr outcome (λ _. new.writer.failures ≡ old.writer.failures
      → new.writer ≡ old.writer)
  pub nothing_stood : disk.honest before → StandsForNone (disk.bytes before)
      → (new.reader ≡ old.reader) × (new.writer ≡ old.writer)
  pub device : Blames (disk.faults before + failures old) (disk.faults after + failures new) outcome
  pub no_failure : OnOk outcome (disk.faults after ≡ disk.faults before)
  pub honest : SameHonesty disk before after

-- ---- over files

-- this disk was at the path; where one is to be made it may be a new one
abbrev pub IsFound : {F D : Type 0} → FileGhosts F D → DiskGhosts D → F → List ℕ → Purpose → D
    → Type 0
IsFound files disk old path Making before = IsThereOrNew files disk old path before
IsFound files disk old path purpose before = IsThere files old path before

-- A file was opened alone, once and for this, the disk that was found there became another,
-- which stands there now, and this is what was done with it
pub record OverFile {F D : Type 0} (files : FileGhosts F D) (disk : DiskGhosts D) (old new : F)
    (path : List ℕ) (purpose : Purpose) (Does : D → D → Type 0) : Type 0 where
  pub before : D
  pub after : D
  pub found : IsFound files disk old path purpose before
  pub lent : IsLentOnce files disk old new path purpose after
  pub does : Does before after

-- the file wasn't opened for this, for which a device is blamed, and nothing was read or written
pub record FailsToOpen {F R W D : Type 0} (files : FileGhosts F D) (old new : Environment F R W)
    (path : List ℕ) (purpose : Purpose) (fault : CommandFault) : Type 0 where
  pub not_opened : IsNotOpened files old.files new.files path purpose
  pub is_device : fault ≡ Device
  pub unread : new.reader ≡ old.reader
  pub nothing_written : new.writer ≡ old.writer

-- what a task over the disk at a path comes to
abbrev pub OnFile : {F R W D A : Type 0} → FileGhosts F D → DiskGhosts D → Environment F R W
    → Environment F R W → List ℕ → Purpose
    → (Streams R W → Streams R W → D → D → Result A CommandFault → Type 0)
    → Result (Unit {0}) CommandFault → Type 0
OnFile {A = A} files disk old new path purpose Does (Ok x) =
    (a : A) × OverFile files disk old.files new.files path purpose
    (λ before after. Does (streams_of old) (streams_of new) before after (Ok a))
OnFile files disk old new path purpose Does (Err f) =
    FailsToOpen files old new path purpose f
    ⊎ OverFile files disk old.files new.files path purpose
    (λ before after. Does (streams_of old) (streams_of new) before after (Err f))

-- What a task comes to: it is done, or this fault ended it. Over memory no file is opened; what
-- changes a file has its lock, and what shows it opens it for reading alone
abbrev pub Performs : {F R W D : Type 0} → FileGhosts F D → DiskGhosts D → (R → Option (List ℕ))
    → (W → Option (List ℕ)) → Environment F R W → Environment F R W → Task → ℕ
    → Result (Unit {0}) CommandFault → Type 0
Performs files disk remaining contents old new apply now outcome = (new.files ≡ old.files)
    × AppliesInMemory remaining contents old.reader new.reader old.writer new.writer outcome
Performs files disk remaining contents old new (init path) now outcome =
    OnFile files disk old new path Making (MakesDisk disk) outcome
Performs files disk remaining contents old new (show path) now outcome =
    OnFile files disk old new path Reading (ShowsDisk disk contents) outcome
Performs files disk remaining contents old new (apply_file path) now outcome =
    OnFile files disk old new path Writing (AppliesToDisk disk remaining contents) outcome
Performs files disk remaining contents old new (import path) now outcome =
    OnFile files disk old new path Writing (ImportsToDisk disk remaining contents) outcome
Performs files disk remaining contents old new (eval path key) now outcome =
    OnFile files disk old new path Reading (EvaluatesOnDisk disk remaining contents key now) outcome
