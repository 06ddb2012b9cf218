-- What a command over a disk comes to.
use Rattle.std.specs.Prelude.{◌≡◌, ◌≢◌, ◌⊎◌, ◌<◌, ◌≤◌, ◌+◌, ◌^◌, ℕ, List, [], ◌∷◌, ◌++◌, length}
use Rattle.std.specs.Prelude.{Bool, true, Option, IfSome, Result, Ok, Err}
use Rattle.std.specs.Io.KnownBytes.{Appends}
use Rattle.fp_disk.specs.Crashes.{StaysAsItWas}
use Rattle.fp_disk.specs.History.{MakesSome}
use Rattle.fp_disk.specs.Outcomes.{PendingState}
use Rattle.fp_disk.specs.declared.disk.Disk.{Ghosts}
use Rattle.fp_disk.specs.declared.history.CallKind.TheVariants.{Length, Sync}
use Rattle.fp_edit.specs.Flags.{State}
use Rattle.fp_journal.specs.Pieces.{ThenReads, ThenSomeReads}
use Rattle.fp_layout.specs.declared.fault.OpenFault.{OpenFault}
use Rattle.fp_layout.specs.declared.fault.OpenFault.TheVariants as opening
use Rattle.fp_imports.specs.Document as document
use Rattle.fp_edit.specs.Edits.{Change}
use Rattle.fp_edit.specs.Log.{after_all}
use Rattle.fp_session.specs.Asks.{Ask, asked_by_flags, asked_by_input}
use Rattle.fp_session.specs.Run.{after, IsAfterPrefix, IsRunWritten, IsToldBy, script, show_line}
use Rattle.fp_committer.specs.Works.{Leads, MayCome, Work, calls_of, work_calls}
use Rattle.fp_slots.specs.declared.slots.Step.{Step}
use Rattle.fp_slots.specs.declared.slots.Step.TheVariants.{Begin}
use Rattle.fp_session.specs.declared.fault.ApplyFault.{ApplyFault}
use Rattle.fp_disk.specs.declared.history.CallKind.{CallKind}
use Rattle.fp_recovery.specs.Durable.{IsDurable}
use Rattle.fp_recovery.specs.Refusals.{RefusesBytes, StandsForNone}
use Rattle.fp_recovery.specs.Room.{IsFull}
use Rattle.fp_recovery.specs.Stands.{StandsFor}
use Rattle.fp_commands.specs.Documents.{import_of, IsDocumentFault}
use Rattle.fp_commands.specs.Faults.{of_run}
use Rattle.fp_commands.specs.declared.fault.CommandFault.{CommandFault}
use Rattle.fp_commands.specs.declared.fault.CommandFault.TheVariants.{NotEmpty, Unformatted}
use Rattle.fp_commands.specs.declared.fault.CommandFault.TheVariants.{UnknownVersion, Damaged}
use Rattle.fp_commands.specs.declared.fault.CommandFault.TheVariants.{Device, StoreFailed, Memory}
use Rattle.fp_commands.specs.declared.fault.CommandFault.TheVariants.{NotDocument, UnknownEvaluator}
use Rattle.fp_commands.specs.declared.fault.CommandFault.TheVariants.{EvaluatorsTooDeep, BadKey}
use Rattle.fp_commands.specs.declared.fault.CommandFault.TheVariants.{Flag}

-- ---- faults

-- the faults of making a disk
abbrev pub IsMakingFault : CommandFault → Type 0
IsMakingFault NotEmpty = Unit {0}
IsMakingFault Device = Unit {0}
IsMakingFault Memory = Unit {0}
IsMakingFault f = ⊥

-- the faults of writing a line
abbrev pub IsStreamFault : CommandFault → Type 0
IsStreamFault Device = Unit {0}
IsStreamFault Memory = Unit {0}
IsStreamFault f = ⊥

-- opening refuses the bytes for this fault, and they stand for nothing;
-- of a disk that claims no honesty that isn't said
abbrev pub IsRefusal : Type 0 → List ℕ → OpenFault → Type 0
IsRefusal is_honest c fault = is_honest → RefusesBytes c fault × StandsForNone c

-- the faults of showing what bytes stand for:
-- opening refuses them, or memory, the device or the writer failed
abbrev pub IsShowingFault : Type 0 → List ℕ → CommandFault → Type 0
IsShowingFault is_honest c Unformatted = IsRefusal is_honest c opening.Unformatted
IsShowingFault is_honest c (UnknownVersion version) = IsRefusal is_honest c
    (opening.UnknownVersion version)
IsShowingFault is_honest c (Damaged at) = IsRefusal is_honest c (opening.Damaged at)
IsShowingFault is_honest c Device = Unit {0}
IsShowingFault is_honest c Memory = Unit {0}
IsShowingFault is_honest c f = ⊥

-- the same where edits are kept as well
abbrev pub IsApplyingFault : Type 0 → List ℕ → CommandFault → Type 0
IsApplyingFault is_honest c StoreFailed = Unit {0}
IsApplyingFault is_honest c f = IsShowingFault is_honest c f

-- the document is refused for this fault, and the bytes stand for a set, since a file is opened
-- before anything is read; of a disk that claims no honesty the latter isn't said
abbrev pub IsInputRefusal : Type 0 → List ℕ → Option (List ℕ) → CommandFault → Type 0
IsInputRefusal is_honest c left f = (is_honest → (s : State) × StandsFor c s)
    × IsDocumentFault left f

-- the same where a document is read as well
abbrev pub IsImportingFault : Type 0 → List ℕ → Option (List ℕ) → CommandFault → Type 0
IsImportingFault is_honest c left NotDocument = IsInputRefusal is_honest c left NotDocument
IsImportingFault is_honest c left (UnknownEvaluator name) = IsInputRefusal is_honest c left
    (UnknownEvaluator name)
IsImportingFault is_honest c left EvaluatorsTooDeep = IsInputRefusal is_honest c left
    EvaluatorsTooDeep
IsImportingFault is_honest c left BadKey = IsInputRefusal is_honest c left BadKey
IsImportingFault is_honest c left (Flag key fault) = IsInputRefusal is_honest c left
    (Flag key fault)
IsImportingFault is_honest c left f = IsApplyingFault is_honest c f

-- this holds where the bytes or what was read is at fault,
-- and neither a device, the store nor memory
abbrev pub IfRefused : Type 0 → CommandFault → Type 0
IfRefused p Device = Unit {0}
IfRefused p StoreFailed = Unit {0}
IfRefused p Memory = Unit {0}
IfRefused p f = p

-- this holds where the bytes are at fault
abbrev pub IfFileRefused : Type 0 → CommandFault → Type 0
IfFileRefused p NotEmpty = p
IfFileRefused p Unformatted = p
IfFileRefused p (UnknownVersion version) = p
IfFileRefused p (Damaged at) = p
IfFileRefused p f = Unit {0}

-- the calls of opening a disk, in front of its reads
abbrev pub opening_calls : List CallKind
opening_calls = Sync ∷ Length ∷ []

-- a disk was opened at most, and nothing was written on it
pub record IsOnlyRead {D : Type 0} (disk : Ghosts D) (before after : D) : Type 0 where
  pub kept : disk.honest before → StaysAsItWas disk before after
  pub called : ThenSomeReads opening_calls (disk.calls before) (disk.calls after)

-- ---- what is written, and what the disk then stands for

-- a writer holds the line of what the bytes stand for
pub record IsShown (is_honest : Type 0) (bytes : List ℕ) (old new : Option (List ℕ)) : Type 0 where
  pub flags : State
  pub stood : is_honest → StandsFor bytes flags
  pub written : Appends old new (show_line flags)

-- ---- what is asked of it

-- what the lines of an input ask
abbrev pub AskedByLines : List ℕ → List Ask → Type 0
AskedByLines input asks = asks ≡ asked_by_input input

-- a put for each flag of the document that the input is
abbrev pub AskedByDocument : List ℕ → List Ask → Type 0
AskedByDocument input asks = (flags : List document.Flag) × (import_of input ≡ Ok flags)
    × (asks ≡ asked_by_flags flags)

-- of what the reader gives, read in this way, this holds
abbrev pub Asked : Option (List ℕ) → (List ℕ → List Ask → Type 0) → (List Ask → Type 0) → Type 0
Asked left Reads Holds = IfSome left (λ input. (asks : List Ask) × Reads input asks × Holds asks)

-- all that is asked was answered, and the flags are shown: where memory didn't want, by the script
abbrev pub IsRunOver : State → Bool → Option (List ℕ) → Option (List ℕ) → State → List Ask → Type 0
IsRunOver start told old new flags asks = IsRunWritten start asks told old new flags
    × (told ≡ true → Appends old new (script start asks) × (flags ≡ after start asks))

-- it led from what the bytes stood for to what every crash leaves now
pub record IsRunOnDisk (is_honest : Type 0) (bytes : List ℕ) (now : PendingState) (left : Option
    (List ℕ))
    (Reads : List ℕ → List Ask → Type 0) (told : Bool) (old new : Option (List ℕ)) : Type 0 where
  pub start : State
  pub flags : State
  pub stood : is_honest → StandsFor bytes start
  pub sure : is_honest → IsDurable now flags
  pub run : Asked left Reads (IsRunOver start told old new flags)

-- whatever the bytes stood for, they stand for that, or for what some first
-- of what is asked makes of it
abbrev pub IsLeftOnDisk : List ℕ → List ℕ → Option (List ℕ) → (List ℕ → List Ask → Type 0) → Type 0
IsLeftOnDisk before now left Reads = (start : State) → StandsFor before start
    → (flags : State) × StandsFor now flags
    × ((flags ≡ start) ⊎ Asked left Reads (λ asks. IsAfterPrefix start asks flags))

-- And for flags that hold all that was told, where a run ended by this fault: so much at most, of
-- which no revision was told, isn't known to be kept
abbrev pub IsToldOnDisk : List ℕ → List ℕ → Option (List ℕ) → (List ℕ → List Ask → Type 0) → ℕ
    → CommandFault → (old new : Option (List ℕ)) → Type 0
IsToldOnDisk before now left Reads most fault old new = (start : State) → StandsFor before start
    → (flags : State) × (taken : State) × (ended : ApplyFault) × StandsFor now flags
    × (fault ≡ of_run ended)
    × Asked left Reads (λ asks. IsToldBy start asks most ended old new taken flags)

-- nothing was told, and the disk was only read:
-- no run had begun, and so none was ended by a store that failed
abbrev pub IsUnbegun : {D S : Type 0} → Ghosts D → CommandFault → D → D → S → S → Type 0
IsUnbegun disk fault before after old new = (fault ≢ StoreFailed) × (new ≡ old)
    × IsOnlyRead disk before after

-- Flags that some first of what is asked led to, and edits behind them that more of it asks for,
-- for which whatever a crash leaves of the disk has no room, in a generation that none follows
pub record LacksRoom (is_honest : Type 0) (bytes : List ℕ) (now : PendingState) (left : Option
    (List ℕ))
    (Reads : List ℕ → List Ask → Type 0) : Type 0 where
  pub start : State
  pub flags : State
  pub batch : List Change
  pub stood : is_honest → StandsFor bytes start
  pub some : 0 < length batch
  pub asked : Asked left Reads (λ asks. IsAfterPrefix start asks flags
      × IsAfterPrefix start asks (after_all flags batch))
  pub generation : ℕ
  pub last : 2 ^ 64 ≤ generation + 1
  pub full : is_honest
      → IsFull now flags (record { first = 0; changes = batch }) generation

-- it was opened, and its calls then were those of batches and of whole compactions beside them
pub record CallsWorks (old new : List CallKind) : Type 0 where
  pub begun : List CallKind
  pub opened : ThenReads opening_calls old begun
  pub works : List Work
  pub lead : Leads Begin works Begin
  pub calls : new ≡ begun ++ calls_of works

-- it was opened, and its calls then were those of batches,
-- of steps of compactions, and some first ones of one more
pub record CallsSomeWorks (old new : List CallKind) : Type 0 where
  pub begun : List CallKind
  pub opened : ThenReads opening_calls old begun
  pub works : List Work
  pub next : Step
  pub last : Work
  pub lead : Leads Begin works next
  pub may : MayCome next last
  pub calls : MakesSome (work_calls last) (begun ++ calls_of works) new

-- the calls of a run, where a fault ended it perhaps in the course of opening the disk
abbrev pub CallsOfRun : {A : Type 0} → (old new : List CallKind) → Result A CommandFault → Type 0
CallsOfRun old new (Ok x) = CallsWorks old new
CallsOfRun old new (Err f) = ThenSomeReads opening_calls old new ⊎ CallsSomeWorks old new

-- ---- what failed

-- by the count of failures of the disk and the streams, before and after: `Device` comes only where
-- one of them failed, and a good end or want of memory only where none did
abbrev pub Blames : {A : Type 0} → ℕ → ℕ → Result A CommandFault → Type 0
Blames before after (Ok x) = after ≡ before
Blames before after (Err Device) = before < after
Blames before after (Err Memory) = after ≡ before
Blames before after (Err f) = Unit {0}

-- the same of a run, which sends the replies that it has where memory is wanting: that may fail
abbrev pub BlamesRun : {A : Type 0} → ℕ → ℕ → Result A CommandFault → Type 0
BlamesRun before after (Ok x) = after ≡ before
BlamesRun before after (Err Device) = before < after
BlamesRun before after (Err f) = Unit {0}
