-- A disk that was opened, and tasks over its file.
use Rattle.std.proofs.Common.{◌≡◌, ◌≢◌, ◌⊎◌, ◌+◌, ◌∷◌, [], ◌++◌, List, ℕ, Bool, Option, Some, Result, Ok, Err, refl}
use Rattle.std.proofs.Common.{inl, inr, subst, sym, ◌∙◌}
use Rattle.fp_disk.specs.Crashes.{AtAnyMoment, SameHonesty}
use Rattle.fp_disk.specs.Moments.{leaves_map}
use Rattle.fp_disk.specs.Outcomes.{IsOutcome}
use Rattle.fp_disk.specs.declared.disk.Disk.{Ghosts as DiskGhosts}
use Rattle.fp_files.specs.Lending.{IsLentOnce}
use Rattle.fp_files.specs.Openings.{KeepsOthers}
use Rattle.fp_files.specs.declared.files.DiskFiles.{Ghosts as FileGhosts}
use Rattle.fp_files.specs.declared.openings.Purpose.{Purpose}
use Rattle.fp_journal.specs.Pieces.{ThenSomeReads}
use Rattle.fp_recovery.specs.Refusals.{StandsForNone}
use Rattle.fp_recovery.specs.Stands.{StandsFor}
use Rattle.fp_session.specs.Asks.{Ask}
use Rattle.fp_commands.specs.Disks.{BlamesRun, IfFileRefused, IsLeftOnDisk, IsOnlyRead, opening_calls}
use Rattle.fp_commands.specs.Files.{Environment, OnFile, OverFile, RunsOnDisk, Streams, failures, streams_of}
use Rattle.fp_commands.specs.declared.fault.CommandFault.{CommandFault}
use Rattle.fp_commands.specs.declared.fault.CommandFault.TheVariants.{Device, Memory, StoreFailed}
use Rattle.fp_commands.proofs.Told.{if_refused}

-- what opening leaves, whether it ends well
pub only_read : {D : Type 0} (disk : DiskGhosts D) (before after : D) →
    (disk.honest before → disk.bytes after ≡ disk.bytes before) →
    AtAnyMoment disk before after (IsOutcome (disk.unsynced before)) →
    ThenSomeReads opening_calls (disk.calls before) (disk.calls after) → IsOnlyRead disk before after
only_read disk before after same any_moment called =
    record { kept = λ h. record { bytes = same h; any_moment = any_moment h }; called = called }

-- no run was begun, for this fault: the disk was only read, and nothing was written
pub unbegun : {D R W : Type 0} (disk : DiskGhosts D) (remaining : R → Option (List ℕ))
    (contents : W → Option (List ℕ)) (Reads : List ℕ → List Ask → Type 0) (most : ℕ)
    (MayEnd : Type 0 → List ℕ → Option (List ℕ) → CommandFault → Type 0)
    (old new : Streams R W) (d0 d1 : D) (f : CommandFault) → IsOnlyRead disk d0 d1 → SameHonesty disk d0 d1 →
    f ≢ StoreFailed → MayEnd (disk.honest d0) (disk.bytes d0) (remaining old.reader.inner) f
    → new.writer ≡ old.writer → (disk.honest d0 → StandsForNone (disk.bytes d0) → new.reader ≡ old.reader) →
    IfFileRefused (new.reader ≡ old.reader) f
    → BlamesRun {A = Bool} (disk.faults d0 + failures old) (disk.faults d1 + failures new) (Err f) →
    (f ≢ Device → new.reader.failures ≡ old.reader.failures) → (f ≡ Memory → disk.faults d1 ≡ disk.faults d0)
    → RunsOnDisk disk remaining contents Reads most MayEnd old new d0 d1 (Err f)
unbegun disk remaining contents Reads most MayEnd old new d0 d1 f only honest not ends unwritten none_read unread blames calm wants =
    let left = remaining old.reader.inner in record {
      run = tt;
      called = inl only.called;
      left = λ h start there. (start, subst (λ (b : List ℕ). StandsFor b start) (sym (only.kept h).bytes) there, inl refl);
      any_moment = λ h.
          let Q : List ℕ → Type 0 = λ c. IsOutcome (disk.unsynced d0) c ⊎ IsLeftOnDisk (disk.bytes d0) c left Reads in
          leaves_map disk.moment disk.crash_states_since d0 d1 (IsOutcome (disk.unsynced d0)) Q (λ c out. inl out)
          ((only.kept h).any_moment);
      committed = inl only;
      told = λ h same. inl (not, unwritten, only);
      fault = ends;
      nothing_written = if_refused (new.writer ≡ old.writer) f unwritten;
      nothing_stood = λ h none. (only, none_read h none, unwritten);
      only_read = if_refused (IsOnlyRead disk d0 d1) f only;
      unread = unread;
      cause = λ is. absurd (not is);
      memory = wants;
      device = blames;
      read = calm;
      no_failure = tt;
      honest = honest;
    }

-- a disk that was lent and given back
pub lent_once : {F D : Type 0} (files : FileGhosts F D) (disk : DiskGhosts D) (old mid new : F) (path : List ℕ)
    (purpose : Purpose) (after : D) → files.asked mid ≡ files.asked old ++ (path, purpose) ∷ [] →
    KeepsOthers files.at old mid path → files.lent mid path → files.faults mid ≡ files.faults old
    → files.asked new ≡ files.asked mid → KeepsOthers files.at mid new path →
    (files.lent mid path → disk.honest after → files.at new path ≡ Some after) →
    files.faults new ≡ files.faults mid → IsLentOnce files disk old new path purpose after
lent_once files disk old mid new path purpose after asked others lent well asked_on others_on kept well_on =
    record {
      asked = asked_on ∙ asked;
      others = λ other apart. others_on other apart ∙ others other apart;
      kept =
          kept lent;
      no_failure = well_on ∙ well;
    }

-- what was done there is what the task comes to
pub on_file : {F R W D : Type 0} (files : FileGhosts F D) (disk : DiskGhosts D) (old new : Environment F R W)
    (path : List ℕ) (purpose : Purpose) (Does : Streams R W → Streams R W → D → D → Result (Unit {0}) CommandFault → Type 0)
    (outcome : Result (Unit {0}) CommandFault) → OverFile files disk old.files new.files path purpose
    (λ before after. Does (streams_of old) (streams_of new) before after outcome)
    → OnFile files disk old new path purpose Does outcome
on_file files disk old new path purpose Does (Ok x) h = (x, h)
on_file files disk old new path purpose Does (Err f) h = inr h

-- a fault that ended what was done there is what the task comes to
pub on_file_err : {F R W D A : Type 0} (files : FileGhosts F D) (disk : DiskGhosts D) (old new : Environment F R W)
    (path : List ℕ) (purpose : Purpose) (Does : Streams R W → Streams R W → D → D → Result A CommandFault → Type 0)
    (f : CommandFault) (ended : Result A CommandFault) (outcome : Result (Unit {0}) CommandFault) → ended ≡ Err f → outcome ≡ Err f
    → OverFile files disk old.files new.files path purpose (λ before after. Does (streams_of old) (streams_of new) before after ended)
    → OnFile files disk old new path purpose Does outcome
on_file_err files disk old new path purpose Does f ended outcome was is h =
    subst (OnFile files disk old new path purpose Does) (sym is) (inr (subst (λ o. OverFile files disk old.files new.files
    path purpose (λ before after. Does (streams_of old) (streams_of new) before after o)) was h))
