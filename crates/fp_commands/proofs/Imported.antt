-- Documents that are imported, and what is wrong with them.
use Rattle.std.proofs.Common.{◌≡◌, ℕ, List, Option, Err, IfSome, string_bytes, arith}
use Rattle.std.proofs.lemmas.Option.{IfSome_then}
use Rattle.fp_edit.specs.Flags.{State}
use Rattle.fp_imports.specs.Faults.{Tells}
use Rattle.fp_imports.specs.declared.faults.ImportFault.{ImportFault}
use Rattle.fp_imports.specs.declared.faults.ImportFault.TheVariants as import
use Rattle.fp_layout.specs.declared.fault.OpenFault.{OpenFault}
use Rattle.fp_layout.specs.declared.fault.OpenFault.TheVariants as opening
use Rattle.fp_session.specs.declared.fault.ApplyFault.{ApplyFault}
use Rattle.fp_recovery.specs.Refusals.{RefusesBytes, IsUnlessWanting}
use Rattle.fp_recovery.specs.Stands.{StandsFor}
use Rattle.fp_commands.specs.declared.fault.CommandFault.{CommandFault}
use Rattle.fp_commands.specs.Documents.{import_of, IsDocumentFault}
use Rattle.fp_commands.specs.Disks.{IfFileRefused, IsImportingFault}
use Rattle.fp_commands.specs.Faults.{of_import, of_open, of_run}

-- ---- what was read

pub document-fault : (left : Option (List ℕ)) (fault : ImportFault) →
    IfSome left (λ input. Tells fault (λ f. import_of input ≡ Err f)) → IsDocumentFault left (of_import fault)
document-fault left import.NotDocument h = h
document-fault left (import.RefUnknown name) h = h
document-fault left import.RefTooDeep h = h
document-fault left (import.Flag key fault) h = h
document-fault left import.Memory h = tt
document-fault left (import.BadKey name) h = IfSome_then left h (λ input e. (string_bytes name, e))

-- ---- faults of an import

pub importing-open : (is_honest : Type 0) (c : List ℕ) (left : Option (List ℕ)) (f : OpenFault) →
    (is_honest → RefusesBytes c f) → (is_honest → IsUnlessWanting c f) → IsImportingFault is_honest c left (of_open f)
importing-open is_honest c left opening.Unformatted r none = λ h. (r h, none h)
importing-open is_honest c left (opening.UnknownVersion v) r none = λ h. (r h, none h)
importing-open is_honest c left (opening.Damaged at) r none = λ h. (r h, none h)
importing-open is_honest c left opening.Device r none = tt
importing-open is_honest c left opening.Memory r none = tt

pub importing-run : (is_honest : Type 0) (c : List ℕ) (left : Option (List ℕ)) (f : ApplyFault) →
    IsImportingFault is_honest c left (of_run f)
importing-run is_honest c left f = grind arith

pub importing-document : (is_honest : Type 0) (c : List ℕ) (left : Option (List ℕ)) (f : CommandFault) →
    (is_honest → (s : State) × StandsFor c s) → IsDocumentFault left f → IsImportingFault is_honest c left f
importing-document is_honest c left f stands h = grind arith

-- no document refuses a file
pub document-no-file : (P : Type 0) (left : Option (List ℕ)) (f : CommandFault) → IsDocumentFault left f → IfFileRefused P f
document-no-file P left f h = grind arith
