-- Why a command gave up: the texts, and where each fault comes from.
use Rattle.std.specs.Prelude.{ℕ, List, ◌++◌, codes, decimal, string_bytes}
use Rattle.fp_definition.specs.Faults as definition
use Rattle.fp_definition.specs.Key.{key_bytes}
use Rattle.fp_imports.specs.declared.faults.ImportFault.{ImportFault}
use Rattle.fp_imports.specs.declared.faults.ImportFault.TheVariants as import
use Rattle.fp_layout.specs.declared.fault.OpenFault.{OpenFault}
use Rattle.fp_layout.specs.declared.fault.OpenFault.TheVariants as opening
use Rattle.fp_session.specs.Fault as run_fault
use Rattle.fp_session.specs.declared.fault.ApplyFault.{ApplyFault}
use Rattle.fp_session.specs.declared.fault.ApplyFault.TheVariants as run
use Rattle.fp_streams.specs.declared.counted.StreamFault.{StreamFault}
use Rattle.fp_streams.specs.declared.counted.StreamFault.TheVariants as stream
use Rattle.fp_commands.specs.declared.fault.CommandFault.{CommandFault}
use Rattle.fp_commands.specs.declared.fault.CommandFault.TheVariants.{NotEmpty, Unformatted}
use Rattle.fp_commands.specs.declared.fault.CommandFault.TheVariants.{UnknownVersion, Damaged}
use Rattle.fp_commands.specs.declared.fault.CommandFault.TheVariants.{Device, StoreFailed, Memory}
use Rattle.fp_commands.specs.declared.fault.CommandFault.TheVariants.{NotDocument, UnknownEvaluator}
use Rattle.fp_commands.specs.declared.fault.CommandFault.TheVariants.{EvaluatorsTooDeep, BadKey}
use Rattle.fp_commands.specs.declared.fault.CommandFault.TheVariants.{Flag}

-- what stands behind the program's name on the error stream
abbrev pub fault_text : CommandFault → List ℕ
fault_text NotEmpty = codes "file is not empty"
fault_text Unformatted = codes "not a flagplane file"
fault_text (UnknownVersion version) = codes "unknown version " ++ decimal version
fault_text (Damaged at) = codes "damaged at byte " ++ decimal at
fault_text Device = run_fault.text_of run.Device
fault_text StoreFailed = run_fault.text_of run.StoreFailed
fault_text Memory = run_fault.text_of run.Memory
fault_text NotDocument = codes "not a flag document"
fault_text (UnknownEvaluator name) = codes "unknown evaluator " ++ string_bytes name
fault_text EvaluatorsTooDeep = codes "evaluators nested too deep"
fault_text BadKey = codes "bad key"
fault_text (Flag key fault) = codes "flag " ++ key_bytes key ++ codes ": "
    ++ definition.text_of fault

-- ---- the faults of what a command does

abbrev pub of_open : OpenFault → CommandFault
of_open opening.Unformatted = Unformatted
of_open (opening.UnknownVersion version) = UnknownVersion version
of_open (opening.Damaged at) = Damaged at
of_open opening.Device = Device
of_open opening.Memory = Memory

abbrev pub of_import : ImportFault → CommandFault
of_import import.NotDocument = NotDocument
of_import (import.RefUnknown name) = UnknownEvaluator name
of_import import.RefTooDeep = EvaluatorsTooDeep
of_import (import.Flag key fault) = Flag key fault
of_import import.Memory = Memory
of_import (import.BadKey name) = BadKey

abbrev pub of_run : ApplyFault → CommandFault
of_run run.Device = Device
of_run run.StoreFailed = StoreFailed
of_run run.Memory = Memory
of_run run.CommitMemory = Memory

abbrev pub of_stream : StreamFault → CommandFault
of_stream stream.Device = Device
of_stream stream.Memory = Memory
