-- Flagd documents that are imported.
use Rattle.std.specs.Prelude.{◌≡◌, ℕ, List, Option, Some, None, Result, Err, IfSome, IsSomeAnd}
use Rattle.std.specs.Prelude.{string_bytes}
use Rattle.serde_json.specs.Data.{Data}
use Rattle.fp_base.specs.Json.{json_of}
use Rattle.fp_definition.specs.Faults.{tells}
use Rattle.fp_definition.specs.Key.{key_bytes}
use Rattle.fp_imports.specs.Document.{Flag, Refusal, document, not_document, unknown_evaluator}
use Rattle.fp_imports.specs.Document.{nested_too_deep, bad_flag, bad_key}
use Rattle.fp_commands.specs.declared.fault.CommandFault.{CommandFault}
use Rattle.fp_commands.specs.declared.fault.CommandFault.TheVariants as fault

abbrev pub import_of_data : Option Data → Result (List Flag) Refusal
import_of_data None = Err not_document
import_of_data (Some d) = document d

-- the flags of the document that the bytes are, or why they are none
abbrev pub import_of : List ℕ → Result (List Flag) Refusal
import_of bytes = import_of_data (json_of bytes)

-- the fault is that of the document that is read, or reading it failed
abbrev pub IsDocumentFault : Option (List ℕ) → CommandFault → Type 0
IsDocumentFault left fault.NotDocument = IfSome left (λ input. import_of input ≡ Err not_document)
IsDocumentFault left (fault.UnknownEvaluator name) = IfSome left (λ input. import_of input
    ≡ Err (unknown_evaluator (string_bytes name)))
IsDocumentFault left fault.EvaluatorsTooDeep = IfSome left (λ input. import_of input
    ≡ Err nested_too_deep)
IsDocumentFault left fault.BadKey = IfSome left (λ input. (key : List ℕ)
    × (import_of input ≡ Err (bad_key key)))
IsDocumentFault left (fault.Flag key broken) = IfSome left (λ input. IsSomeAnd (tells broken)
    (λ f. import_of input ≡ Err (bad_flag (key_bytes key) f)))
IsDocumentFault left fault.Device = Unit {0}
IsDocumentFault left fault.Memory = Unit {0}
IsDocumentFault left other = ⊥
