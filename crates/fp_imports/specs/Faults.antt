-- What the code's faults tell, and how what it made is seen.
use Rattle.std.specs.Prelude.{ℕ, List, IsSomeAnd, string_bytes}
use Rattle.fp_definition.specs.Faults.{tells}
use Rattle.fp_definition.specs.Key.{key_bytes}
use Rattle.fp_definition.specs.declared.key.FlagKey.{FlagKey}
use Rattle.fp_imports.specs.References as references
use Rattle.fp_imports.specs.References.{Broken}
use Rattle.fp_imports.specs.Document as document
use Rattle.fp_imports.specs.Document.{Refusal}
use Rattle.fp_imports.specs.declared.faults.ImportFault.{ImportFault}
use Rattle.fp_imports.specs.declared.faults.ImportFault.TheVariants as import
use Rattle.fp_imports.specs.declared.faults.ReferenceFault.{ReferenceFault}
use Rattle.fp_imports.specs.declared.faults.ReferenceFault.TheVariants as reference

-- of the references in a targeting; want of memory tells nothing
abbrev pub TellsBroken : ReferenceFault → (Broken → Type 0) → Type 0
TellsBroken (reference.Unknown name) Has = Has (references.unknown (string_bytes name))
TellsBroken reference.TooDeep Has = Has references.too_deep
TellsBroken reference.TooLarge Has = Has references.too_large
TellsBroken reference.Memory Has = Unit {0}

-- of a document; want of memory tells nothing, and a flag is never refused for it
abbrev pub Tells : ImportFault → (Refusal → Type 0) → Type 0
Tells import.NotDocument Has = Has document.not_document
Tells (import.RefUnknown name) Has = Has (document.unknown_evaluator (string_bytes name))
Tells import.RefTooDeep Has = Has document.nested_too_deep
Tells (import.Flag key fault) Has =
    IsSomeAnd (tells fault) (λ f. Has (document.bad_flag (key_bytes key) f))
Tells (import.BadKey name) Has = Has (document.bad_key (string_bytes name))
Tells import.Memory Has = Unit {0}

-- what was made, and the count beside it as it is
abbrev pub with_rest : {A B : Type 0} → (A → B) → A × ℕ → B × ℕ
with_rest seen p = (seen p.0, p.1)

-- a flag as documents define it, where its definition is seen as a text
abbrev pub seen_flag : FlagKey × List ℕ → document.Flag
seen_flag f = (key_bytes f.0, f.1)
