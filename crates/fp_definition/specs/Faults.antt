-- The code's faults beside those of the definitions.
use Rattle.std.specs.Prelude.{ℕ, List, codes, Option, Some, None, IfSome, string_bytes}
use Rattle.fp_definition.specs.Valid as is
use Rattle.fp_definition.specs.Valid.{Fault}
use Rattle.fp_definition.specs.declared.faults.DefFault.{DefFault}
use Rattle.fp_definition.specs.declared.faults.DefFault.TheVariants.{
  TooDeep,
  WholeNumbersOnly,
  TooLarge,
  NotObject,
  BadState,
  BadVariants,
  BadDefault,
  BadMetadata,
  UnsupportedOperator,
  BadRule,
  Memory,
}

-- what a fault says of the data; want of memory says nothing of them
abbrev pub tells : DefFault → Option Fault
tells TooDeep = Some is.too_deep
tells WholeNumbersOnly = Some is.whole_numbers_only
tells TooLarge = Some is.too_large
tells NotObject = Some is.not_object
tells BadState = Some is.bad_state
tells BadVariants = Some is.bad_variants
tells BadDefault = Some is.bad_default
tells BadMetadata = Some is.bad_metadata
tells (UnsupportedOperator name) = Some (is.unsupported_operator (string_bytes name))
tells BadRule = Some is.bad_rule
tells Memory = None

-- the same as a relation
abbrev pub Tells : DefFault → (Fault → Type 0) → Type 0
Tells e Has = IfSome (tells e) Has

-- the word by which replies name a fault
abbrev pub word_of : Fault → List ℕ
word_of is.too_deep = codes "too-deep"
word_of is.whole_numbers_only = codes "whole-numbers-only"
word_of is.too_large = codes "too-large"
word_of is.not_object = codes "not-object"
word_of is.bad_state = codes "bad-state"
word_of is.bad_variants = codes "bad-variants"
word_of is.bad_default = codes "bad-default"
word_of is.bad_metadata = codes "bad-metadata"
word_of (is.unsupported_operator name) = codes "unsupported-operator"
word_of is.bad_rule = codes "bad-rule"

abbrev pub word_or : List ℕ → Option Fault → List ℕ
word_or other None = other
word_or other (Some f) = word_of f

-- the same for the code's faults
abbrev pub text_of : DefFault → List ℕ
text_of e = word_or (codes "out-of-memory") (tells e)
