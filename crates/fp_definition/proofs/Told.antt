-- What faults tell.
use Rattle.std.proofs.Common.{◌≡◌, Some, string_bytes, refl}
use Rattle.fp_definition.specs.Valid as is
use Rattle.fp_definition.specs.Faults.{tells}
use Rattle.fp_definition.specs.declared.faults.DefFault.{DefFault}
use Rattle.fp_definition.specs.declared.faults.DefFault.TheVariants as fault

-- every fault but want of memory tells something
pub told : (e : DefFault) → (e ≡ fault.Memory → ⊥) → (f : is.Fault) × (tells e ≡ Some f)
told fault.TooDeep h = (is.too_deep, refl)
told fault.WholeNumbersOnly h = (is.whole_numbers_only, refl)
told fault.TooLarge h = (is.too_large, refl)
told fault.NotObject h = (is.not_object, refl)
told fault.BadState h = (is.bad_state, refl)
told fault.BadVariants h = (is.bad_variants, refl)
told fault.BadDefault h = (is.bad_default, refl)
told fault.BadMetadata h = (is.bad_metadata, refl)
told (fault.UnsupportedOperator name) h = (is.unsupported_operator (string_bytes name), refl)
told fault.BadRule h = (is.bad_rule, refl)
told fault.Memory h = absurd (h refl)
