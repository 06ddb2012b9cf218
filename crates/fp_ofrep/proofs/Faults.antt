-- The outcome that an answer tells.
use Rattle.std.proofs.Common.{◌≡◌, Result, Ok, Err, refl, sym, ap, subst}
use Rattle.fp_base.specs.Answer.{Gives}
use Rattle.fp_definition.specs.Resolving.{Said, Spelling, Tells, outcome_spelled, spelled_by, spelling}
use Rattle.fp_definition.specs.declared.resolving.EvalFault.{EvalFault}
use Rattle.fp_definition.specs.declared.resolving.EvalFault.TheVariants.{Disabled, NoVariant}

abbrev ok_or : Spelling → Result Spelling EvalFault → Spelling
ok_or other (Ok s) = s
ok_or other (Err e) = other

abbrev err_or : EvalFault → Result Spelling EvalFault → EvalFault
err_or other (Ok s) = other
err_or other (Err e) = e

pub said : (o : Result Said EvalFault) (t : Spelling) → outcome_spelled o ≡ Ok t → (s : Said) × (o ≡ Ok s) × (t ≡ spelling s)
said (Ok s) t h = (s, refl, sym (ap (ok_or t) h))
said (Err e) t h = absurd (cc)

fault : (o : Result Said EvalFault) (e : EvalFault) → outcome_spelled o ≡ Err e → o ≡ Err e
fault (Ok s) e h = absurd (cc)
fault (Err f) e h = ap Err (ap (err_or f) h)

pub disabled : (o : Result Said EvalFault) (e : EvalFault) → e ≡ Disabled →
    Gives spelled_by Tells (Err e) (outcome_spelled o) → o ≡ Err Disabled
disabled o e same h = fault o Disabled (subst (λ x. Gives spelled_by Tells (Err x) (outcome_spelled o)) same h)

pub no_variant : (o : Result Said EvalFault) (e : EvalFault) → e ≡ NoVariant →
    Gives spelled_by Tells (Err e) (outcome_spelled o) → o ≡ Err NoVariant
no_variant o e same h = fault o NoVariant (subst (λ x. Gives spelled_by Tells (Err x) (outcome_spelled o)) same h)
