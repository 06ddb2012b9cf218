-- Turns that don't wait.
use Rattle.std.proofs.Common.{◌≡◌, Option, Some, None, subst}
use Rattle.fp_loop.specs.declared.turn.Turn.{Turn}
use Rattle.fp_loop.specs.declared.turn.Turn.TheVariants.{Waits, Goes, Over}

DoesNotWait : Option Turn → Type 0
DoesNotWait None = Unit {0}
DoesNotWait (Some Waits) = ⊥
DoesNotWait (Some Goes) = Unit {0}
DoesNotWait (Some Over) = Unit {0}

pub no_turn : {P : Type 0} → None ≡ Some Waits → P
unfolding DoesNotWait
no_turn waits = absurd (subst DoesNotWait waits tt)

pub over : {P : Type 0} → Some Over ≡ Some Waits → P
unfolding DoesNotWait
over waits = absurd (subst DoesNotWait waits tt)

pub goes : {P : Type 0} → Some Goes ≡ Some Waits → P
unfolding DoesNotWait
goes waits = absurd (subst DoesNotWait waits tt)
