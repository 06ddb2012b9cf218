-- What the faults of reading a line tell.
use Rattle.std.specs.Prelude.{ℕ, IsSomeAnd}
use Rattle.fp_definition.specs.Faults.{tells}
use Rattle.fp_edit.specs.Line as says
use Rattle.fp_edit.specs.Line.{Fault}
use Rattle.fp_edit.specs.declared.line.PartFault.{PartFault}
use Rattle.fp_edit.specs.declared.line.PartFault.TheVariants as part
use Rattle.fp_edit.specs.declared.line.LineFault.{LineFault}
use Rattle.fp_edit.specs.declared.line.LineFault.TheVariants.{TooLong, NotJson, NotObject}
use Rattle.fp_edit.specs.declared.line.LineFault.TheVariants.{BadMember, BadOp, BadKey, BadIf}
use Rattle.fp_edit.specs.declared.line.LineFault.TheVariants.{BadFlag, BadSet, InSet, Memory}

-- want of memory tells nothing of an edit of one flag, and is never told as a fault of that
abbrev pub TellsPart : PartFault → (Fault → Type 0) → Type 0
TellsPart part.NotObject Has = Has says.not_object
TellsPart part.BadMember Has = Has says.bad_member
TellsPart part.BadOp Has = Has says.bad_op
TellsPart part.BadKey Has = Has says.bad_key
TellsPart part.BadIf Has = Has says.bad_if
TellsPart (part.BadFlag e) Has = IsSomeAnd (tells e) (λ f. Has (says.bad_flag f))
TellsPart part.Memory Has = Unit {0}

-- a fault of a change in a set is told with its place, and want of memory never as one
abbrev pub TellsInSet : ℕ → PartFault → (Fault → Type 0) → Type 0
TellsInSet at part.Memory Has = ⊥
TellsInSet at e Has = TellsPart e (λ f. Has (says.in_set at f))

-- want of memory tells nothing of the line, and is never told as a fault of its flag
abbrev pub Tells : LineFault → (Fault → Type 0) → Type 0
Tells TooLong Has = Has says.too_long
Tells NotJson Has = Has says.not_json
Tells NotObject Has = Has says.not_object
Tells BadMember Has = Has says.bad_member
Tells BadOp Has = Has says.bad_op
Tells BadKey Has = Has says.bad_key
Tells BadIf Has = Has says.bad_if
Tells (BadFlag e) Has = IsSomeAnd (tells e) (λ f. Has (says.bad_flag f))
Tells BadSet Has = Has says.bad_set
Tells (InSet at e) Has = TellsInSet at e Has
Tells Memory Has = Unit {0}
