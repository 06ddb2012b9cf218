-- What a hall says to an editor.
use Rattle.std.specs.Prelude.{Result, Ok, Err}
use Rattle.fp_desk.specs.Desk.{TicketState}
use Rattle.fp_hall.specs.Hall.{RefusalState}
use Rattle.fp_hall.specs.declared.editor.Said.{Said}
use Rattle.fp_hall.specs.declared.editor.Said.TheVariants.{Taken, Refused}

-- where it hands an edit in: that it is taken, by its ticket, or why it isn't
abbrev pub said_at : {E : Type 0} → Result TicketState (RefusalState × E) → Said
said_at (Ok ticket) = Taken ticket
said_at (Err e) = Refused e.0
