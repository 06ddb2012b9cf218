-- Seats, and what is handed to who takes one.
use Rattle.std.specs.Prelude.{◌≡◌, Option, IfSome}
use Rattle.fp_group_commit.specs.Tokens.{FrontState, front_revision}
use Rattle.fp_stream.specs.Heads.{IsNewer}
use Rattle.fp_stream.specs.declared.hello.Hello.{Hello}
use Rattle.fp_publish.specs.declared.seats.Seat.{Seat}

-- what the subscriber of a seat has
abbrev pub had_by : Seat → Hello
had_by s = s.has

-- the front's revision is news to who has this
abbrev pub IsNews : Hello → FrontState → Type 0
IsNews hello f = IsNewer hello (front_revision f)

-- what was handed last, if anything, is of the same store as the front
abbrev pub IsOfStore : Option FrontState → FrontState → Type 0
IsOfStore last f = IfSome last (λ l. l.store ≡ f.store)
