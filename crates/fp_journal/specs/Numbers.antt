-- The places of a framed batch: a gate, the length of the body (4 bytes), the body, and the next gate.
use Rattle.std.specs.Prelude.{ℕ}

-- how many bytes tell a body's length
abbrev pub LENGTH_FIELD : ℕ
LENGTH_FIELD = 4

-- where a body begins, behind its gate and its length
abbrev pub BODY_PLACE : ℕ
BODY_PLACE = 5

-- what a batch takes beside its body: both gates and the length
abbrev pub FRAME : ℕ
FRAME = 6
