-- A hello as far as it came.
use Rattle.std.specs.Prelude.{ℕ, List, take}
use Rattle.fp_loop.specs.declared.heard.Heard.{Heard}

-- the bytes that came
abbrev pub heard_of : Heard → List ℕ
heard_of h = take h.count h.bytes
