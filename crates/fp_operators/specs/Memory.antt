-- Which data take memory of their own.
use Rattle.std.specs.Prelude.{Bool, true, false}
use Rattle.fp_operators.specs.Data.{Data, null, boolean, whole, text, list, object}

-- texts, lists and objects, also empty ones
abbrev pub takes_memory : Data → Bool
takes_memory null = false
takes_memory (boolean b) = false
takes_memory (whole z) = false
takes_memory (text s) = true
takes_memory (list ds) = true
takes_memory (object ms) = true
