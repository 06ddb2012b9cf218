-- The numbers of an image.
use Rattle.std.specs.Prelude.{ℕ}

-- bytes of a set's image: those in front of its flags
abbrev pub IMAGE_HEAD : ℕ
IMAGE_HEAD = 4

-- and what a flag takes beside its key and its definition
abbrev pub FLAG_FRAME : ℕ
FLAG_FRAME = 14
