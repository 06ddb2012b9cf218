-- How large a flag's key and its definition may be.
use Rattle.std.specs.Prelude.{ℕ}

-- bytes of a key
abbrev pub LONGEST_KEY : ℕ
LONGEST_KEY = 256

-- bytes of a definition's canonical text
abbrev pub LONGEST_DEFINITION : ℕ
LONGEST_DEFINITION = 16384

-- how deep a definition nests
abbrev pub DEEPEST_DEFINITION : ℕ
DEEPEST_DEFINITION = 32

-- its variants
abbrev pub MOST_VARIANTS : ℕ
MOST_VARIANTS = 64

-- members of its metadata
abbrev pub MOST_METADATA : ℕ
MOST_METADATA = 32
