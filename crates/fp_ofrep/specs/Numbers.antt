-- How long a request may be, and how much is kept of it.
use Rattle.std.specs.Prelude.{ℕ}

-- bytes of its body
abbrev pub LONGEST_BODY : ℕ
LONGEST_BODY = 65536

-- bytes of a body whose tag is kept, and how many tags are
abbrev pub LONGEST_KEPT_BODY : ℕ
LONGEST_KEPT_BODY = 2048

abbrev pub MOST_KEPT_TAGS : ℕ
MOST_KEPT_TAGS = 32
