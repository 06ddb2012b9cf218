-- The numbers of sets, of edits and of the lines that ask for them.
use Rattle.std.specs.Prelude.{ℕ, ◌^◌}

-- revisions are below it
abbrev pub REVISIONS_END : ℕ
REVISIONS_END = 2 ^ 63

-- flags of a set
abbrev pub MOST_FLAGS : ℕ
MOST_FLAGS = 4096

-- changes that are made together
abbrev pub MOST_CHANGES : ℕ
MOST_CHANGES = 64

-- bytes that an edit takes in a batch
abbrev pub LONGEST_EDIT : ℕ
LONGEST_EDIT = 32752

-- what a put takes there beside its key and its definition: its kind (1), their lengths (2, 4)
abbrev pub PUT_FRAME : ℕ
PUT_FRAME = 7

-- a delete beside its key: its kind (1), the key's length (2)
abbrev pub DELETE_FRAME : ℕ
DELETE_FRAME = 3

-- a set beside its changes: its kind (1), their number (2)
abbrev pub SET_FRAME : ℕ
SET_FRAME = 3

-- bytes of a line, without its newline
abbrev pub LONGEST_LINE : ℕ
LONGEST_LINE = 32768
