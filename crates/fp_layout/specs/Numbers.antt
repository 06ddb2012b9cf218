-- The places of the header's fields, from its first byte on, which is its gate, and the sizes of slots.
use Rattle.std.specs.Prelude.{ℕ, ◌^◌}

-- the version, 1 byte, behind the 8 of `FLAGPLN1`
abbrev pub HEADER_VERSION_PLACE : ℕ
HEADER_VERSION_PLACE = 9

-- the slots' size, 8 bytes
abbrev pub SIZE_PLACE : ℕ
SIZE_PLACE = 10

-- zeros, up to the header's end
abbrev pub ZEROS_PLACE : ℕ
ZEROS_PLACE = 18

-- how many
abbrev pub ZEROS : ℕ
ZEROS = 46

-- how long the header is, and where slot A begins
abbrev pub HEADER : ℕ
HEADER = 64

-- the version of a disk
abbrev pub HEADER_VERSION : ℕ
HEADER_VERSION = 1

-- the gate of a new disk's first batch: behind the header, a slot's head and an image of no flags
abbrev pub FIRST_GATE : ℕ
FIRST_GATE = 90

-- the sizes that slots may have
abbrev pub SMALLEST_SLOT : ℕ
SMALLEST_SLOT = 2 ^ 18

abbrev pub LARGEST_SLOT : ℕ
LARGEST_SLOT = 2 ^ 30

-- that of a disk that the program makes
abbrev pub STANDARD_SLOT : ℕ
STANDARD_SLOT = 2 ^ 24

-- base revisions are below it
abbrev pub BASES_END : ℕ
BASES_END = 2 ^ 63
