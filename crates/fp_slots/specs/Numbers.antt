-- The places of a slot's fields, from its first byte on, which is its gate, and its versions.
use Rattle.std.specs.Prelude.{ℕ}

-- the generation, 8 bytes
abbrev pub GENERATION_PLACE : ℕ
GENERATION_PLACE = 1

-- the version, 1 byte
abbrev pub VERSION_PLACE : ℕ
VERSION_PLACE = 9

-- the base revision, 8 bytes
abbrev pub BASE_PLACE : ℕ
BASE_PLACE = 10

-- the image's length, 4 bytes
abbrev pub LENGTH_PLACE : ℕ
LENGTH_PLACE = 18

-- the image
abbrev pub IMAGE_PLACE : ℕ
IMAGE_PLACE = 22

-- the version of slots that were written before there were sets of changes
abbrev pub FIRST_VERSION : ℕ
FIRST_VERSION = 1

-- the version of those that are written now
abbrev pub VERSION : ℕ
VERSION = 2

-- how many bytes of the other slot one step writes at most
abbrev pub PART : ℕ
PART = 65536
