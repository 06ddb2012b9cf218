-- The numbers of a batch's bytes.
use Rattle.std.specs.Prelude.{ℕ}

-- bytes in front of its edits: the first revision (8) and their number (2)
abbrev pub BATCH_HEAD : ℕ
BATCH_HEAD = 10

-- edits of a batch
abbrev pub MOST_EDITS : ℕ
MOST_EDITS = 64

-- the first byte of an edit tells its kind: a put
abbrev pub PUT_KIND : ℕ
PUT_KIND = 1

-- a delete
abbrev pub DELETE_KIND : ℕ
DELETE_KIND = 2

-- a set of changes
abbrev pub SET_KIND : ℕ
SET_KIND = 3
