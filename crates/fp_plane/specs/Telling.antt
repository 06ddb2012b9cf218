-- What is told of a store's compactions.
use Rattle.std.specs.Prelude.{◌+◌, if◌then◌else◌, ℕ, Bool, ltb}
use Rattle.fp_plane.specs.declared.telling.Seen.{Seen}

-- one ended: each that does raises the generation
abbrev pub has_ended : Seen → Seen → Bool
has_ended before after = ltb before.generation after.generation

-- how many have begun: each that ended, and one that runs
abbrev pub begun : Seen → ℕ
begun s = s.generation + (if s.runs then 1 else 0)

-- one began, which runs still or ended already
abbrev pub has_begun : Seen → Seen → Bool
has_begun before after = ltb (begun before) (begun after)
