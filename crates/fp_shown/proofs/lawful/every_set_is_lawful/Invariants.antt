use Rattle.std.specs.FinMap as map
use Rattle.std.specs.Prelude.{All}
use Rattle.fp_documents.specs.Entries.{entries_of}
use Rattle.fp_edit.specs.Flags.{IsChangedBy}
use Rattle.fp_shown.specs.Sets.{IsFlag}
use Rattle.fp_shown.proofs.lawful.every_set_is_lawful.Given as goal

-- the flags that are left decide for all
abbrev pub invariant-loop-key : goal.invariant-loop-key
invariant-loop-key l =
    (All (IsFlag l.set.revision) (entries_of l.key-iterator)
    → All (IsFlag l.set.revision) (map.entries l.set.flags))
    × All (λ e. IsChangedBy l.set.revision e.1) l.key-iterator
