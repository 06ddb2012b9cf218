use Rattle.std.proofs.Common.{◌≡◌, drop}
use Rattle.fp_definition.specs.Key.{key_bytes}
use Rattle.fp_edit.specs.Changes.{is_among}
use Rattle.fp_edit.specs.Parts.{keys_of}
use Rattle.fp_edit.proofs.changes.is_among.Given as goal

-- what is left decides
abbrev pub invariant-loop-change : goal.invariant-loop-change
invariant-loop-change l = is_among (key_bytes l.key) (keys_of l.changes) ≡ is_among (key_bytes l.key)
    (keys_of (drop l.change-index l.changes))
