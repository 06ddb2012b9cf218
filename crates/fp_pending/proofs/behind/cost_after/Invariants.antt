use Rattle.std.proofs.Common.{◌≡◌, take}
use Rattle.std.specs.FinMap as map
use Rattle.fp_definition.specs.Key.{key_bytes}
use Rattle.fp_edit.specs.Flags.{State, cost_found}
use Rattle.fp_edit.specs.Following.{changes_of}
use Rattle.fp_edit.specs.Log.{after_all}
use Rattle.fp_pending.proofs.behind.cost_after.Given as goal

abbrev pub invariant-loop-edit : goal.invariant-loop-edit
invariant-loop-edit l = (s : State) → l.before ≡ cost_found (key_bytes l.key) (map.get s.flags (key_bytes l.key)) →
    l.cost ≡ cost_found (key_bytes l.key)
    (map.get (after_all s (changes_of (take l.edit-index l.edits))).flags (key_bytes l.key))
