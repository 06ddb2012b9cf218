use Rattle.std.proofs.Common.{◌≡◌, drop, map, take}
use Rattle.std.specs.Map.{keys_of}
use Rattle.fp_base.specs.Ordered.{MembersAreOrdered}
use Rattle.fp_base.specs.TreeView.{tree_members}
use Rattle.fp_definition.specs.Key.{key_bytes}
use Rattle.fp_imports.specs.Document.{flags_of}
use Rattle.fp_imports.specs.Faults.{seen_flag}
use Rattle.fp_imports.proofs.Flags.{after_flags}
use Rattle.fp_imports.proofs.Walks.{names}
use Rattle.fp_imports.proofs.document.flags_of.Given as goal

-- the flags found have the names of the members so far, and come before those of the rest
abbrev pub invariant-loop-flag : goal.invariant-loop-flag
invariant-loop-flag l =
    (map key_bytes (keys_of l.found.items) ≡ names (tree_members (take l.flag-index l.flags)))
    × MembersAreOrdered (tree_members (drop l.flag-index l.flags))
    × (after_flags (map seen_flag l.found.items) (flags_of (tree_members l.evaluators) (tree_members (drop l.flag-index l.flags)))
    ≡ flags_of (tree_members l.evaluators) (tree_members l.flags))
