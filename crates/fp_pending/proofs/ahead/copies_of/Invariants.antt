use Rattle.std.proofs.Common.{◌≡◌, vec_len, take}
use Rattle.fp_edit.specs.Following.{changes_of}
use Rattle.fp_pending.proofs.ahead.copies_of.Given as goal

abbrev pub invariant-loop-edit : goal.invariant-loop-edit
invariant-loop-edit l = (changes_of l.copies.items ≡ changes_of (take l.edit-index l.edits)) × (vec_len l.copies ≡ l.edit-index)
