use Rattle.std.proofs.Common.{◌≡◌, ◌≤◌, ◌+◌, ◌*◌, length, take}
use Rattle.std.specs.List.{sum_by}
use Rattle.fp_edit.specs.Following.{changes_of}
use Rattle.fp_record.specs.Encoding.{encoding_of_change}
use Rattle.fp_group_commit.proofs.draw.spelled_sum.Given as goal

abbrev pub invariant-loop-edit : goal.invariant-loop-edit
invariant-loop-edit l = (l.sum ≡ 10 + sum_by (λ c. length (encoding_of_change c))
    (changes_of (take l.edit-index l.edits))) × (l.sum ≤ 10 + 32752 * l.edit-index)
