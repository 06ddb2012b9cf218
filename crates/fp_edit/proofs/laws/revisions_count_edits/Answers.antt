use Rattle.std.proofs.Common.{◌-◌, take, arith}
use Rattle.std.proofs.lemmas.List.{length-take}
use Rattle.fp_edit.proofs.Runs.{revision-after_all}
use Rattle.fp_edit.proofs.laws.revisions_count_edits.Goals as goal

pub returns-clause-count : goal.returns-clause-count
returns-clause-count c = revision-after_all

pub returns-clause-each : goal.returns-clause-each
returns-clause-each c = λ s log n low high.
    let all = revision-after_all s (take (n - s.revision) log) in
    let some = length-take (n - s.revision) log in
    omega arith
