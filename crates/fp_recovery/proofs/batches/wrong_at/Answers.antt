use Rattle.std.proofs.Common.{length, ap, arith}
use Rattle.std.proofs.lemmas.List.{length-map}
use Rattle.fp_edit.specs.Following.{change_of}
use Rattle.fp_edit.specs.Parts.{ProposedPart, parts_of, proposed_of}
use Rattle.fp_recovery.proofs.Faults.{place_of}
use Rattle.fp_recovery.proofs.batches.wrong_at.Goals as goal

pub len_before-requires-clause-within : goal.len_before-requires-clause-within
len_before-requires-clause-within c =
    let w = c.in-Set-ConflictIn in let r = c.requires.refused in
    let place = place_of r.0 (change_of c.args.edit.now) c.args.fault (parts_of w.changes) w.part w.current-1 r.1
    (ap change_of w.is-0) w.is-1 in
    let all = length-map w.changes (λ (p : ProposedPart). p.part) in
    let same = ap length c.as_slice.ensures.changes in let here = length-map c.as_slice.result.now proposed_of in
    omega (arith, place, all, same, here)
