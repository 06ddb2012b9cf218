use Rattle.std.proofs.Common.{refl}
use Rattle.std.specs.List.{take-map}
use Rattle.fp_edit.specs.Parts.{ProposedPart, proposed_of}
use Rattle.fp_recovery.proofs.batches.len_before.Goals as goal

pub loop-change-init : goal.loop-change-init
loop-change-init c = rw (take-map (λ (p : ProposedPart). p.part) c.args.at, take-map proposed_of c.args.at) refl
