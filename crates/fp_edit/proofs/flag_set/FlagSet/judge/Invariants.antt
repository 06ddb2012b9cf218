use Rattle.std.proofs.Common.{◌≡◌}
use Rattle.fp_edit.specs.Admits.{refusal}
use Rattle.fp_edit.specs.Edits.{proposal_of}
use Rattle.fp_edit.specs.Lent.{lent_by}
use Rattle.fp_edit.proofs.Lending.{fault_from}
use Rattle.fp_edit.proofs.flag_set.FlagSet.judge.Given as goal

-- what is left to test decides
abbrev pub invariant-loop-at : goal.invariant-loop-at
invariant-loop-at l = refusal l.self (proposal_of l.edit) ≡ fault_from l.self (lent_by l.parts) l.at
