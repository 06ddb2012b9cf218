use Rattle.std.proofs.Common.{true, sym, subst}
use Rattle.fp_edit.specs.Flags.{IsTallied}
use Rattle.fp_documents.specs.Entries.{flags_of}
use Rattle.fp_edit.specs.Outline.{MarksOne}
use Rattle.fp_documents.specs.declared.flags.TheConstants.{IMAGE_HEAD}
use Rattle.fp_edit.proofs.Kept.{kept-empty}
use Rattle.fp_edit.proofs.Since.{marks_one-empty}
use Rattle.fp_edit.proofs.flag_set.FlagSet.at_revision.Goals as goal

pub invariant_of-result : goal.invariant_of-result
invariant_of-result c = (
  c.new.ensures.ordered,
  subst (λ es. IsTallied (flags_of es) c.args.revision c.args.limit IMAGE_HEAD) (sym c.new.ensures.empty)
      (kept-empty c.args.revision c.args.limit c.requires),
  subst (λ es. MarksOne true c.args.revision (flags_of es)) (sym c.new.ensures.empty) (marks_one-empty true c.args.revision),
)
