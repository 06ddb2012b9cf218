use Rattle.std.proofs.Common.{sym, ◌∙◌}
use Rattle.fp_edit.specs.Edits.{proposal_of}
use Rattle.fp_edit.proofs.Refusing.{refused_by}
use Rattle.fp_edit.proofs.flag_set.FlagSet.admit.Goals as goal

pub returns-in-Some-clause-refused : goal.returns-in-Some-clause-refused
returns-in-Some-clause-refused c = refused_by c.args.self.now (proposal_of c.args.edit) c.in-Some.fault (sym c.judge.ensures ∙ c.in-Some.is)
