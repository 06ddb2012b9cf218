use Rattle.std.proofs.Common.{rules, sym, arith}
use Rattle.fp_base.specs.declared.tree.Tree.{the_lemmas}
use Rattle.fp_imports.proofs.Walks.{not-one, only-member}
use Rattle.fp_imports.proofs.references.reference.Goals as goal

pub returns-then-members-ne1 : goal.returns-then-members-ne1
returns-then-members-ne1 c = sym (not-one c.args.members.now c.if-members-ne1.true)

pub returns-then-eq : goal.returns-then-eq
returns-then-eq c = rw (
  only-member c.args.members.now c.index-members-0.result (omega arith) c.index-members-0.is,
  c.in-String.is,
) (search (rules, the_lemmas))

pub returns-in_default : goal.returns-in_default
returns-in_default c = rw (only-member c.args.members.now c.index-members-0.result (omega arith)
    c.index-members-0.is) (search (rules, the_lemmas))
