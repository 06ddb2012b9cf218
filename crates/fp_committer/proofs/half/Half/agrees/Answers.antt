use Rattle.std.proofs.Common.{List, subst}
use mathlib.Core.List.{IsPrefix}
use Rattle.fp_edit.specs.Edits.{Change}
use Rattle.fp_committer.proofs.Keeps.{each_begins}
use Rattle.fp_committer.proofs.half.Half.agrees.Goals as goal

pub returns-clause-all : goal.returns-clause-all
returns-clause-all c =
    let here = c.self.inside.all.log in let there = c.there.inside.all.log in
    rw (← c.self.view_is, ← c.there.view_is) (each_begins here there
    (subst (λ (l : List Change). IsPrefix l there) c.self.invariant.0 c.confirm-3.ensures)
    (subst (λ (l : List Change). IsPrefix l here) c.there.invariant.0 c.confirm.ensures))

pub returns-clause-settled : goal.returns-clause-settled
returns-clause-settled c =
    let here = c.self.inside.settled.log in let there = c.there.inside.settled.log in
    rw (← c.self.view_is, ← c.there.view_is) (each_begins here there
    (subst (λ (l : List Change). IsPrefix l there) c.self.invariant.1 c.confirm-4.ensures)
    (subst (λ (l : List Change). IsPrefix l here) c.there.invariant.1 c.confirm-2.ensures))
