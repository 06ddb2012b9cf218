use Rattle.std.proofs.Common.{◌≡◌, nat_lt, Option, sym, subst}
use Rattle.std.specs.Prelude.{IfSome, IsSomeAnd, MatchBool}
use Rattle.fp_group_commit.specs.Tokens.{FrontState}
use Rattle.fp_publish.specs.Fronts.{Begins}
use Rattle.fp_conversations.proofs.EditingLemmas.{above}
use Rattle.fp_conversations.proofs.editor.is_above.Goals as goal

-- of two that begin one list the revisions tell which goes on from the other
pub returns-in-Some : goal.returns-in-Some
returns-in-Some c =
    let told = c.in-Some.told in let other = c.args.other.now in let m = c.revision.result in let n = c.revision-in-Some.result in
    let store : told.store ≡ other.store =
    subst (λ (o : Option FrontState). IfSome o (λ f. f.store ≡ other.store)) c.in-Some.is c.requires in
    let begins = above told other c.part.result.now c.part-in-Some.result.now m n c.meets.ensures.0 c.part.ensures c.part-in-Some.ensures
    store c.meets.ensures.1 c.meets.ensures.2 c.revision.ensures c.revision-in-Some.ensures in
    subst (λ (o : Option FrontState). MatchBool (nat_lt m n) (IsSomeAnd o (Begins other)) (IfSome o (λ f. Begins f other)))
    (sym c.in-Some.is) begins
