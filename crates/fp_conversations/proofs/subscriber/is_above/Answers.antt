use Rattle.std.proofs.Common.{◌≡◌, Option, sym, subst}
use Rattle.std.specs.Prelude.{IfSome, IsSomeAnd, MatchBool}
use Rattle.fp_group_commit.specs.Tokens.{FrontState}
use Rattle.fp_publish.specs.Fronts.{Begins}
use Rattle.fp_conversations.proofs.SendingLemmas.{behind}
use Rattle.fp_conversations.proofs.subscriber.is_above.Goals as goal

-- one of two begins the other
pub returns-in-Some : goal.returns-in-Some
returns-in-Some c =
    let shown = c.in-Some.shown in let other = c.args.other.now in let b = c.is_behind.result in
    let store : shown.store ≡ other.store =
    subst (λ (o : Option FrontState). IfSome o (λ f. f.store ≡ other.store)) c.in-Some.is c.requires in
    subst (λ (o : Option FrontState). MatchBool b (IsSomeAnd o (Begins other)) (IfSome o (λ f. Begins f other)))
    (sym c.in-Some.is) (behind b shown other store c.is_behind.ensures)
