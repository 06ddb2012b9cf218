use Rattle.std.proofs.Common.{◌∷◌, [], ◌++◌, length, MatchResult, Result, arith}
use Rattle.std.proofs.lemmas.Result.{err_from_is_err_and}
use Rattle.fp_session.specs.Progress.{IsAt, IsBroken}
use Rattle.fp_session.specs.Sources.{most_at_once}
use Rattle.fp_session.specs.declared.fault.ApplyFault.{ApplyFault}
use Rattle.fp_session.proofs.ProgressLemmas.{broken-wider}
use Rattle.fp_session.proofs.Sourcing.{few-alone, few-waiting}
use Rattle.fp_session.proofs.run.put.Goals as goal

either : (A : Type 0) (P Q : ApplyFault → Type 0) (r : Result (Unit {0}) ApplyFault) →
    ((f : ApplyFault) → P f → Q f) → MatchResult r (λ _. A) P → MatchResult r (λ _. A) Q
either A P Q r wider m = grind arith

pub returns-in_err-ask-clause-asked : goal.returns-in_err-ask-clause-asked
returns-in_err-ask-clause-asked g c = λ first asked sent x asks le i.
    let p = err_from_is_err_and c.from_residual.result c.from_residual.ensures.1 in let n = length c.args.replies.now.waiting.items in
    rw (p.1, p.2) (broken-wider g.E.EditStore first c.ask.new.edits (asked ++ x ∷ []) n
    (most_at_once c.args.batching) sent c.ask.new.self c.in_err-ask.field-0.0 (few-waiting c.args.batching n le)
    (c.in_err-ask.ensures.asked first asked sent x asks i))

pub returns-in-Single-clause-asked : goal.returns-in-Single-clause-asked
returns-in-Single-clause-asked g c = λ first asked sent x asks le i.
    let q = c.ask.new.self in let now = c.seal.new.edits in let n = length q.waiting.items in let most = most_at_once c.args.batching in
    let alone = few-alone c.args.batching (length c.args.replies.now.waiting.items) n c.in-Single.is le c.in_ok-ask.ensures.one in
    either (IsAt g.E.EditStore first now (asked ++ x ∷ []) sent c.seal.new.self)
    (IsBroken g.E.EditStore n first now (asked ++ x ∷ []) sent c.seal.new.self)
    (IsBroken g.E.EditStore most first now (asked ++ x ∷ []) sent c.seal.new.self)
    c.seal.result (λ f b. broken-wider g.E.EditStore first now (asked ++ x ∷ []) n most sent c.seal.new.self f alone b)
    (c.seal.ensures.asked first (asked ++ x ∷ []) sent (c.in_ok-ask.ensures.asked first asked sent x asks i))
