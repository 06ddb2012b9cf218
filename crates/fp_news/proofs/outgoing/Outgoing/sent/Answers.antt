use Rattle.std.proofs.Common.{◌≤◌, ◌-◌, ◌++◌, ◌∙◌, refl, sym, ap, subst, arith, length, drop}
use Rattle.std.proofs.lemmas.List.{length-drop, drop-drop}
use Rattle.std.specs.Arc.{arc_value}
use Rattle.fp_news.specs.Outgoing.{left_of}
use Rattle.fp_news.proofs.Frames.{tells_sent}
use Rattle.fp_news.proofs.outgoing.Outgoing.sent.Goals as goal

pub overflow_add-at : goal.overflow_add-at
overflow_add-at g c =
    let s = c.in-Some.sending in
    let all = s.head ++ (g.N.News.shows (arc_value s.news)).document in
    let within = s.within in
    let short : c.args.count ≤ length all - s.at =
    subst (λ n. c.args.count ≤ n) (length-drop s.at all)
    (subst (λ o. c.args.count ≤ length (left_of o)) c.in-Some.is c.requires) in
    omega (arith, within, short, c.len-len.ensures, c.len-len.type_inv)

pub invariant_of-sending : goal.invariant_of-sending
invariant_of-sending g c = record { within = rw (← c.len-len.ensures) c.if-at-len.true }

pub returns-then-at-len-clause-told : goal.returns-then-at-len-clause-told
returns-then-at-len-clause-told g c hello went begun t =
    let s = c.in-Some.sending in
    let all = s.head ++ (g.N.News.shows (arc_value s.news)).document in
    let rest =
    sym (drop-drop c.args.count s.at all)
    ∙ ap (λ o. drop c.args.count (left_of o)) (sym c.in-Some.is) in
    tells_sent hello c.args.self.now _ went begun c.args.count rest refl t
