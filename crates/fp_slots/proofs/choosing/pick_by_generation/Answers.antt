use Rattle.std.proofs.Common.{rules, refl, ◌≡◌, ◌<◌, arith}
use Rattle.fp_slots.proofs.Leads.{neither_greater, ruling_older}
use Rattle.fp_slots.proofs.choosing.pick_by_generation.Goals as goal

pub returns-then-generation-other-clause-fault : goal.returns-then-generation-other-clause-fault
returns-then-generation-other-clause-fault c = λ b leads.
    let whole = c.requires.whole in let mine = c.generation_of-generation in let its = c.generation_of-other in
    let same : mine.result ≡ its.result = search rules in
    neither_greater b c.args.first.start c.args.second.start c.args.mine.now c.args.its.now leads.0 leads.1
    (omega (arith, whole)) c.requires.there mine.result its.result c.requires.first_open c.requires.second_open
    mine.ensures its.ensures _ same refl

pub returns-then-other-generation-clause-found : goal.returns-then-other-generation-clause-found
returns-then-other-generation-clause-found c = λ b leads.
    let whole = c.requires.whole in let mine = c.generation_of-generation in let its = c.generation_of-other in
    let less : its.result < mine.result = search rules in
    ruling_older b c.args.first.start c.args.second.start c.args.mine.now c.args.its.now leads.0 leads.1
    (omega (arith, whole)) c.requires.there mine.result its.result c.requires.first_open c.requires.second_open
    mine.ensures its.ensures less

pub returns-clause-found : goal.returns-clause-found
returns-clause-found c = λ b leads.
    let whole = c.requires.whole in let mine = c.generation_of-generation in let its = c.generation_of-other in
    let less : mine.result < its.result = search rules in
    ruling_older b c.args.second.start c.args.first.start c.args.its.now c.args.mine.now leads.1 leads.0
    c.requires.there (omega (arith, whole)) its.result mine.result c.requires.second_open c.requires.first_open
    its.ensures mine.ensures less
