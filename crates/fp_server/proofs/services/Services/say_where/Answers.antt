use Rattle.fp_server.proofs.EndsLemmas.{says_where}
use Rattle.fp_server.proofs.services.Services.say_where.Goals as goal

pub returns-clause-said : goal.returns-clause-said
returns-clause-said g c =
    let held = g.O.Write.contents in
    rw (← c.bound.ensures, ← c.bound-2.ensures, ← c.bound-3.ensures)
    (says_where (held c.args.w.now.inner) (held c.say.new.self.inner) (held c.say-2.new.self.inner)
    (held c.say-3.new.self.inner) c.bound.result c.bound-2.result c.bound-3.result c.in_ok-say.ensures.text
    c.in_ok-say-2.ensures.text c.in_ok-say-3.ensures.text)
