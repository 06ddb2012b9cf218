use Rattle.fp_server.proofs.services.Services.attend.Goals as goal

pub returns-clause-said : goal.returns-clause-said
returns-clause-said g c =
    let s = c.args.self.now in record
    { ofrep = s.ofrep.bound; edit = s.edit.bound; stream = s.stream.bound; text = c.in_ok-say_where.ensures.said }
