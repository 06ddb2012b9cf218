use Rattle.std.proofs.Common.{◌∙◌, sym, subst}
use Rattle.fp_disk.specs.Outcomes.{PendingState}
use Rattle.fp_journal.specs.State.{EndsClosed}
use Rattle.fp_journal.proofs.Gates.{quiet_settled}
use Rattle.fp_journal.proofs.Links.{text_found}
use Rattle.fp_journal.proofs.opening.resume.Goals as goal

pub go_on-requires-clause-quiet : goal.go_on-requires-clause-quiet
go_on-requires-clause-quiet g c = λ h.
    let D = g.D.Disk in let R = g.R.Reader in let s = c.args.slot in let b = D.bytes c.args.disk in let new = c.read_chain.new.text in
    let kept = c.read_chain.ensures.kept in let before = kept.word.honest.1 h in
    let ends = text_found (D.honest c.args.disk) R.takes s.most c.args.at s.stop s.start b c.args.reader.now
    c.read_chain.new.reader c.args.text new c.in-Ok.end before c.in-Ok.ensures.found (c.requires.stands before)
    c.requires.place.0 in
    subst (λ (u : PendingState). EndsClosed s.start s.stop new u)
    (sym ((kept.same before).1 ∙ c.requires.synced before)) (quiet_settled s.start s.stop new b ends)
