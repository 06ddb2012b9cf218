use Rattle.std.proofs.Common.{◌≤◌, sym, ap, subst, ◌∙◌}
use Rattle.fp_desk.specs.Desk.{DeskState, TicketState, log, settled_revision}
use Rattle.fp_edit.specs.Edits.{change_in}
use Rattle.fp_hall.proofs.PlaceLemmas.{stands-told}
use Rattle.fp_hall.proofs.hall.Hall.answer.Goals as goal

-- its edit stands among all that was accepted, and its revision is settled
pub returns-clause-place : goal.returns-clause-place
returns-clause-place g c =
    let d = c.desk.result.now in let t = c.args.ticket.now in let w = c.self.invariant in let told = c.in_ok-told in
    let reached : t.revision ≤ settled_revision d =
    subst (λ (x : TicketState). x.revision ≤ settled_revision d) c.ticket.ensures told.ensures.settled in
    stands-told g.K.Naming.store d c.self.inside.accepted.log told.told t.revision (change_in t.edit)
    (ap (λ (x : DeskState). x.store) c.desk.ensures ∙ w.0.ours.ours) (w.3 ∙ sym (ap log c.desk.ensures))
    told.ensures.told.0 told.ensures.told.1 reached c.stands_in.ensures
