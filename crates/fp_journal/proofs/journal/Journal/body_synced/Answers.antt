use Rattle.std.proofs.Common.{ℕ, List, ap, sym, ◌∙◌, subst}
use Rattle.fp_disk.specs.Outcomes.{IsOutcome}
use Rattle.fp_gate.specs.Gates.{IsSyncOf}
use Rattle.fp_journal.specs.State.{JournalState, HasNext}
use Rattle.fp_journal.proofs.Steps as steps
use Rattle.fp_journal.proofs.journal.Journal.body_synced.Goals as goal

pub invariant_of-self : goal.invariant_of-self
invariant_of-self g c =
    let D = g.D.Disk in let m = g.met.D.Disk in let q = c.requires in
    let is = ap (λ (k : JournalState g.row.D.Denot). k.phase) c.self.view_is ∙ q.staged in
    let firm = subst (λ (k : JournalState g.row.D.Denot). D.honest k.disk → (c : List ℕ) →
    IsOutcome (D.unsynced k.disk) c → HasNext k.slot k.front k.sealed k.staged c) (sym c.self.view_is) q.firm in
    let token = subst (λ (k : JournalState g.row.D.Denot). IsSyncOf D.honest D.moment k.disk k.disk_name
    c.args.synced) (sym c.self.view_is) q.token in
    (steps.body_done D m.present m.only_now c.self.invariant.0 is firm, token)
