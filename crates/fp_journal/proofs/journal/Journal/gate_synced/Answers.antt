use Rattle.std.proofs.Common.{rules, ◌≡◌, ℕ, List, [], ◌∷◌, ◌++◌, ap, sym, ◌∙◌, subst}
use Rattle.fp_disk.specs.Outcomes.{IsOutcome}
use Rattle.fp_gate.specs.Gates.{IsOpen}
use Rattle.fp_journal.specs.Chain.{body_of}
use Rattle.fp_journal.specs.State.{JournalState, HasChain, IsHeld}
use Rattle.fp_journal.specs.declared.held.Held.{Held}
use Rattle.fp_journal.proofs.Steps as steps
use Rattle.fp_journal.proofs.journal.Journal.gate_synced.Goals as goal

pub seal-gate-requires-clause-open : goal.seal-gate-requires-clause-open
seal-gate-requires-clause-open g c = λ h.
    let D = g.D.Disk in let m = g.met.D.Disk in let q = c.requires in
    let is = ap (λ (k : JournalState g.row.D.Denot). k.phase) c.self.view_is ∙ q.opened in
    let firm = subst (λ (k : JournalState g.row.D.Denot). D.honest k.disk → (c : List ℕ) →
    IsOutcome (D.unsynced k.disk) c → HasChain k.slot k.front (k.sealed ++ k.staged ∷ []) c) (sym c.self.view_is)
    q.firm in
    let held = sym c.replace.ensures.value ∙ c.in-GateOpened.is in
    let at : c.in-GateOpened.gate.at ≡ c.self.inside.end =
    subst (λ (k : Held g.row.D.Denot). IsHeld D.honest D.moment c.self.inside.disk.disk c.self.inside.disk.name
    c.self.inside.end k) held c.self.invariant.1 in
    subst (λ (k : ℕ). IsOpen (D.unsynced c.self.inside.disk.disk) k) (sym at)
    (steps.gate_open D m.present m.only_now c.self.invariant.0 is firm h)

pub invariant_of-self : goal.invariant_of-self
invariant_of-self g c =
    let D = g.D.Disk in let m = g.met.D.Disk in let q = c.requires in
    let is = ap (λ (k : JournalState g.row.D.Denot). k.phase) c.self.view_is ∙ q.opened in
    let firm = subst (λ (k : JournalState g.row.D.Denot). D.honest k.disk → (c : List ℕ) →
    IsOutcome (D.unsynced k.disk) c → HasChain k.slot k.front (k.sealed ++ k.staged ∷ []) c) (sym c.self.view_is)
    q.firm in
    let all : c.lengthen.new.self.log ≡ c.self.inside.sealed.log ++ body_of c.self.inside.in_flight.items ∷ [] = search rules in
    rw c.replace.ensures.after (
      steps.sealed_done D m.present m.only_now c.self.invariant.0 is firm
          c.lengthen.new.self.name c.lengthen.new.self.log c.len.result all (search rules),
      tt,
    )
