use Rattle.std.proofs.Common.{◌++◌, ◌∷◌, [], List, refl, sym, ap, subst, ◌∙◌, arith}
use Rattle.std.proofs.lemmas.List.{append-nil}
use Rattle.fp_edit.specs.Edits.{Proposal, change_in, proposal_of}
use Rattle.fp_desk.specs.Desk.{DeskState, IsAccepted, Refuses, TicketState, log}
use Rattle.fp_committer.specs.Committer.{commits_of}
use Rattle.fp_committer.proofs.Keeps as keeps
use Rattle.fp_committer.proofs.Sound as sound
use Rattle.fp_committer.proofs.committer.Committer.submit.Goals as goal

pub returns-in_default : goal.returns-in_default
returns-in_default g c =
    rw (← c.self.view_is) (record {
      steps = refl;
      log = sym (append-nil _);
      settled = ([], append-nil _);
      kept = keeps.desk_still g.D.Disk c.self.invariant c.rest.ensures.whole g.met.D.Disk.only_now c.rest.ensures.exit refl (λ n. refl);
      called = refl;
    })

pub returns-then-is_err : goal.returns-then-is_err
returns-then-is_err g c =
    rw (← c.self.view_is) (record {
      steps = refl;
      log = sym (append-nil _);
      settled = ([], append-nil _);
      kept = keeps.desk_still g.D.Disk c.self.invariant c.rest.ensures.whole g.met.D.Disk.only_now c.rest.ensures.exit refl (λ n. refl);
      called = refl;
    })

pub invariant_of-self-in-Ok-submit : goal.invariant_of-self-in-Ok-submit
invariant_of-self-in-Ok-submit g c =
    let e = c.in-Ok-submit.ensures in let t = c.in-Ok-submit.ticket in
    sound.submitted c.self.invariant c.submit.new.self (change_in (proposal_of c.in-Ok.edit)) t e.accepted.new_is
    e.half e.revision c.push_reserved.new.self.items
    (c.push_reserved.ensures.items ∙ ap (λ (l : List TicketState). l ++ t ∷ []) c.try_reserve.ensures.items)

pub returns-in-Ok-submit : goal.returns-in-Ok-submit
returns-in-Ok-submit g c =
    let D = g.D.Disk in let i = c.self.invariant in let whole = c.rest.ensures.whole in
    let d = c.self.inside.desk.desk in let a = c.submit.new.self in let n = a.desk in
    let told = c.self.inside.told in let e = c.in-Ok-submit.ensures in
    let x = change_in (proposal_of c.in-Ok.edit) in let new = e.accepted.new_is in let same = ap (λ (y : DeskState). y.store) new in
    rw (← c.self.view_is) (record {
      steps = (subst (λ (p : Proposal). IsAccepted d n p) c.in-Ok.ensures e.accepted, c.revision-revision.ensures ∙ e.revision, refl);
      log = ap log new ∙ keeps.log_more d x ∙ ap (λ (q : Proposal). log d ++ change_in q ∷ []) c.in-Ok.ensures;
      settled = ([], append-nil d.settled ∙ sym (ap (λ (y : DeskState). y.settled) new));
      kept = keeps.desk_moved D i whole g.met.D.Disk.only_now c.rest.ensures.exit a c.self.inside.store.progress told
          same (omega arith) refl (λ k. refl)
          (λ o k. keeps.kept_more d n (x ∷ []) told o same (ap log new ∙ keeps.log_more d x) (keeps.kept_from D i whole o k));
      called = refl;
    })

pub returns : goal.returns
returns g c =
    let D = g.D.Disk in let i = c.self.invariant in let a = c.self.inside.desk in let b = c.self.inside.store in
    let told = c.self.inside.told in let e = c.in-Err.ensures in
    let p = proposal_of c.args.edit.now in let f = c.in-Err.fault in
    rw (← c.self.view_is, e.unchanged) (record {
      steps = sound.refuses f p (commits_of (keeps.Both a b told)) i.open_desk
          (subst (λ (q : Proposal). Refuses a.desk q f) c.in-Ok.ensures e.refused);
      log = sym (append-nil _);
      settled = ([], append-nil _);
      kept = keeps.desk_still g.D.Disk c.self.invariant c.rest.ensures.whole g.met.D.Disk.only_now c.rest.ensures.exit refl (λ n. refl);
      called = refl;
    })
