use Rattle.std.proofs.Common.{◌≡◌, sym, ap, subst, ◌∙◌}
use Rattle.std.specs.Prelude.{Option, None, Some}
use Rattle.fp_record.specs.Group.{Group}
use Rattle.fp_desk.specs.Desk.{Draws}
use Rattle.fp_committer.specs.Committer.{AreHalves, DeskHalfState}
use Rattle.fp_committer.specs.StoreHalf.{StoreHalfState, changes_held}
use Rattle.fp_committer.proofs.Keeps as keeps
use Rattle.fp_committer.proofs.Out as out
use Rattle.fp_committer.proofs.desk_half.DeskHalf.draw.Goals as goal

pub returns-in_err-draw-clause-halves : goal.returns-in_err-draw-clause-halves
returns-in_err-draw-clause-halves g c =
    let d = c.self.inside.desk in let s = c.store.inside.store in let h = c.store.inside.held in let half = c.store.inside.half in
    let agree = keeps.agree_on d c.self.inside.half half (changes_held h s) c.self.invariant c.agrees.ensures.all
    c.agrees.ensures.settled c.store.invariant.whole in
    rw c.in_err-draw.ensures.unchanged (
      subst (λ (a : DeskHalfState). AreHalves a c.args.store.now) (sym c.self.view_is) c.requires,
      subst (λ (b : StoreHalfState g.row.D.Denot). (b.half.settled ≡ d.settled) × (b.drawn ≡ d.drawn)) c.store.view_is agree,
    )

pub returns-in_default-clause-halves : goal.returns-in_default-clause-halves
returns-in_default-clause-halves g c =
    let d = c.self.inside.desk in let s = c.store.inside.store in let h = c.store.inside.held in let half = c.store.inside.half in
    let agree = keeps.agree_on d c.self.inside.half half (changes_held h s) c.self.invariant c.agrees.ensures.all
    c.agrees.ensures.settled c.store.invariant.whole in
    let draws : Draws d c.draw.new.self None =
    subst (λ (x : Option Group). Draws d c.draw.new.self x) c.in_default.is c.in_ok-draw.ensures.drawn in
    rw draws.0 (
      subst (λ (a : DeskHalfState). AreHalves a c.args.store.now) (sym c.self.view_is) c.requires,
      subst (λ (b : StoreHalfState g.row.D.Denot). (b.half.settled ≡ d.settled) × (b.drawn ≡ d.drawn)) c.store.view_is agree,
    )

pub invariant_of-store : goal.invariant_of-store
invariant_of-store g c =
    let d = c.self.inside.desk in let s = c.store.inside.store in let h = c.store.inside.held in let half = c.store.inside.half in
    let agree = keeps.agree_on d c.self.inside.half half (changes_held h s) c.self.invariant c.agrees.ensures.all
    c.agrees.ensures.settled c.store.invariant.whole in
    let draws : Draws d c.draw.new.self (Some c.in-Some.draw) =
    subst (λ (x : Option Group). Draws d c.draw.new.self x) c.in-Some.is c.in_ok-draw.ensures.drawn in
    let same = ap (λ (b : StoreHalfState g.row.D.Denot). b.store.store) c.store.view_is ∙ c.requires.same ∙
    sym (ap (λ (a : DeskHalfState). a.desk.store) c.self.view_is) in
    rw (c.replace.ensures.after, c.draw-2.ensures.other)
    (out.drawn g.D.Disk.honest g.D.Disk.unsynced c.store.invariant d c.draw.new.self c.in-Some.draw same agree
    draws)
