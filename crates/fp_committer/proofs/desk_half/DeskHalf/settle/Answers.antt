use Rattle.std.proofs.Common.{◌≡◌, refl, sym, ap, subst, ◌∙◌}
use Rattle.fp_desk.specs.Desk.{SettlesNot}
use Rattle.fp_desk.specs.declared.fault.SettleFault.{SettleFault}
use Rattle.fp_committer.specs.Committer.{AreHalves, DeskHalfState}
use Rattle.fp_committer.specs.StoreHalf.{IsOut, StoreHalfState, changes_held, progress_of}
use Rattle.fp_committer.specs.declared.held.Held.{Held}
use Rattle.fp_committer.specs.declared.held.Held.TheVariants as held
use Rattle.fp_committer.proofs.Keeps as keeps
use Rattle.fp_committer.proofs.Out as out
use Rattle.fp_committer.proofs.Ways as ways
use Rattle.fp_committer.proofs.desk_half.DeskHalf.settle.Goals as goal

pub returns-in_default : goal.returns-in_default
returns-in_default g c =
    let d = c.self.inside.desk in let s = c.store.inside.store in let h = c.store.inside.held in let half = c.store.inside.half in
    let agree = keeps.agree_on d c.self.inside.half half (changes_held h s) c.self.invariant c.agrees.ensures.all
    c.agrees.ensures.settled c.store.invariant.whole in
    let same : c.replace-in_default.new.dest ≡ h = c.replace-in_default.ensures.after ∙ c.replace.ensures.value in
    let back = ap (λ (x : Held). keeps.Half s (progress_of x s.phase) (changes_held x s) half) same ∙ c.store.view_is in
    let not = ways.not_sealed h s (λ receipt is. c.in_default.not-Sealed receipt (c.replace.ensures.value ∙ is)) in
    record {
      settled = λ e. not (ap (λ (b : StoreHalfState g.row.D.Denot). b.progress) c.store.view_is ∙ e);
      none = (refl, back);
      memory = tt;
      unchanged = tt;
      halves = (
        subst (λ (b : StoreHalfState g.row.D.Denot). AreHalves c.args.self.now b) (sym back) c.requires,
        (
          agree.0 ∙ ap (λ (a : DeskHalfState). a.desk.settled) c.self.view_is,
          ap (λ (x : Held). changes_held x s) same ∙ agree.1 ∙ ap (λ (a : DeskHalfState). a.desk.drawn) c.self.view_is,
        ),
      );
    }

pub unreachable-requires : goal.unreachable-requires
unreachable-requires g c =
    let d = c.self.inside.desk in let s = c.store.inside.store in let h = c.store.inside.held in let half = c.store.inside.half in
    let agree = keeps.agree_on d c.self.inside.half half (changes_held h s) c.self.invariant c.agrees.ensures.all
    c.agrees.ensures.settled c.store.invariant.whole in
    let receipt = c.in-Sealed.receipt in
    let is : h ≡ held.Sealed receipt = sym c.replace.ensures.value ∙ c.in-Sealed.is in
    let same = ap (λ (b : StoreHalfState g.row.D.Denot). b.store.store) c.store.view_is ∙ c.requires.same ∙
    sym (ap (λ (a : DeskHalfState). a.desk.store) c.self.view_is) in
    let drawn = out.is_drawn s half.settled d receipt
    (subst (λ (x : Held). IsOut x s half.settled) is c.store.invariant.out) same agree.0
    (sym (ap (λ (x : Held). changes_held x s) is) ∙ agree.1) in
    subst (λ (f : SettleFault). SettlesNot d receipt f) c.in-Err-Stranger-default.field-0-0-is
    c.in-Err-Stranger-default.ensures.refused drawn
