use Rattle.std.proofs.Common.{◌≡◌, ℕ, [], refl, sym, ap, subst, ◌∙◌, arith}
use Rattle.std.proofs.lemmas.List.{append-nil}
use Rattle.std.specs.Prelude.{Option, IfNone, MatchOption, ◌≢◌, ◌⊎◌}
use Rattle.fp_desk.specs.Desk.{DeskState}
use Rattle.fp_committer.specs.Committer.{HaveDrawn}
use Rattle.fp_committer.specs.Way.{batch_drawn}
use Rattle.fp_committer.proofs.Keeps as keeps
use Rattle.fp_committer.proofs.Sound as sound
use Rattle.fp_committer.proofs.committer.Committer.draw.Goals as goal

pub returns-in_default : goal.returns-in_default
returns-in_default g c =
    let e = c.in_default.ensures in
    rw (← c.self.view_is, e.unchanged.0, e.unchanged.1) (record {
      steps = (refl, e.memory.0, e.memory.1);
      log = sym (append-nil _);
      settled = ([], append-nil _);
      kept = keeps.desk_still g.D.Disk c.self.invariant c.rest.ensures.whole g.met.D.Disk.only_now c.rest.ensures.exit refl (λ n. refl);
      called = refl;
    })

pub returns-in_default-drawn : goal.returns-in_default-drawn
returns-in_default-drawn g c =
    let a = c.self.inside.desk in let b = c.self.inside.store in let n = c.draw.new.self in let m = c.draw.new.store in
    let not = subst (λ (o : Option ℕ). MatchOption o ((a.desk.drawn ≢ []) ⊎ (a.desk.waiting ≡ []))
    (HaveDrawn a n b m)) c.in_default-drawn.is c.in-Ok.ensures.drawn in
    let same = subst (λ (o : Option ℕ). IfNone o ((n ≡ a) × (m ≡ b))) c.in_default-drawn.is c.in-Ok.ensures.none in
    rw (← c.self.view_is, same.0, same.1) (record {
      steps = (refl, not);
      log = sym (append-nil _);
      settled = ([], append-nil _);
      kept = keeps.desk_still g.D.Disk c.self.invariant c.rest.ensures.whole g.met.D.Disk.only_now c.rest.ensures.exit refl (λ n. refl);
      called = refl;
    })

pub returns : goal.returns
returns g c =
    let D = g.D.Disk in let i = c.self.invariant in let whole = c.rest.ensures.whole in
    let a = c.self.inside.desk in let b = c.self.inside.store in let n = c.draw.new.self in
    let m = c.draw.new.store in let d = a.desk in let told = c.self.inside.told in
    let h = subst (λ (o : Option ℕ). MatchOption o ((d.drawn ≢ []) ⊎ (d.waiting ≡ [])) (HaveDrawn a n b m))
    c.in-Some.is c.in-Ok.ensures.drawn in
    let new = h.drawn.new_is in let same = ap (λ (x : DeskState). x.store) new in let log_is = sound.drawn_log d n.desk h.group h.drawn in
    rw (← c.self.view_is, h.other) (record {
      steps = (h.group, h.drawn, h.counted, refl);
      log = log_is ∙ sym (append-nil _);
      settled = ([], append-nil d.settled ∙ sym (ap (λ (x : DeskState). x.settled) new));
      kept = keeps.desk_moved D i whole g.met.D.Disk.only_now c.rest.ensures.exit n batch_drawn told same
          (omega arith) refl (λ k. refl)
          (λ o k. keeps.kept_same_log d n.desk told o same log_is (keeps.kept_from D i whole o k));
      called = refl;
    })
