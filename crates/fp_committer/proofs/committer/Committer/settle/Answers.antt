use Rattle.std.proofs.Common.{◌≡◌, ℕ, [], refl, sym, subst, ◌∙◌, arith, append_assoc}
use Rattle.std.proofs.lemmas.List.{append-nil}
use Rattle.std.specs.Prelude.{Option, IfNone, MatchOption, ◌≢◌}
use Rattle.fp_committer.specs.Commits.{all_settled}
use Rattle.fp_committer.specs.Committer.{HaveSettled}
use Rattle.fp_committer.specs.Way.{batch_sealed, nothing_drawn}
use Rattle.fp_committer.proofs.Keeps as keeps
use Rattle.fp_committer.proofs.committer.Committer.settle.Goals as goal

pub returns-in_default : goal.returns-in_default
returns-in_default g c =
    let e = c.in_default.ensures in
    rw (← c.self.view_is, e.unchanged.0, e.unchanged.1) (record {
      steps = (e.memory, refl);
      log = sym (append-nil _);
      settled = ([], append-nil _);
      kept = keeps.desk_still g.D.Disk c.self.invariant c.rest.ensures.whole g.met.D.Disk.only_now c.rest.ensures.exit refl (λ n. refl);
      called = refl;
    })

pub returns-in_default-settled : goal.returns-in_default-settled
returns-in_default-settled g c =
    let a = c.self.inside.desk in let b = c.self.inside.store in let n = c.settle.new.self in let m = c.settle.new.store in
    let not = subst (λ (o : Option ℕ). MatchOption o (b.progress ≢ batch_sealed) (HaveSettled a n b m))
    c.in_default-settled.is c.in-Ok.ensures.settled in
    let same = subst (λ (o : Option ℕ). IfNone o ((n ≡ a) × (m ≡ b))) c.in_default-settled.is c.in-Ok.ensures.none in
    rw (← c.self.view_is, same.0, same.1) (record {
      steps = (not, refl);
      log = sym (append-nil _);
      settled = ([], append-nil _);
      kept = keeps.desk_still g.D.Disk c.self.invariant c.rest.ensures.whole g.met.D.Disk.only_now c.rest.ensures.exit refl (λ n. refl);
      called = refl;
    })

pub returns : goal.returns
returns g c =
    let D = g.D.Disk in let i = c.self.invariant in let whole = c.rest.ensures.whole in
    let a = c.self.inside.desk in let b = c.self.inside.store in let n = c.settle.new.self in
    let m = c.settle.new.store in let d = a.desk in let told = c.self.inside.told in
    let h = subst (λ (o : Option ℕ). MatchOption o (b.progress ≢ batch_sealed) (HaveSettled a n b m)) c.in-Some.is
    c.in-Ok.ensures.settled in
    let same_log = append_assoc d.settled d.drawn d.waiting in
    rw (← c.self.view_is, h.other, h.settled) (record {
      steps = (h.was_sealed, h.revision_is, refl);
      log = same_log ∙ sym (append-nil _);
      settled = (d.drawn, refl);
      kept = keeps.desk_moved D i whole g.met.D.Disk.only_now c.rest.ensures.exit
          (record { desk = all_settled d; half = a.half }) nothing_drawn told refl (omega arith) refl (λ k. refl)
          (λ o k. keeps.kept_same_log d (all_settled d) told o refl same_log (keeps.kept_from D i whole o k));
      called = refl;
    })
