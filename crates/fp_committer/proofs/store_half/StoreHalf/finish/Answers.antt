use Rattle.std.proofs.Common.{◌≡◌, ap, subst, ◌∙◌}
use Rattle.fp_committer.specs.StoreHalf.{IsOut, StoreHalfState}
use Rattle.fp_committer.specs.declared.held.Held.{Held}
use Rattle.fp_committer.specs.declared.held.Held.TheVariants as held
use Rattle.fp_committer.proofs.Seals as seals
use Rattle.fp_committer.proofs.store_half.StoreHalf.finish.Goals as goal

pub finish-requires-clause-keeps : goal.finish-requires-clause-keeps
finish-requires-clause-keeps g c =
    let s = c.self.inside.store in let half = c.self.inside.half in let h = c.self.inside.held in
    let none : h ≡ held.Nothing = seals.none_held h s.phase
    (ap (λ (x : StoreHalfState g.row.D.Denot). x.progress) c.self.view_is ∙ c.requires.rest) in
    let o = subst (λ (x : Held). IsOut x s half.settled) none c.self.invariant.out in seals.rests g.D.Disk c.self.invariant o.0

pub invariant_of-self : goal.invariant_of-self
invariant_of-self g c =
    let D = g.D.Disk in let e = c.finish.ensures in
    seals.stays_half D c.self.invariant c.finish.new.store
    (seals.either_way c.finish.result _ _ _ e.proceeds e.halts (λ p. p.stays) (λ f h. h.stays))

pub returns-clause-kept : goal.returns-clause-kept
returns-clause-kept g c =
    let D = g.D.Disk in let e = c.finish.ensures in
    rw (← c.self.view_is) (seals.stays_calls D c.self.invariant c.finish.new.store
    (seals.either_way c.finish.result _ _ _ e.proceeds e.halts (λ p. p.stays) (λ f h. h.stays)) _ _)
