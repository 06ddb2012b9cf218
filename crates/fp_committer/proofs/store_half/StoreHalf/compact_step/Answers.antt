use Rattle.std.proofs.Common.{rules, refl, sym, subst, ◌∙◌}
use Rattle.fp_group_commit.specs.Store.{Leaves, MayCompact}
use Rattle.fp_committer.specs.StoreHalf.{StoreHalfState, taken_by, way_by}
use Rattle.fp_committer.specs.Way.{MayStep, StepsOn}
use Rattle.fp_committer.specs.declared.event.Answer.TheVariants as answer
use Rattle.fp_committer.proofs.Keeps as keeps
use Rattle.fp_committer.proofs.Out as out
use Rattle.fp_committer.proofs.Ways as ways
use Rattle.fp_committer.proofs.store_half.StoreHalf.compact_step.Goals as goal

pub returns-then-failed-clause-kept : goal.returns-then-failed-clause-kept
returns-then-failed-clause-kept g c =
    rw (← c.self.view_is) (keeps.stays g.D.Disk c.self.invariant _ _ _ _ g.met.D.Disk.only_now tt refl refl)

pub returns-then-not-may_compact-clause-steps : goal.returns-then-not-may_compact-clause-steps
returns-then-not-may_compact-clause-steps g c =
    let s = c.self.inside.store in let half = c.self.inside.half in let h = c.self.inside.held in let i = c.self.invariant in
    let none : MayStep (ways.At h s) → ⊥ =
    (λ may. let yes = c.may_compact.ensures.1 (ways.may_compact h s half.settled i.out may) in
    absurd (search rules)) in
    rw (← c.self.view_is) (sym c.failed.ensures ∙ c.if-failed.false, none, refl)

pub returns-then-not-may_compact-clause-kept : goal.returns-then-not-may_compact-clause-kept
returns-then-not-may_compact-clause-kept g c =
    rw (← c.self.view_is) (keeps.stays g.D.Disk c.self.invariant _ _ _ _ g.met.D.Disk.only_now tt refl refl)

pub invariant_of-self : goal.invariant_of-self
invariant_of-self g c =
    let D = g.D.Disk in let w = c.compact_step.ensures in
    out.stood D.honest D.unsynced c.self.invariant c.compact_step.new.self w.phase w.same w.disk.exit

pub invariant_of-self-2 : goal.invariant_of-self-2
invariant_of-self-2 g c =
    let D = g.D.Disk in let w = c.compact_step.ensures in
    out.stood D.honest D.unsynced c.self.invariant c.compact_step.new.self w.phase w.same w.disk.exit

pub returns-in_default : goal.returns-in_default
returns-in_default g c =
    let D = g.D.Disk in let m = g.met.D.Disk in let s = c.self.inside.store in let half = c.self.inside.half in
    let h = c.self.inside.held in let i = c.self.invariant in
    let w = c.compact_step.ensures in let n = c.compact_step.new.self in
    let may : MayCompact s = c.may_compact.ensures.0 (search rules) in
    let e = c.in_default.ensures in let ok = e.ok in
    rw (← c.self.view_is) (record {
      steps = ways.compacts D.faults h s n half.settled c.step.result i.out may ok w.phase c.step.ensures;
      kept = keeps.calls D s n half _ _ _ _ m.counts_now (Leaves s) (keeps.kept_then D i n w.same.0) tt w.same.0
          (out.held_same s n h w.same.2) w.disk.any_moment w.disk.honest ok.no_failure;
      called = ways.calls_of_step s.compaction.next s.may_open c.step.result (D.calls s.disk) (D.calls n.disk) e.disk.called;
    })

pub returns : goal.returns
returns g c =
    let D = g.D.Disk in let m = g.met.D.Disk in let s = c.self.inside.store in let half = c.self.inside.half in
    let h = c.self.inside.held in let i = c.self.invariant in
    let w = c.compact_step.ensures in let n = c.compact_step.new.self in
    let may : MayCompact s = c.may_compact.ensures.0 (search rules) in
    let e = c.in-Err.ensures in let f = c.in-Err.fault in
    rw (← c.self.view_is) (record {
      steps = subst (λ (x : StoreHalfState g.row.D.Denot). StepsOn (taken_by x) (way_by x) (answer.Fault f)
          (ways.At h n)) c.self.view_is (ways.stops D.faults f h s n half.settled i.out may e.fault);
      kept = keeps.calls D s n half _ _ _ _ m.counts_now (Leaves s) (keeps.kept_then D i n w.same.0) tt w.same.0
          (out.held_same s n h w.same.2) w.disk.any_moment w.disk.honest (ways.rise_of_stop D.faults f s n e.fault);
      called = ways.calls_of_stop D.faults D.calls f s n e.fault e.disk.called;
    })
