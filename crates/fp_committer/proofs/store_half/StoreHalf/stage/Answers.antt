use Rattle.std.proofs.Common.{rules, ◌≡◌, refl, sym, ap, subst, ◌∙◌}
use Rattle.fp_disk.specs.declared.history.CallKind.TheVariants.{Write}
use Rattle.fp_record.specs.Group.{Group}
use Rattle.fp_group_commit.specs.Changes.{HasRoom}
use Rattle.fp_group_commit.specs.Store.{Leaves}
use Rattle.fp_group_commit.specs.declared.phase.Phase.TheVariants.{Staged}
use Rattle.fp_committer.specs.StoreHalf.{IsOut, StoreHalfState, changes_held, in_flight_at, is_in_flight, taken_by, way_by}
use Rattle.fp_committer.specs.Way.{CanStage, Stages, batch_staged}
use Rattle.fp_committer.specs.declared.event.Answer.TheVariants as answer
use Rattle.fp_committer.specs.declared.held.Held.{Held}
use Rattle.fp_committer.specs.declared.held.Held.TheVariants as held
use Rattle.fp_committer.proofs.Keeps as keeps
use Rattle.fp_committer.proofs.Out as out
use Rattle.fp_committer.proofs.Ways as ways
use Rattle.fp_committer.proofs.store_half.StoreHalf.stage.Goals as goal

pub returns-then-failed-clause-kept : goal.returns-then-failed-clause-kept
returns-then-failed-clause-kept g c =
    rw (← c.self.view_is) (keeps.stays g.D.Disk c.self.invariant _ _ _ _ g.met.D.Disk.only_now tt refl refl)

pub returns-in_default : goal.returns-in_default
returns-in_default g c =
    let s = c.self.inside.store in let half = c.self.inside.half in let h = c.self.inside.held in let i = c.self.invariant in
    let same : c.replace-in_default.new.dest ≡ h = c.replace-in_default.ensures.after ∙ c.replace.ensures.value in
    let none : (group : Group) → h ≡ held.Drawn group → ⊥ = (λ group is. c.in_default.not-Drawn group (c.replace.ensures.value ∙ is)) in
    rw (← c.self.view_is) (record {
      steps = (
        sym c.failed.ensures ∙ c.if-failed.false,
        ways.none_held h s (ways.Given h s half.settled) none,
        ap (λ (x : Held). ways.At x s) same,
      );
      kept = keeps.stays g.D.Disk i _ _ _ _ g.met.D.Disk.only_now tt refl (ap (λ (x : Held). changes_held x s) same);
      called = refl;
    })

pub returns-then-not-has_room-clause-steps : goal.returns-then-not-has_room-clause-steps
returns-then-not-has_room-clause-steps g c =
    let s = c.self.inside.store in let half = c.self.inside.half in let h = c.self.inside.held in let i = c.self.invariant in
    let draw = c.in-Drawn.draw in
    let is : h ≡ held.Drawn draw = sym c.replace.ensures.value ∙ c.in-Drawn.is in
    let o = subst (λ (x : Held). IsOut x s half.settled) is i.out in
    let none : HasRoom s draw → ⊥ = (λ room. let yes = c.has_room.ensures.room.1 room in absurd (search rules)) in
    rw (← c.self.view_is, c.replace-then-not-has_room.ensures.after)
    (subst (λ (x : Held). Stages (ways.Given x s half.settled) (ways.At x s) answer.NotNow
    (ways.At (held.Drawn draw) s)) (sym is)
    (sym c.failed.ensures ∙ c.if-failed.false, ways.cannot_stage draw s half.settled o.2 none, refl))

pub returns-then-not-has_room-clause-kept : goal.returns-then-not-has_room-clause-kept
returns-then-not-has_room-clause-kept g c =
    let s = c.self.inside.store in let h = c.self.inside.held in
    let is : h ≡ held.Drawn c.in-Drawn.draw = sym c.replace.ensures.value ∙ c.in-Drawn.is in
    rw (← c.self.view_is, c.replace-then-not-has_room.ensures.after)
    (keeps.stays g.D.Disk c.self.invariant _ _ _ _ g.met.D.Disk.only_now tt refl
    (sym (ap (λ (x : Held). changes_held x s) is)))

pub invariant_of-self-in_default-stage : goal.invariant_of-self-in_default-stage
invariant_of-self-in_default-stage g c =
    let D = g.D.Disk in let s = c.self.inside.store in let half = c.self.inside.half in let h = c.self.inside.held in
    let i = c.self.invariant in
    let draw = c.in-Drawn.draw in
    let is : h ≡ held.Drawn draw = sym c.replace.ensures.value ∙ c.in-Drawn.is in
    let o = subst (λ (x : Held). IsOut x s half.settled) is i.out in
    let w = c.stage.ensures in let n = c.stage.new.self in
    let on : n.phase ≡ Staged = search rules in let staged : n.staged ≡ draw.changes = search rules in
    rw c.replace.ensures.after (out.went D.honest D.unsynced i held.InFlight n
    (ap is_in_flight on, w.same.1 ∙ o.1, λ e. o.2 (sym staged ∙ e))
    (staged ∙ sym (ap (λ (x : Held). changes_held x s) is)) w.disk.exit)

pub invariant_of-self-2 : goal.invariant_of-self-2
invariant_of-self-2 g c =
    let D = g.D.Disk in let s = c.self.inside.store in let half = c.self.inside.half in let h = c.self.inside.held in
    let i = c.self.invariant in
    let draw = c.in-Drawn.draw in
    let is : h ≡ held.Drawn draw = sym c.replace.ensures.value ∙ c.in-Drawn.is in
    let w = c.stage.ensures in let n = c.stage.new.self in
    let on : n.phase ≡ s.phase = search rules in let same : c.in-Err.draw ≡ draw = search rules in
    let held_is : held.Drawn c.in-Err.draw ≡ h = ap (λ (x : Group). held.Drawn x) same ∙ sym is in
    rw c.replace-2.ensures.after (out.went D.honest D.unsynced i (held.Drawn c.in-Err.draw) n
    (out.out_put s n half.settled draw c.in-Err.draw (subst (λ (x : Held). IsOut x s half.settled) is i.out) same on
    w.same.0 w.same.1) (ap (λ (x : Held). changes_held x s) held_is) w.disk.exit)

pub returns-in_default-stage : goal.returns-in_default-stage
returns-in_default-stage g c =
    let D = g.D.Disk in let m = g.met.D.Disk in let s = c.self.inside.store in let half = c.self.inside.half in
    let h = c.self.inside.held in let i = c.self.invariant in
    let draw = c.in-Drawn.draw in
    let is : h ≡ held.Drawn draw = sym c.replace.ensures.value ∙ c.in-Drawn.is in
    let w = c.stage.ensures in let n = c.stage.new.self in
    let ok = c.in_default-stage.ensures.ok in
    let staged : n.staged ≡ draw.changes = search rules in
    let room : HasRoom s draw = c.has_room.ensures.room.0 (search rules) in
    rw (← c.self.view_is, c.replace.ensures.after) (record {
      steps = subst (λ (x : Held). Stages (ways.Given x s half.settled) (ways.At x s) answer.Done
          (ways.At held.InFlight n)) (sym is)
          (ways.done D.faults (CanStage (ways.Given (held.Drawn draw) s half.settled)) batch_staged (held.Drawn draw)
          held.InFlight s n Staged ok w.same_room (ways.can_stage draw s half.settled room)
          (ap in_flight_at ok.phase));
      kept = keeps.calls D s n half _ _ _ _ m.counts_now (Leaves s) (keeps.kept_then D i n w.same.0) tt w.same.0
          (staged ∙ sym (ap (λ (x : Held). changes_held x s) is)) w.disk.any_moment w.disk.honest ok.no_failure;
      called = c.in_default-stage.ensures.disk.called;
    })

pub returns : goal.returns
returns g c =
    let D = g.D.Disk in let m = g.met.D.Disk in let s = c.self.inside.store in let half = c.self.inside.half in
    let h = c.self.inside.held in let i = c.self.invariant in
    let draw = c.in-Drawn.draw in
    let is : h ≡ held.Drawn draw = sym c.replace.ensures.value ∙ c.in-Drawn.is in
    let w = c.stage.ensures in let n = c.stage.new.self in
    let e = c.in-Err.ensures in let f = c.in-Err.fault in let same : c.in-Err.draw ≡ draw = search rules in
    let held_is : held.Drawn c.in-Err.draw ≡ h = ap (λ (x : Group). held.Drawn x) same ∙ sym is in
    let room : HasRoom s draw = c.has_room.ensures.room.0 (search rules) in
    rw (← c.self.view_is) (record {
      steps = subst (λ (x : StoreHalfState g.row.D.Denot). Stages (taken_by x) (way_by x) (answer.Fault f)
          (ways.At c.replace-2.new.dest n)) c.self.view_is
          (subst (λ (x : Held). Stages (ways.Given h s half.settled) (ways.At h s) (answer.Fault f) (ways.At x n))
          (sym c.replace-2.ensures.after)
          (subst (λ (x : Held). Stages (ways.Given x s half.settled) (ways.At x s) (answer.Fault f)
          (ways.At (held.Drawn c.in-Err.draw) n)) (sym is)
          (ways.refused_stage D.faults f draw c.in-Err.draw s n (ways.Given (held.Drawn draw) s half.settled)
          e.fault c.in_default-fault.not-Stranger (ways.can_stage draw s half.settled room))));
      kept = keeps.calls D s n half _ _ _ _ m.counts_now (Leaves s) (keeps.kept_then D i n w.same.0) tt w.same.0
          (ap (λ (x : Held). changes_held x n) c.replace-2.ensures.after ∙
          ap (λ (x : Held). changes_held x s) held_is) w.disk.any_moment w.disk.honest
          (ways.rise_of_refusal D.faults f s n draw e.fault);
      called = ways.calls_of_refusal D.faults D.calls Write f s n draw e.fault e.disk.called;
    })
