use Rattle.std.proofs.Common.{rules, ◌≡◌, ◌++◌, List, refl, sym, ap, subst, ◌∙◌}
use Rattle.fp_disk.specs.declared.history.CallKind.TheVariants.{Write}
use Rattle.fp_edit.specs.Edits.{Change}
use Rattle.fp_group_commit.specs.Store.{Leaves}
use Rattle.fp_group_commit.specs.declared.phase.Phase.TheVariants.{BodySynced, GateOpened}
use Rattle.fp_committer.specs.StoreHalf.{StoreHalfState, in_flight_at, is_in_flight, way_by}
use Rattle.fp_committer.specs.Way.{Advances, IsAt, body_synced, gate_opened}
use Rattle.fp_committer.specs.declared.event.Answer.TheVariants as answer
use Rattle.fp_committer.proofs.Keeps as keeps
use Rattle.fp_committer.proofs.Out as out
use Rattle.fp_committer.proofs.Ways as ways
use Rattle.fp_committer.proofs.store_half.StoreHalf.open_gate.Goals as goal

pub returns-then-failed-clause-kept : goal.returns-then-failed-clause-kept
returns-then-failed-clause-kept g c =
    rw (← c.self.view_is) (keeps.stays g.D.Disk c.self.invariant _ _ _ _ g.met.D.Disk.only_now tt refl refl)

pub returns-in_default : goal.returns-in_default
returns-in_default g c =
    let s = c.self.inside.store in let half = c.self.inside.half in let h = c.self.inside.held in let i = c.self.invariant in
    rw (← c.self.view_is) (record {
      steps = (
        sym c.failed.ensures ∙ c.if-failed.false,
        (λ at. c.in_default.not-BodySynced
            (c.phase.ensures.phase ∙ ways.when_at s half.settled h i.out body_synced at)),
        refl,
      );
      kept = keeps.stays g.D.Disk i _ _ _ _ g.met.D.Disk.only_now tt refl refl;
      called = refl;
    })

pub invariant_of-self : goal.invariant_of-self
invariant_of-self g c =
    let D = g.D.Disk in let e = c.open_gate.ensures in
    let at : c.self.inside.store.phase ≡ BodySynced = search rules in
    let on : c.open_gate.new.self.phase ≡ GateOpened = search rules in
    out.moved D.honest D.unsynced c.self.invariant c.open_gate.new.self (ap is_in_flight at) (ap is_in_flight on) e.moves.same e.disk.exit

pub invariant_of-self-2 : goal.invariant_of-self-2
invariant_of-self-2 g c =
    let D = g.D.Disk in let e = c.open_gate.ensures in
    let at : c.self.inside.store.phase ≡ BodySynced = search rules in
    let on : c.open_gate.new.self.phase ≡ BodySynced = search rules in
    out.moved D.honest D.unsynced c.self.invariant c.open_gate.new.self (ap is_in_flight at) (ap is_in_flight on) e.moves.same e.disk.exit

pub returns-in_default-open_gate : goal.returns-in_default-open_gate
returns-in_default-open_gate g c =
    let D = g.D.Disk in let m = g.met.D.Disk in let e = c.open_gate.ensures in let s = c.self.inside.store in
    let half = c.self.inside.half in let n = c.open_gate.new.self in let h = c.self.inside.held in
    let i = c.self.invariant in
    let at : s.phase ≡ BodySynced = search rules in
    let air = ways.in_air s half.settled h i.out (ap is_in_flight at) in
    let on : n.phase ≡ GateOpened = search rules in
    let moved = c.in_default-open_gate.ensures.moves.ok in
    rw (← c.self.view_is) (record {
      steps = ways.done D.faults (IsAt body_synced) gate_opened h h s n GateOpened moved e.moves.same_room
          (air s.phase ∙ ap in_flight_at at) (air n.phase ∙ ap in_flight_at on);
      kept = keeps.calls D s n half _ _ _ _ m.counts_now (Leaves n)
          (keeps.leaves_kept n half h (out.out_moved s n half.settled h i.out (ap is_in_flight at) e.moves.same.1
          e.moves.same.2 (ap is_in_flight on))
          (i.whole ∙ ap (λ (l : List Change). half.settled ++ l) (sym (out.held_same s n h e.moves.same.2)))) tt
          e.moves.same.0 (out.held_same s n h e.moves.same.2) e.disk.any_moment e.disk.honest moved.no_failure;
      called = c.in_default-open_gate.ensures.disk.called;
    })

pub returns : goal.returns
returns g c =
    let D = g.D.Disk in let m = g.met.D.Disk in let e = c.open_gate.ensures in let s = c.self.inside.store in
    let half = c.self.inside.half in let n = c.open_gate.new.self in let h = c.self.inside.held in
    let i = c.self.invariant in
    let at : s.phase ≡ BodySynced = search rules in
    let air = ways.in_air s half.settled h i.out (ap is_in_flight at) in
    let on : n.phase ≡ BodySynced = search rules in
    let f = c.in-Err.fault in let why = c.in-Err.ensures.moves.fault in
    rw (← c.self.view_is) (record {
      steps = subst (λ (x : StoreHalfState g.row.D.Denot). Advances (IsAt body_synced) gate_opened (way_by x)
          (answer.Fault f) (ways.At h n)) c.self.view_is
          (ways.fails D.faults (IsAt body_synced) gate_opened f h s n why c.in-Err.ensures.moves.phase
          (air s.phase ∙ ap in_flight_at at));
      kept = keeps.calls D s n half _ _ _ _ m.counts_now (Leaves n)
          (keeps.leaves_kept n half h (out.out_moved s n half.settled h i.out (ap is_in_flight at) e.moves.same.1
          e.moves.same.2 (ap is_in_flight on))
          (i.whole ∙ ap (λ (l : List Change). half.settled ++ l) (sym (out.held_same s n h e.moves.same.2)))) tt
          e.moves.same.0 (out.held_same s n h e.moves.same.2) e.disk.any_moment e.disk.honest
          (ways.rise_of_fail D.faults f s n why);
      called = ways.calls_of_fail D.faults D.calls Write f s n why c.in-Err.ensures.disk.called;
    })
