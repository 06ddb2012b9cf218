use Rattle.std.proofs.Common.{rules, ◌≡◌, ◌++◌, List, [], length, refl, sym, ap, subst, ◌∙◌, arith}
use Rattle.fp_disk.specs.declared.history.CallKind.TheVariants.{Sync}
use Rattle.fp_edit.specs.Edits.{Change}
use Rattle.fp_edit.proofs.Runs.{revision-after_all}
use Rattle.fp_group_commit.specs.Store.{Leaves}
use Rattle.fp_group_commit.specs.Tokens.{Identity}
use Rattle.fp_group_commit.specs.declared.phase.Phase.TheVariants.{GateOpened}
use Rattle.fp_committer.specs.StoreHalf.{IsOut, StoreHalfState, changes_held, in_flight_at, is_in_flight, progress_of, taken_by, way_by}
use Rattle.fp_committer.specs.Way.{Seals, gate_opened}
use Rattle.fp_committer.specs.declared.event.Answer.TheVariants as answer
use Rattle.fp_committer.specs.declared.held.Held.{Held}
use Rattle.fp_committer.specs.declared.held.Held.TheVariants as held
use Rattle.fp_committer.proofs.Keeps as keeps
use Rattle.fp_committer.proofs.Out as out
use Rattle.fp_committer.proofs.Ways as ways
use Rattle.fp_committer.proofs.store_half.StoreHalf.sync_gate.Goals as goal

pub returns-then-failed-clause-kept : goal.returns-then-failed-clause-kept
returns-then-failed-clause-kept g c =
    rw (← c.self.view_is) (keeps.stays g.D.Disk c.self.invariant _ _ _ _ g.met.D.Disk.only_now tt refl refl)

pub returns-in_default : goal.returns-in_default
returns-in_default g c =
    let s = c.self.inside.store in let half = c.self.inside.half in let h = c.self.inside.held in let i = c.self.invariant in
    rw (← c.self.view_is) (record {
      steps = (
        sym c.failed.ensures ∙ c.if-failed.false,
        (λ at. c.in_default.not-GateOpened
            (c.phase.ensures.phase ∙ ways.when_at s half.settled h i.out gate_opened at)),
        refl,
      );
      kept = keeps.stays g.D.Disk i _ _ _ _ g.met.D.Disk.only_now tt refl refl;
      called = refl;
    })

pub invariant_of-self : goal.invariant_of-self
invariant_of-self g c =
    let D = g.D.Disk in let s = c.self.inside.store in let half = c.self.inside.half in let h = c.self.inside.held in
    let i = c.self.invariant in
    let n = c.sync_gate.new.self in
    let at : s.phase ≡ GateOpened = search rules in
    let is : h ≡ held.InFlight = out.in_flight s half.settled h i.out (ap is_in_flight at) in
    let o = subst (λ (x : Held). IsOut x s half.settled) is i.out in
    let w = c.in-Ok.ensures in
    let place = w.batch.1 in let all = revision-after_all s.store.start s.sealed in let len = ap length o.1 in
    let start = ap (λ (x : Identity). x.start.revision) w.store in
    let some : (c.in-Ok.receipt.batch.changes ≡ [] → ⊥) = (λ e. o.2 (sym w.batch.0 ∙ e)) in
    rw c.replace.ensures.after (out.went D.honest D.unsynced i (held.Sealed c.in-Ok.receipt) n (
      w.ok.phase,
      w.sealed ∙ ap (λ (l : List Change). l ++ s.staged) o.1 ∙
          ap (λ (l : List Change). half.settled ++ l) (sym w.batch.0),
      some,
      w.receipt.0,
      omega (arith, place, len, all, start),
    )
    (w.batch.0 ∙ sym (ap (λ (x : Held). changes_held x s) is)) w.disk.exit)

pub invariant_of-self-in-Err : goal.invariant_of-self-in-Err
invariant_of-self-in-Err g c =
    let D = g.D.Disk in let s = c.self.inside.store in let i = c.self.invariant in
    let n = c.sync_gate.new.self in
    let at : s.phase ≡ GateOpened = search rules in
    let e = c.in-Err.ensures in
    let on : n.phase ≡ GateOpened = e.phase ∙ at in
    out.moved D.honest D.unsynced i n (ap is_in_flight at) (ap is_in_flight on) e.err e.disk.exit

pub returns-in-Ok : goal.returns-in-Ok
returns-in-Ok g c =
    let D = g.D.Disk in let m = g.met.D.Disk in let s = c.self.inside.store in let half = c.self.inside.half in
    let h = c.self.inside.held in let i = c.self.invariant in
    let w = c.sync_gate.ensures in let n = c.sync_gate.new.self in
    let at : s.phase ≡ GateOpened = search rules in
    let is : h ≡ held.InFlight = out.in_flight s half.settled h i.out (ap is_in_flight at) in
    let o = subst (λ (x : Held). IsOut x s half.settled) is i.out in
    let point : progress_of h s.phase ≡ gate_opened =
    ways.in_air s half.settled h i.out (ap is_in_flight at) s.phase ∙ ap in_flight_at at in
    let k = c.in-Ok.ensures in let ok = k.ok in
    let held_is = sym (ap (λ (x : Held). changes_held x s) is) in
    rw (← c.self.view_is, c.replace.ensures.after) (record {
      steps = ways.seals D.faults h c.in-Ok.receipt s n (ways.Given h s half.settled) c.revision.result refl ok
          k.takes_room k.store o.1 held_is k.sealed point c.revision.ensures;
      kept = keeps.calls D s n half _ _ _ _ m.counts_now (Leaves s) (keeps.kept_then D i n k.store) tt k.store
          (k.batch.0 ∙ held_is) w.disk.any_moment w.disk.honest ok.no_failure;
      called = k.disk.called;
    })

pub returns-in-Err : goal.returns-in-Err
returns-in-Err g c =
    let D = g.D.Disk in let m = g.met.D.Disk in let s = c.self.inside.store in let half = c.self.inside.half in
    let h = c.self.inside.held in let i = c.self.invariant in
    let w = c.sync_gate.ensures in let n = c.sync_gate.new.self in
    let at : s.phase ≡ GateOpened = search rules in
    let point : progress_of h s.phase ≡ gate_opened =
    ways.in_air s half.settled h i.out (ap is_in_flight at) s.phase ∙ ap in_flight_at at in
    let e = c.in-Err.ensures in let f = c.in-Err.fault in
    rw (← c.self.view_is) (record {
      steps = subst (λ (x : StoreHalfState g.row.D.Denot). Seals (taken_by x) (way_by x) (answer.Fault f)
          (ways.At h n)) c.self.view_is (ways.seal_fails D.faults f h s n (ways.Given h s half.settled) e.fault
          e.phase point);
      kept = keeps.calls D s n half _ _ _ _ m.counts_now (Leaves s) (keeps.kept_then D i n e.err.0) tt e.err.0
          (out.held_same s n h e.err.2) w.disk.any_moment w.disk.honest (ways.rise_of_fail D.faults f s n e.fault);
      called = ways.calls_of_fail D.faults D.calls Sync f s n e.fault e.disk.called;
    })
