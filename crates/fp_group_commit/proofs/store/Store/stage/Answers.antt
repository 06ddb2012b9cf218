use Rattle.std.proofs.Common.{length, rules, ℕ, refl, sym, ap, subst, ◌∙◌, inl, inr}
use Rattle.std.specs.List.{AllByRecursion}
use Rattle.fp_recovery.specs.Stands.{IsAllowed}
use Rattle.fp_edit.specs.Flags.{State}
use Rattle.fp_edit.specs.Following.{changes_of}
use Rattle.fp_edit.proofs.Followed.{none_left}
use Rattle.fp_journal.specs.Chain.{with_gate}
use Rattle.fp_group_commit.specs.declared.phase.Phase.TheVariants.{Idle, Staged}
use Rattle.fp_record.proofs.Lengths.{length-encoding_of_batch}
use Rattle.fp_slots.specs.State.{IsGrowing}
use Rattle.fp_slots.specs.declared.slots.Step.{Step}
use Rattle.fp_compaction.specs.Batches.{HasRoomFor}
use Rattle.fp_group_commit.specs.Changes.{GoesOn, HasRoom}
use Rattle.fp_group_commit.specs.Inside.{is_failed}
use Rattle.fp_group_commit.specs.Store.{StoreState}
use Rattle.fp_group_commit.proofs.Sizes as sizes
use Rattle.fp_group_commit.proofs.Steps as steps
use Rattle.fp_group_commit.proofs.BatchSteps as calls
use Rattle.fp_group_commit.proofs.store.Store.stage.Goals as goal

pub returns-in-Failed-clause-disk : goal.returns-in-Failed-clause-disk
returns-in-Failed-clause-disk g c =
    rw (← c.self.view_is) (steps.calls_none g.D.Disk c.self.invariant g.met.D.Disk.only_now c.phase.ensures.outcomes)

pub returns-in-Failed-clause-begun : goal.returns-in-Failed-clause-begun
returns-in-Failed-clause-begun g c = rw (← c.self.view_is) (calls.shut_at_rest g.D.Disk c.self.invariant c.self.view_is c.requires.idle)

pub returns-in-Err : goal.returns-in-Err
returns-in-Err g c =
    let D = g.D.Disk in let i = c.self.invariant in
    rw (← c.self.view_is) (record {
      same = (refl, refl);
      ok = tt;
      staged = tt;
      goes_on = tt;
      phase = refl;
      fault = calls.refuses D i D.faults (λ e. c.in_default.not-Failed (c.phase.ensures.phase ∙ e)) c.args.draw
          c.in-Err.fault c.in-Err.ensures.fault;
      given_back = refl;
      same_room = record { most = refl; room = refl; compaction = refl; other = refl; may_open = refl };
      begun = calls.shut_at_rest D i c.self.view_is c.requires.idle;
      disk = steps.calls_none D i g.met.D.Disk.only_now c.phase.ensures.outcomes;
    })

pub returns-in_default-make_ready : goal.returns-in_default-make_ready
returns-in_default-make_ready g c =
    let D = g.D.Disk in let i = c.self.invariant in
    rw (← c.self.view_is, c.in_default-make_ready.ensures.err) (record {
      same = (refl, refl);
      ok = tt;
      staged = tt;
      goes_on = tt;
      phase = refl;
      fault = (
        steps.is_well _ (λ e. c.in_default.not-Failed (c.phase.ensures.phase ∙ e)),
        refl,
        calls.goes_kept D i c.args.draw c.in-Ok.ensures.goes_on,
      );
      given_back = refl;
      same_room = record { most = refl; room = refl; compaction = refl; other = refl; may_open = refl };
      begun = calls.shut_at_rest D i c.self.view_is c.requires.idle;
      disk = steps.calls_none D i g.met.D.Disk.only_now c.phase.ensures.outcomes;
    })

pub stage-requires : goal.stage-requires
stage-requires g c =
    let b = calls.readied g.D.Disk c.self.invariant c.self.view_is c.requires.idle
    (λ e. c.in_default.not-Failed (c.phase.ensures.phase ∙ e)) c.make_ready.new.slots c.make_ready.ensures.same
    c.ready.new.set (changes_of c.ready.new.ahead.items) c.ready.ensures.same c.ready.ensures.follows in
    let room = sizes.place_of g.D.Disk.honest g.D.Disk.unsynced c.self.invariant c.args.draw
    (subst (λ (k : StoreState g.row.D.Denot). HasRoom k c.args.draw) (sym c.self.view_is) c.requires.room) in
    let len = ap length c.in-Ok.ensures.spelled ∙ length-encoding_of_batch c.args.draw in
    record {
      idle = b.idle;
      room =
          subst (λ (n : ℕ). HasRoomFor c.make_ready.new.slots n) (sym len)
          (steps.room_plan c.self.inside.slots c.make_ready.new.slots b.plan room.room);
    }

pub invariant_of-self-in_default-stage : goal.invariant_of-self-in_default-stage
invariant_of-self-in_default-stage g c =
    let b = calls.readied g.D.Disk c.self.invariant c.self.view_is c.requires.idle
    (λ e. c.in_default.not-Failed (c.phase.ensures.phase ∙ e)) c.make_ready.new.slots c.make_ready.ensures.same
    c.ready.new.set (changes_of c.ready.new.ahead.items) c.ready.ensures.same c.ready.ensures.follows in
    calls.sound_unstaged g.D.Disk b c.stage.new.slots c.stage.ensures.moves c.in_default-stage.ensures.moves.phase.1

pub returns-in_default-stage : goal.returns-in_default-stage
returns-in_default-stage g c =
    let b = calls.readied g.D.Disk c.self.invariant c.self.view_is c.requires.idle
    (λ e. c.in_default.not-Failed (c.phase.ensures.phase ∙ e)) c.make_ready.new.slots c.make_ready.ensures.same
    c.ready.new.set (changes_of c.ready.new.ahead.items) c.ready.ensures.same c.ready.ensures.follows in
    let D = g.D.Disk in let s = c.self.inside in let t = c.stage.new.slots in let w = c.stage.ensures in
    let failed = c.in_default-stage.ensures.moves.phase.1 in
    rw (← c.self.view_is) (record {
      same = (refl, refl);
      ok = tt;
      staged = tt;
      goes_on = tt;
      phase = refl;
      fault = (
        calls.breaks_then D b t w.moves failed (search rules),
        calls.goes_kept D c.self.invariant c.args.draw c.in-Ok.ensures.goes_on,
      );
      given_back = refl;
      same_room = calls.room_then D b t w.moves s.batch.changes s.phase;
      begun = steps.begun_shut t.journal.phase Idle t.journal.begun refl w.moves.begun (inr failed);
      disk = calls.calls_then D b t w.moves s.batch.changes s.phase g.met.D.Disk.counts_now w.stands _;
    })

pub invariant_of-self-2 : goal.invariant_of-self-2
invariant_of-self-2 g c =
    let b = calls.readied g.D.Disk c.self.invariant c.self.view_is c.requires.idle
    (λ e. c.in_default.not-Failed (c.phase.ensures.phase ∙ e)) c.make_ready.new.slots c.make_ready.ensures.same
    c.ready.new.set (changes_of c.ready.new.ahead.items) c.ready.ensures.same c.ready.ensures.follows in
    let room = sizes.place_of g.D.Disk.honest g.D.Disk.unsynced c.self.invariant c.args.draw
    (subst (λ (k : StoreState g.row.D.Denot). HasRoom k c.args.draw) (sym c.self.view_is) c.requires.room) in
    let len = ap length c.in-Ok.ensures.spelled ∙ length-encoding_of_batch c.args.draw in
    let D = g.D.Disk in let mid = c.make_ready.new.slots in let t = c.stage.new.slots in let w = c.stage.ensures in
    calls.sound_staged D b.sound Staged t (steps.beside_of mid t w.moves.same) w.moves.sealed
    (steps.kept_on D b.sound t w.moves.kept w.moves.call.honest.1) c.args.draw c.ready.new.set
    (changes_of c.ready.new.ahead.items) (changes_of c.in-Ok.ready.1.items) refl c.ready.ensures.follows
    (none_left c.ready.new.ahead.items c.in-Ok.ensures.done) c.in-Ok.ensures.copied
    (subst (λ (x : State). GoesOn x c.args.draw) (sym c.ready.ensures.same) c.in-Ok.ensures.goes_on)
    c.in-Ok.ensures.lawful (w.staged ∙ c.in-Ok.ensures.spelled) (ap length w.staged ∙ len)
    (steps.room_plan c.self.inside.slots mid b.plan room.room)
    (subst (λ (v : ℕ). AllByRecursion (IsAllowed v) c.args.draw.changes) (sym b.plan.3) room.allowed)
    (λ growing. w.moves.same.9 ∙ c.in-Ok-make_ready.ensures.ready
    (subst (λ (x : Step). IsGrowing x) w.moves.same.5 growing) ∙ sym (ap with_gate w.staged))
    c.in-Ok-stage.ensures.moves.phase.0

pub returns : goal.returns
returns g c =
    let b = calls.readied g.D.Disk c.self.invariant c.self.view_is c.requires.idle
    (λ e. c.in_default.not-Failed (c.phase.ensures.phase ∙ e)) c.make_ready.new.slots c.make_ready.ensures.same
    c.ready.new.set (changes_of c.ready.new.ahead.items) c.ready.ensures.same c.ready.ensures.follows in
    let D = g.D.Disk in let t = c.stage.new.slots in let w = c.stage.ensures in let done = c.in-Ok-stage.ensures.moves.phase.0 in
    rw (← c.self.view_is) (record {
      same = (refl, refl);
      ok = record { phase = refl; well_before = steps.is_well _ b.well; well_now = ap is_failed done; no_failure = search rules };
      staged = refl;
      goes_on = calls.goes_kept D c.self.invariant c.args.draw c.in-Ok.ensures.goes_on;
      phase = tt;
      fault = tt;
      given_back = tt;
      same_room = calls.room_then D b t w.moves c.args.draw.changes Staged;
      begun = steps.begun_shut t.journal.phase Staged t.journal.begun refl w.moves.begun (inl done);
      disk = calls.calls_then D b t w.moves c.args.draw.changes Staged g.met.D.Disk.counts_now w.stands _;
    })
