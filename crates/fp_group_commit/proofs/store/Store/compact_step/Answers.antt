use Rattle.std.proofs.Common.{refl, sym, ◌∙◌}
use Rattle.fp_edit.specs.Following.{changes_of}
use Rattle.fp_edit.proofs.Followed.{none_left}
use Rattle.fp_group_commit.proofs.Steps as steps
use Rattle.fp_group_commit.proofs.BatchSteps as calls
use Rattle.fp_group_commit.proofs.CompactionSteps as compaction_steps
use Rattle.fp_group_commit.proofs.store.Store.compact_step.Goals as goal

pub returns-in-Failed-clause-disk : goal.returns-in-Failed-clause-disk
returns-in-Failed-clause-disk g c =
    rw (← c.self.view_is) (steps.calls_none g.D.Disk c.self.invariant g.met.D.Disk.only_now c.phase.ensures.outcomes)

pub invariant_of-self : goal.invariant_of-self
invariant_of-self g c =
    let cu = c.catch_up.ensures in
    compaction_steps.caught g.D.Disk c.self.invariant c.catch_up.new.set (changes_of c.catch_up.new.ahead.items) cu.same cu.follows cu.still

pub returns-in_default-catch_up : goal.returns-in_default-catch_up
returns-in_default-catch_up g c =
    rw (← c.self.view_is) (record {
      same = (refl, refl, refl);
      phase = refl;
      begun = refl;
      ok = tt;
      next = tt;
      fault = (
        steps.is_well _ (λ e. c.in_default.not-Failed (c.phase.ensures.phase ∙ e)),
        sym c.step-next.ensures.step ∙ c.in_default-catch_up.ensures.begins,
        refl,
      );
      disk = steps.calls_none g.D.Disk c.self.invariant g.met.D.Disk.only_now c.phase.ensures.outcomes;
    })

pub take_step-requires : goal.take_step-requires
take_step-requires g c =
    let k = compaction_steps.caught_up g.D.Disk c.self.invariant c.self.view_is c.requires
    (λ e. c.in_default.not-Failed (c.phase.ensures.phase ∙ e)) c.catch_up.new.set
    (changes_of c.catch_up.new.ahead.items) c.catch_up.ensures.same c.catch_up.ensures.follows
    c.catch_up.ensures.still (λ at idle. none_left c.catch_up.new.ahead.items
    (c.in-Ok.ensures.done (c.step-next.ensures.step ∙ at) idle)) in
    record {
      live = k.well;
      may = compaction_steps.may_step g.D.Disk k.sound k.may k.well;
      place =
          λ begins. compaction_steps.has_place g.D.Disk k.sound (k.begin begins);
    }

pub invariant_of-self-in_default-take_step : goal.invariant_of-self-in_default-take_step
invariant_of-self-in_default-take_step g c =
    let k = compaction_steps.caught_up g.D.Disk c.self.invariant c.self.view_is c.requires
    (λ e. c.in_default.not-Failed (c.phase.ensures.phase ∙ e)) c.catch_up.new.set
    (changes_of c.catch_up.new.ahead.items) c.catch_up.ensures.same c.catch_up.ensures.follows
    c.catch_up.ensures.still (λ at idle. none_left c.catch_up.new.ahead.items
    (c.in-Ok.ensures.done (c.step-next.ensures.step ∙ at) idle)) in
    let o = c.in_default-take_step.ensures in
    compaction_steps.sound_taken g.D.Disk k.sound c.take_step.new.slots c.take_step.ensures.taken k o.order.0 o.begun
    o.planned o.stays o.turned

pub returns-in_default-take_step : goal.returns-in_default-take_step
returns-in_default-take_step g c =
    let k = compaction_steps.caught_up g.D.Disk c.self.invariant c.self.view_is c.requires
    (λ e. c.in_default.not-Failed (c.phase.ensures.phase ∙ e)) c.catch_up.new.set
    (changes_of c.catch_up.new.ahead.items) c.catch_up.ensures.same c.catch_up.ensures.follows
    c.catch_up.ensures.still (λ at idle. none_left c.catch_up.new.ahead.items
    (c.in-Ok.ensures.done (c.step-next.ensures.step ∙ at) idle)) in
    let D = g.D.Disk in let t = c.take_step.new.slots in let w = c.take_step.ensures in let o = c.in_default-take_step.ensures in
    rw (← c.self.view_is) (record {
      same = (refl, refl, refl);
      phase = refl;
      begun = compaction_steps.begun_now D k.sound t w.taken k o.order.0 o.begun o.planned o.stays o.turned;
      ok = compaction_steps.compacts D k.sound t w.taken k o.order.0 o.begun o.planned o.stays o.turned D.faults
          o.no_failure o.left c.step.ensures.numbered;
      next = c.step.ensures.step;
      fault = tt;
      disk = calls.calls_on D g.met.D.Disk.counts_now _ _ _ _ _ _ w.taken.called w.taken.honest
          (compaction_steps.step_leaves D k.sound t w.taken) (λ o stands. stands)
          (compaction_steps.leaves_then D k.sound t w.taken k o.order.0 o.begun o.planned o.stays o.turned);
    })

pub invariant_of-self-in-Memory : goal.invariant_of-self-in-Memory
invariant_of-self-in-Memory g c =
    let k = compaction_steps.caught_up g.D.Disk c.self.invariant c.self.view_is c.requires
    (λ e. c.in_default.not-Failed (c.phase.ensures.phase ∙ e)) c.catch_up.new.set
    (changes_of c.catch_up.new.ahead.items) c.catch_up.ensures.same c.catch_up.ensures.follows
    c.catch_up.ensures.still (λ at idle. none_left c.catch_up.new.ahead.items
    (c.in-Ok.ensures.done (c.step-next.ensures.step ∙ at) idle)) in
    rw (c.in-Err.ensures.memory c.in-Memory.is).1 k.sound

pub returns-in-Memory : goal.returns-in-Memory
returns-in-Memory g c =
    let memory = c.in-Err.ensures.memory c.in-Memory.is in
    rw (← c.self.view_is, memory.1) (record {
      same = (refl, refl, refl);
      phase = refl;
      begun = refl;
      ok = tt;
      next = tt;
      fault = (steps.is_well _ (λ e. c.in_default.not-Failed (c.phase.ensures.phase ∙ e)), memory.0, refl);
      disk = steps.calls_none g.D.Disk c.self.invariant g.met.D.Disk.only_now c.phase.ensures.outcomes;
    })

pub invariant_of-self-2 : goal.invariant_of-self-2
invariant_of-self-2 g c =
    let k = compaction_steps.caught_up g.D.Disk c.self.invariant c.self.view_is c.requires
    (λ e. c.in_default.not-Failed (c.phase.ensures.phase ∙ e)) c.catch_up.new.set
    (changes_of c.catch_up.new.ahead.items) c.catch_up.ensures.same c.catch_up.ensures.follows
    c.catch_up.ensures.still (λ at idle. none_left c.catch_up.new.ahead.items
    (c.in-Ok.ensures.done (c.step-next.ensures.step ∙ at) idle)) in
    let e = c.in-Err.ensures in
    compaction_steps.sound_broken g.D.Disk k.sound c.take_step.new.slots c.take_step.ensures.taken e.order.1
    (e.device c.in_default-fault.is)

pub returns : goal.returns
returns g c =
    let k = compaction_steps.caught_up g.D.Disk c.self.invariant c.self.view_is c.requires
    (λ e. c.in_default.not-Failed (c.phase.ensures.phase ∙ e)) c.catch_up.new.set
    (changes_of c.catch_up.new.ahead.items) c.catch_up.ensures.same c.catch_up.ensures.follows
    c.catch_up.ensures.still (λ at idle. none_left c.catch_up.new.ahead.items
    (c.in-Ok.ensures.done (c.step-next.ensures.step ∙ at) idle)) in
    let D = g.D.Disk in let t = c.take_step.new.slots in let w = c.take_step.ensures in let e = c.in-Err.ensures in
    let off = e.device c.in_default-fault.is in
    rw (← c.self.view_is) (record {
      same = (refl, refl, refl);
      phase = refl;
      begun = compaction_steps.begun_broken D k.sound t w.taken e.order.1 off c.phase.ensures.begun;
      ok = tt;
      next = tt;
      fault = compaction_steps.breaks_step D k.sound t w.taken e.order.1 off off.left k.well;
      disk = calls.calls_on D g.met.D.Disk.counts_now _ _ _ _ _ _ w.taken.called w.taken.honest
          (compaction_steps.step_leaves D k.sound t w.taken) (λ o stands. stands)
          (compaction_steps.leaves_broken D k.sound t w.taken e.order.1 off c.phase.ensures.begun);
    })
