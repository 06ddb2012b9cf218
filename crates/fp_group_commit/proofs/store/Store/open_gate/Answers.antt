use Rattle.std.proofs.Common.{rules, ◌≡◌, ◌∙◌, inl, inr}
use Rattle.fp_group_commit.specs.declared.phase.Phase.TheVariants.{Idle, BodySynced, GateOpened}
use Rattle.fp_group_commit.proofs.Steps as steps
use Rattle.fp_group_commit.proofs.BatchSteps as calls
use Rattle.fp_group_commit.proofs.store.Store.open_gate.Goals as goal

pub returns-in-Failed-clause-disk : goal.returns-in-Failed-clause-disk
returns-in-Failed-clause-disk g c =
    rw (← c.self.view_is) (steps.calls_none g.D.Disk c.self.invariant g.met.D.Disk.only_now c.phase.ensures.outcomes)

pub open_gate-requires : goal.open_gate-requires
open_gate-requires g c =
    let b = calls.on_way g.D.Disk c.self.invariant c.self.view_is c.requires
    (λ (e : BodySynced ≡ Idle). absurd (cc e)) (λ e. c.in_default.not-Failed (c.phase.ensures.phase ∙ e)) in
    record { early = b.flight.early; synced = b.is }

pub invariant_of-self : goal.invariant_of-self
invariant_of-self g c =
    let b = calls.on_way g.D.Disk c.self.invariant c.self.view_is c.requires
    (λ (e : BodySynced ≡ Idle). absurd (cc e)) (λ e. c.in_default.not-Failed (c.phase.ensures.phase ∙ e)) in
    let w = c.open_gate.ensures in
    calls.sound_on g.D.Disk c.self.invariant c.open_gate.new.slots w.moves b.flight w.staged c.self.inside.phase
    b.flight.on_way (inr c.in_default-open_gate.ensures.moves.phase.1)

pub returns-in_default-open_gate : goal.returns-in_default-open_gate
returns-in_default-open_gate g c =
    let b = calls.on_way g.D.Disk c.self.invariant c.self.view_is c.requires
    (λ (e : BodySynced ≡ Idle). absurd (cc e)) (λ e. c.in_default.not-Failed (c.phase.ensures.phase ∙ e)) in
    let D = g.D.Disk in let m = g.met.D.Disk in let i = c.self.invariant in let t = c.open_gate.new.slots in
    let w = c.open_gate.ensures in let failed = c.in_default-open_gate.ensures.moves.phase.1 in
    let begun = steps.begun_opened t.journal.phase t.journal.begun (inr (failed, w.moves.begun)) in
    rw (← c.self.view_is) (record {
      moves = calls.breaks_off D i t w.moves GateOpened b.well failed (search rules);
      begun = (tt, λ is. begun);
      disk = calls.calls_opening D i m.counts_now t w.moves.call c.self.inside.phase _ b.flight w.stands b.off begun;
    })

pub invariant_of-self-2 : goal.invariant_of-self-2
invariant_of-self-2 g c =
    let b = calls.on_way g.D.Disk c.self.invariant c.self.view_is c.requires
    (λ (e : BodySynced ≡ Idle). absurd (cc e)) (λ e. c.in_default.not-Failed (c.phase.ensures.phase ∙ e)) in
    let w = c.open_gate.ensures in
    calls.sound_on g.D.Disk c.self.invariant c.open_gate.new.slots w.moves b.flight w.staged GateOpened
    (λ (e : GateOpened ≡ Idle). absurd (cc e)) (inl c.in-Ok.ensures.moves.phase.0)

pub returns : goal.returns
returns g c =
    let b = calls.on_way g.D.Disk c.self.invariant c.self.view_is c.requires
    (λ (e : BodySynced ≡ Idle). absurd (cc e)) (λ e. c.in_default.not-Failed (c.phase.ensures.phase ∙ e)) in
    let D = g.D.Disk in let m = g.met.D.Disk in let i = c.self.invariant in let t = c.open_gate.new.slots in
    let w = c.open_gate.ensures in let done = c.in-Ok.ensures.moves.phase.0 in
    let begun = steps.begun_opened t.journal.phase t.journal.begun (inl done) in
    rw (← c.self.view_is) (record {
      moves = calls.moves_on D i t w.moves GateOpened b.well done (search rules);
      begun = (begun, tt);
      disk = calls.calls_opening D i m.counts_now t w.moves.call GateOpened _ b.flight w.stands
          (λ (e : GateOpened ≡ Idle). absurd (cc e)) begun;
    })
