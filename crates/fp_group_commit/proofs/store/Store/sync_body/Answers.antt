use Rattle.std.proofs.Common.{rules, ◌≡◌, ◌∙◌, refl, inl, inr}
use Rattle.fp_group_commit.specs.declared.phase.Phase.TheVariants.{Idle, Staged, BodySynced}
use Rattle.fp_group_commit.proofs.Steps as steps
use Rattle.fp_group_commit.proofs.BatchSteps as calls
use Rattle.fp_group_commit.proofs.store.Store.sync_body.Goals as goal

pub returns-in-Failed-clause-disk : goal.returns-in-Failed-clause-disk
returns-in-Failed-clause-disk g c =
    rw (← c.self.view_is) (steps.calls_none g.D.Disk c.self.invariant g.met.D.Disk.only_now c.phase.ensures.outcomes)

pub sync_body-requires : goal.sync_body-requires
sync_body-requires g c =
    let b = calls.on_way g.D.Disk c.self.invariant c.self.view_is c.requires (λ (e : Staged ≡ Idle). absurd (cc e))
    (λ e. c.in_default.not-Failed (c.phase.ensures.phase ∙ e)) in
    record { early = b.flight.early; staged = b.is }

pub invariant_of-self : goal.invariant_of-self
invariant_of-self g c =
    let b = calls.on_way g.D.Disk c.self.invariant c.self.view_is c.requires (λ (e : Staged ≡ Idle). absurd (cc e))
    (λ e. c.in_default.not-Failed (c.phase.ensures.phase ∙ e)) in
    let w = c.sync_body.ensures in
    calls.sound_on g.D.Disk c.self.invariant c.sync_body.new.slots w.moves b.flight w.staged c.self.inside.phase
    b.flight.on_way (inr c.in_default-sync_body.ensures.moves.phase.1)

pub returns-in_default-sync_body : goal.returns-in_default-sync_body
returns-in_default-sync_body g c =
    let b = calls.on_way g.D.Disk c.self.invariant c.self.view_is c.requires (λ (e : Staged ≡ Idle). absurd (cc e))
    (λ e. c.in_default.not-Failed (c.phase.ensures.phase ∙ e)) in
    let D = g.D.Disk in let m = g.met.D.Disk in let i = c.self.invariant in let t = c.sync_body.new.slots in
    let w = c.sync_body.ensures in let failed = c.in_default-sync_body.ensures.moves.phase.1 in
    rw (← c.self.view_is) (record {
      moves = calls.breaks_off D i t w.moves BodySynced b.well failed (search rules);
      begun = λ before. steps.begun_shut t.journal.phase Staged t.journal.begun refl w.moves.begun (inr failed);
      disk = calls.calls_sealed D i m.counts_now t w.moves.call c.self.inside.phase _ w.stands;
    })

pub invariant_of-self-2 : goal.invariant_of-self-2
invariant_of-self-2 g c =
    let b = calls.on_way g.D.Disk c.self.invariant c.self.view_is c.requires (λ (e : Staged ≡ Idle). absurd (cc e))
    (λ e. c.in_default.not-Failed (c.phase.ensures.phase ∙ e)) in
    let w = c.sync_body.ensures in
    calls.sound_on g.D.Disk c.self.invariant c.sync_body.new.slots w.moves b.flight w.staged BodySynced
    (λ (e : BodySynced ≡ Idle). absurd (cc e)) (inl c.in-Ok.ensures.moves.phase.0)

pub returns : goal.returns
returns g c =
    let b = calls.on_way g.D.Disk c.self.invariant c.self.view_is c.requires (λ (e : Staged ≡ Idle). absurd (cc e))
    (λ e. c.in_default.not-Failed (c.phase.ensures.phase ∙ e)) in
    let D = g.D.Disk in let m = g.met.D.Disk in let i = c.self.invariant in let t = c.sync_body.new.slots in
    let w = c.sync_body.ensures in let done = c.in-Ok.ensures.moves.phase.0 in
    rw (← c.self.view_is) (record {
      moves = calls.moves_on D i t w.moves BodySynced b.well done (search rules);
      begun = λ before. steps.begun_shut t.journal.phase BodySynced t.journal.begun refl w.moves.begun (inl done);
      disk = calls.calls_sealed D i m.counts_now t w.moves.call BodySynced _ w.stands;
    })
