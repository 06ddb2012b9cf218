use Rattle.std.proofs.Common.{rules, ◌≡◌, ℕ, refl, ap, sym, ◌∙◌, inl, inr}
use Rattle.fp_edit.specs.Flags.{State}
use Rattle.fp_edit.specs.Following.{changes_of}
use Rattle.fp_group_commit.specs.declared.phase.Phase.TheVariants.{Idle, GateOpened}
use Rattle.fp_record.specs.Group.{Group}
use Rattle.fp_group_commit.specs.Inside.{is_failed}
use Rattle.fp_group_commit.specs.Tokens.{FrontState, Identity}
use Rattle.fp_group_commit.proofs.Steps as steps
use Rattle.fp_group_commit.proofs.BatchSteps as calls
use Rattle.fp_group_commit.proofs.store.Store.sync_gate.Goals as goal

pub returns-in-Failed-clause-disk : goal.returns-in-Failed-clause-disk
returns-in-Failed-clause-disk g c =
    rw (← c.self.view_is) (steps.calls_none g.D.Disk c.self.invariant g.met.D.Disk.only_now c.phase.ensures.outcomes)

pub sync_gate-requires : goal.sync_gate-requires
sync_gate-requires g c =
    let b = calls.on_way g.D.Disk c.self.invariant c.self.view_is c.requires
    (λ (e : GateOpened ≡ Idle). absurd (cc e)) (λ e. c.in_default.not-Failed (c.phase.ensures.phase ∙ e)) in
    record { early = b.flight.early; opened = b.is; ready = b.flight.ready; fits = b.flight.beside }

pub invariant_of-self : goal.invariant_of-self
invariant_of-self g c =
    let b = calls.on_way g.D.Disk c.self.invariant c.self.view_is c.requires
    (λ (e : GateOpened ≡ Idle). absurd (cc e)) (λ e. c.in_default.not-Failed (c.phase.ensures.phase ∙ e)) in
    let D = g.D.Disk in let s = c.self.inside in let t = c.sync_gate.new.slots in let e = c.in_default-sync_gate.ensures in
    calls.sound_moved D c.self.invariant s.phase t (steps.beside_of s.slots t e.broken.3) e.bodies.0
    (steps.kept_on D c.self.invariant t e.broken.2 c.sync_gate.ensures.call.honest.1) b.flight b.flight.on_way
    e.bodies.1 e.broken.3.9 (inr e.broken.0)

pub returns-in_default-sync_gate : goal.returns-in_default-sync_gate
returns-in_default-sync_gate g c =
    let b = calls.on_way g.D.Disk c.self.invariant c.self.view_is c.requires
    (λ (e : GateOpened ≡ Idle). absurd (cc e)) (λ e. c.in_default.not-Failed (c.phase.ensures.phase ∙ e)) in
    let D = g.D.Disk in let s = c.self.inside in let i = c.self.invariant in let t = c.sync_gate.new.slots in
    let w = c.sync_gate.ensures in let e = c.in_default-sync_gate.ensures in
    let begun = steps.begun_opened t.journal.phase t.journal.begun (inr (e.broken.0, e.broken.1)) in
    rw (← c.self.view_is) (record {
      store = refl;
      ok = tt;
      sealed = tt;
      receipt = tt;
      batch = tt;
      err = (refl, refl, refl);
      phase = refl;
      fault = calls.breaks_as D i t (steps.beside_of s.slots t e.broken.3) e.bodies.0 b.well e.broken.0 (search rules);
      takes_room = tt;
      begun = (tt, λ before. begun);
      disk = calls.calls_opened D i g.met.D.Disk.counts_now t w.call s.phase _ b.flight w.stands b.off
          (steps.begun_opened s.slots.journal.phase s.slots.journal.begun (inl b.is)) b.off begun;
    })

pub invariant_of-result : goal.invariant_of-result
invariant_of-result g c =
    let b = calls.on_way g.D.Disk c.self.invariant c.self.view_is c.requires
    (λ (e : GateOpened ≡ Idle). absurd (cc e)) (λ e. c.in_default.not-Failed (c.phase.ensures.phase ∙ e)) in
    let s = c.self.inside in let l = c.lengthen-front.ensures in
    let start : c.again.result ≡ s.origin = c.again.ensures in
    let store : c.new-2.result.store ≡ record { name = s.sealed.name; start = s.origin } =
    ap (λ (p : FrontState). p.store) c.new-2.ensures ∙
    ap (λ (n : ℕ). record { name = n; start = c.again.result }) l.2 ∙
    ap (λ (x : State). record { name = s.sealed.name; start = x }) start in
    let edits = ap (λ (p : FrontState). p.edits) c.new-2.ensures ∙ l.3 ∙ l.1 in
    calls.receipt_of g.D.Disk c.self.invariant b.flight
    (record { store = c.new-2.result.store; edits = c.new-2.result.edits; batch = c.replace-draw.result }) store
    edits
    (ap (λ (b : Group). b.changes) c.replace-draw.ensures.value) (ap (λ (b : Group). b.first) c.replace-draw.ensures.value)

pub invariant_of-self-2 : goal.invariant_of-self-2
invariant_of-self-2 g c =
    let b = calls.on_way g.D.Disk c.self.invariant c.self.view_is c.requires
    (λ (e : GateOpened ≡ Idle). absurd (cc e)) (λ e. c.in_default.not-Failed (c.phase.ensures.phase ∙ e)) in
    let s = c.self.inside in let t = c.sync_gate.new.slots in let w = c.sync_gate.ensures in
    let o = c.in-Ok.ensures in let l = c.lengthen-front.ensures in
    let store : ◌≡◌ {A = Identity} (record { name = c.lengthen-front.new.self.name; start = s.origin })
    (record { name = s.sealed.name; start = s.origin }) =
    ap (λ (n : ℕ). record { name = n; start = s.origin }) l.0 in
    rw c.swap.ensures.x_after (calls.sound_sealed g.D.Disk c.self.invariant b.flight
    (record {
      store = record { name = c.lengthen-front.new.self.name; start = s.origin };
      sealed =
          c.lengthen-front.new.self.log;
      staged = c.replace-draw.new.dest.changes;
      phase = Idle;
      slots = t;
    })
    store l.1 refl o.sealed.0 o.shut w.same_slot.1 w.beside.0 w.beside.3 w.beside.4 o.grown o.next o.planned
    w.call.honest.1 c.replace-draw.new.dest.first (changes_of c.swap.new.y.items))

pub returns : goal.returns
returns g c =
    let b = calls.on_way g.D.Disk c.self.invariant c.self.view_is c.requires
    (λ (e : GateOpened ≡ Idle). absurd (cc e)) (λ e. c.in_default.not-Failed (c.phase.ensures.phase ∙ e)) in
    let D = g.D.Disk in let s = c.self.inside in let i = c.self.invariant in let t = c.sync_gate.new.slots in
    let w = c.sync_gate.ensures in let o = c.in-Ok.ensures in let l = c.lengthen-front.ensures in
    let k = w.beside in
    let store : ◌≡◌ {A = Identity} (record { name = c.lengthen-front.new.self.name; start = s.origin })
    (record { name = s.sealed.name; start = s.origin }) =
    ap (λ (n : ℕ). record { name = n; start = s.origin }) l.0 in
    let start : c.again.result ≡ s.origin = c.again.ensures in
    let sound = calls.sound_sealed D i b.flight
    (record {
      store = record { name = c.lengthen-front.new.self.name; start = s.origin };
      sealed =
          c.lengthen-front.new.self.log;
      staged = c.replace-draw.new.dest.changes;
      phase = Idle;
      slots = t;
    })
    store l.1 refl o.sealed.0 o.shut w.same_slot.1 k.0 k.3 k.4 o.grown o.next o.planned w.call.honest.1
    c.replace-draw.new.dest.first (changes_of c.swap.new.y.items) in
    rw (← c.self.view_is) (record {
      store = store;
      ok = record {
        phase = refl;
        well_before = steps.is_well s.slots.journal.phase b.well;
        well_now =
            ap is_failed o.sealed.0;
        no_failure = search rules;
      };
      sealed = l.1;
      receipt = (
        ap (λ (p : FrontState). p.store) c.new-2.ensures ∙
            ap (λ (n : ℕ). record { name = n; start = c.again.result }) (l.2 ∙ sym l.0) ∙
            ap (λ (x : State). record { name = c.lengthen-front.new.self.name; start = x }) start,
        ap (λ (p : FrontState). p.edits) c.new-2.ensures ∙ l.3,
      );
      batch = (
        ap (λ (x : Group). x.changes) c.replace-draw.ensures.value,
        ap (λ (x : Group). x.first) c.replace-draw.ensures.value ∙ b.flight.place,
      );
      err = tt;
      phase = tt;
      fault = tt;
      takes_room = record {
        most = ap (λ x. x.most) w.same_slot.1;
        room = calls.room_taken D i b.flight t.journal w.same_slot.1 w.same_slot.2 o.sealed.1;
        compaction = steps.compaction_as _ _ k.3 k.4 k.5 refl k.1 k.2;
        other = k.0;
        may_open = k.6;
        joins = calls.tail_grows D i b.flight t k.4 o.grown;
        beside = λ still. steps.tail_stays s.slots t k.4 (o.still still);
      };
      begun = (steps.begun_shut t.journal.phase Idle t.journal.begun refl o.shut (inl o.sealed.0), tt);
      disk = record {
        called = w.call.called;
        any_moment = calls.leaves_opened D i t b.flight w.stands b.off
            (steps.begun_opened s.slots.journal.phase s.slots.journal.begun (inl b.is));
        exit = steps.now D sound c.phase-2.ensures.outcomes;
        honest = w.call.honest;
      };
    })
