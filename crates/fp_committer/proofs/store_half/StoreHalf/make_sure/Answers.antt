use Rattle.std.proofs.Common.{◌≡◌, ◌++◌, [], ◌∷◌, List, false, ap, inr, refl, subst, ◌∙◌}
use Rattle.fp_disk.specs.History.{MakesSome}
use Rattle.fp_disk.specs.declared.history.CallKind.{CallKind}
use Rattle.fp_disk.specs.declared.history.CallKind.TheVariants.{Sync, Write}
use Rattle.fp_committer.specs.StoreHalf.{taken_by, way_by}
use Rattle.fp_committer.specs.Way.{IsAt, Way, body_synced, gate_opened}
use Rattle.fp_committer.proofs.Courses.{by_event, calls_then, some_first}
use Rattle.fp_committer.proofs.Seals as seals
use Rattle.fp_committer.proofs.store_half.StoreHalf.make_sure.Goals as goal

pub returns-in_default-open_gate : goal.returns-in_default-open_gate
returns-in_default-open_gate g c =
    let D = g.D.Disk in let old = c.args.self.now in let m = c.sync_body.new.self in let n = c.open_gate.new.self in
    let first = c.in-Done.ensures in let k = c.open_gate.ensures in
    let went = first.steps.2 in
    let b = seals.broke (IsAt body_synced) gate_opened Write c.open_gate.result (way_by m) (way_by n)
    (D.faults m.store.disk) (D.faults n.store.disk) (D.calls m.store.disk) (D.calls n.store.disk)
    c.in_default-open_gate.not-Done k.steps
    (ap (λ (w : Way). w.failed) went ∙ c.requires.well) (ap (λ (w : Way). w.progress) went) k.kept.cause k.called in
    record {
      kept = calls_then D old m n (by_event D first.kept) (by_event D k.kept);
      sealed = tt;
      fault = refl;
      cause = rw (← first.kept.cause) (b.0);
      called = inr (subst (λ (l : List CallKind). MakesSome (Write ∷ Sync ∷ []) l (D.calls n.store.disk))
          first.called (some_first D Write (Sync ∷ []) (D.calls m.store.disk) (D.calls n.store.disk) b.1));
    }

pub returns-in_default-sync_gate : goal.returns-in_default-sync_gate
returns-in_default-sync_gate g c =
    let D = g.D.Disk in let old = c.args.self.now in let m = c.sync_body.new.self in let n = c.open_gate.new.self in
    let e = c.sync_gate.new.self in
    let first = c.in-Done.ensures in let second = c.in-Done-open_gate.ensures in let k = c.sync_gate.ensures in
    let well : n.store.failed ≡ false = ap (λ (w : Way). w.failed) second.steps.2 ∙
    ap (λ (w : Way). w.failed) first.steps.2 ∙ c.requires.well in
    let b = seals.unsealed (taken_by n) c.sync_gate.result (way_by n) (way_by e) (D.faults n.store.disk)
    (D.faults e.store.disk) (D.calls n.store.disk) (D.calls e.store.disk) c.in_default-sync_gate.not-Sealed
    k.steps
    well (ap (λ (w : Way). w.progress) second.steps.2) k.kept.cause k.called in
    record {
      kept = calls_then D old n e (calls_then D old m n (by_event D first.kept) (by_event D second.kept)) (by_event D k.kept);
      sealed = tt;
      fault = refl;
      cause = rw (← first.kept.cause, ← second.kept.cause) (b.0);
      called = inr (inr (subst (λ (l : List CallKind). MakesSome (Sync ∷ []) l (D.calls e.store.disk))
          (second.called ∙ ap (λ (l : List CallKind). l ++ Write ∷ []) first.called) b.1));
    }

pub returns-clause-kept : goal.returns-clause-kept
returns-clause-kept g c =
    let D = g.D.Disk in let old = c.args.self.now in let m = c.sync_body.new.self in let n = c.open_gate.new.self in
    calls_then D old n c.sync_gate.new.self
    (calls_then D old m n (by_event D c.in-Done.ensures.kept) (by_event D c.in-Done-open_gate.ensures.kept))
    (by_event D c.sync_gate.ensures.kept)
