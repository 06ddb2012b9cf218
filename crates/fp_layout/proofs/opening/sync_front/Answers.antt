use Rattle.std.proofs.Common.{refl, true, ◌∙◌, ℕ, List, subst}
use Rattle.std.proofs.lemmas.Result.{err_from_is_err_and}
use Rattle.fp_disk.specs.declared.history.CallKind.TheVariants.{Sync}
use Rattle.fp_layout.specs.Fronts.{FoundIn}
use Rattle.fp_layout.specs.Opening.{RefusesFront}
use Rattle.fp_layout.proofs.Opens.{call_word, opens_after, opens_none}
use Rattle.fp_layout.proofs.Settled.{settled_outcome}
use Rattle.fp_layout.proofs.opening.sync_front.Goals as goal

pub returns : goal.returns
returns g c =
    let D = g.D.Disk in let m = g.met.D.Disk in let d0 = c.args.disk.now in let d1 = c.sync.new.self in
    let x = c.in_ok-sync.ensures in let y = c.in_ok-front.ensures in
    record {
      read = y.read;
      found = λ h. subst (λ (b : List ℕ). FoundIn g.R.SlotReader.begins c.args.reader.now c.read_front.new.reader
          c.in_ok-front.front b) (x.same h) (y.found (x.honest.0 h));
      fault = λ h. tt;
      all_synced = λ h. y.unsynced (x.honest.0 h) ∙ x.durable h;
      kept = opens_after (λ h o out. settled_outcome (D.unsynced d0) (D.unsynced d1) (D.bytes d0) o (x.durable h)
          (m.present d0 h) out) _ Sync x.same (call_word D m.only_now x.honest x.time) x.called
          (x.cause.well (refl {a = true})) y.kept;
    }

pub returns-in_err-front : goal.returns-in_err-front
returns-in_err-front g c =
    let D = g.D.Disk in let m = g.met.D.Disk in let d0 = c.args.disk.now in let d1 = c.sync.new.self in
    let x = c.in_ok-sync.ensures in let y = c.in_err-front.ensures in
    let f = c.in_err-front.field-0.0 in
    let p = err_from_is_err_and c.from_residual-in_err-front.result c.from_residual-in_err-front.ensures.1 in
    rw (p.1, p.2) (record {
      read = tt;
      found = λ h. tt;
      fault = λ h. subst (λ (b : List ℕ). RefusesFront g.R.SlotReader.rejects b c.args.reader.now f) (x.same h) (y.fault (x.honest.0 h));
      all_synced = λ h. tt;
      kept = opens_after (λ h o out. settled_outcome (D.unsynced d0) (D.unsynced d1) (D.bytes d0) o (x.durable h)
          (m.present d0 h) out) _ Sync x.same (call_word D m.only_now x.honest x.time) x.called
          (x.cause.well (refl {a = true})) y.kept;
    })

pub returns-in_err-sync : goal.returns-in_err-sync
returns-in_err-sync g c =
    let x = c.in_err-sync.ensures in let p = err_from_is_err_and c.from_residual.result c.from_residual.ensures.1 in
    rw (p.1, p.2) (record {
      read = tt;
      found = λ h. tt;
      fault = λ h. tt;
      all_synced = λ h. tt;
      kept = opens_none x.same (call_word g.D.Disk g.met.D.Disk.only_now x.honest x.time) x.called (x.cause.ill (refl {a = true}));
    })
