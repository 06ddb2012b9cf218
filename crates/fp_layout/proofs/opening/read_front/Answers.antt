use Rattle.std.proofs.Common.{refl, true, ap, Err, ◌∙◌, ℕ, List, subst}
use Rattle.std.proofs.lemmas.Result.{err_from_is_err_and}
use Rattle.fp_disk.specs.Outcomes.{IsOutcome, PendingState}
use Rattle.fp_disk.specs.declared.history.CallKind.TheVariants.{Length}
use Rattle.fp_layout.specs.Fronts.{FoundIn}
use Rattle.fp_layout.specs.Opening.{RefusesFront}
use Rattle.fp_layout.proofs.Opens.{call_word, opens_after, opens_none, reads_err, reads_ok}
use Rattle.fp_layout.proofs.opening.read_front.Goals as goal

pub returns : goal.returns
returns g c =
    let D = g.D.Disk in let x = c.len.ensures in let y = c.read_fronts.ensures.kept in let w = c.in_ok-front.ensures in
    record {
      read = w.read;
      found = λ h. subst (λ (b : List ℕ). FoundIn g.R.SlotReader.begins c.args.reader.now c.read_fronts.new.reader
          c.in_ok-front.front b) (x.same h).0 (w.found (x.honest.0 h));
      fault = λ h. tt;
      unsynced = λ h. (y.same (x.honest.0 h)).1 ∙ (x.same h).1;
      kept = opens_after (λ h o out. subst (λ (u : PendingState). IsOutcome u o) (x.same h).1 out) _ Length
          (λ h. (x.same h).0) (call_word D g.met.D.Disk.only_now x.honest x.time) x.called
          (c.in_ok-len.ensures.cause.well (refl {a = true})) (reads_ok y w.no_failure);
    }

pub returns-in_err-front : goal.returns-in_err-front
returns-in_err-front g c =
    let D = g.D.Disk in let x = c.len.ensures in let y = c.read_fronts.ensures.kept in let w = c.in_err-front.ensures in
    let f = c.in_err-front.field-0.0 in
    let p = err_from_is_err_and c.from_residual-in_err-front.result c.from_residual-in_err-front.ensures.1 in
    rw (p.1, p.2) (record {
      read = tt;
      found = λ h. tt;
      fault = λ h. subst (λ (b : List ℕ). RefusesFront g.R.SlotReader.rejects b c.args.reader.now f) (x.same h).0 (w.fault (x.honest.0 h));
      unsynced = λ h. (y.same (x.honest.0 h)).1 ∙ (x.same h).1;
      kept = opens_after (λ h o out. subst (λ (u : PendingState). IsOutcome u o) (x.same h).1 out) _ Length
          (λ h. (x.same h).0) (call_word D g.met.D.Disk.only_now x.honest x.time) x.called
          (c.in_ok-len.ensures.cause.well (refl {a = true}))
          (reads_err y (λ e. w.cause (ap Err e)) (λ e. w.memory (ap Err e)));
    })

pub returns-in_err-len : goal.returns-in_err-len
returns-in_err-len g c =
    let x = c.in_err-len.ensures in let p = err_from_is_err_and c.from_residual.result c.from_residual.ensures.1 in
    rw (p.1, p.2) (record {
      read = tt;
      found = λ h. tt;
      fault = λ h. tt;
      unsynced = λ h. (x.same h).1;
      kept = opens_none (λ h. (x.same h).0) (call_word g.D.Disk g.met.D.Disk.only_now x.honest x.time) x.called
          (x.cause.ill (refl {a = true}));
    })
