use Rattle.std.proofs.Common.{◌∙◌, ℕ, List, [], ◌∷◌, length, inl, inr, refl, true, ap, sym, subst}
use Rattle.std.proofs.lemmas.Result.{err_from_is_err_and, on_ok_weaker}
use Rattle.fp_disk.specs.Outcomes.{CountsFaults, Written, all_synced}
use Rattle.fp_disk.specs.declared.history.CallKind.TheVariants.{Sync, Write}
use Rattle.fp_slots.proofs.Exits.{answers_err}
use Rattle.fp_layout.proofs.Calls.{all_makes, calls_joined, on_ok_always}
use Rattle.fp_layout.proofs.Settled.{write_word, written_word}
use Rattle.fp_layout.proofs.format.write_synced.Goals as goal

pub returns-in_err-write_at : goal.returns-in_err-write_at
returns-in_err-write_at g c =
    let w = c.in_err-write_at.ensures in let p = err_from_is_err_and c.from_residual.result c.from_residual.ensures.1 in
    rw p.1 (record {
      written = λ h. tt;
      all_synced = λ h. tt;
      word = write_word g.D.Disk g.met.D.Disk.only_now w.honest w.time;
      called = inr (inl w.called);
      cause = answers_err w.cause;
    })

pub returns : goal.returns
returns g c =
    let D = g.D.Disk in let d0 = c.args.disk.now in let d1 = c.write_at.new.self in let d2 = c.sync.new.self in
    let w = c.in_ok-write_at.ensures in let v = c.sync.ensures in
    record {
      written = λ h. on_ok_always c.sync.result (Written (D.bytes d0) c.args.at c.args.from.now (D.bytes d2))
          (v.same (w.honest.0 h) ∙ w.written h);
      all_synced = λ h. on_ok_weaker c.sync.result
          (λ e. e ∙ ap (λ (b : List ℕ). all_synced b) (sym (v.same (w.honest.0 h)))) (v.durable (w.honest.0 h));
      word = written_word D g.met.D.Disk.only_now w.honest w.time w.unsynced v.honest v.time;
      called = all_makes c.sync.result (Write ∷ Sync ∷ []) (D.calls d0) (D.calls d2)
          (calls_joined (Write ∷ []) (Sync ∷ []) (D.calls d0) (D.calls d1) (D.calls d2) w.called v.called);
      cause = subst (λ (k : ℕ). CountsFaults k (D.faults d2) c.sync.result) (w.cause.well (refl {a = true})) v.cause;
    }
