use Rattle.std.proofs.Common.{◌≡◌, ◌≤◌, ◌+◌, ℕ, List, [], ◌∷◌, length, inr, sym, subst, arith}
use Rattle.std.specs.Prelude.{slice_range}
use Rattle.std.proofs.lemmas.List.{append-nil}
use Rattle.std.proofs.lemmas.Result.{err_from_is_err_and, on_ok_weaker}
use Rattle.fp_disk.specs.Outcomes.{Written}
use Rattle.fp_disk.specs.declared.history.CallKind.TheVariants.{Sync, Write}
use Rattle.fp_slots.proofs.Exits.{answers_err}
use Rattle.fp_layout.specs.NewDisk.{IsMade}
use Rattle.fp_layout.proofs.Calls.{breaks_off, makes_behind}
use Rattle.fp_layout.proofs.Making as making
use Rattle.fp_layout.proofs.format.format.Goals as goal
use Rattle.fp_gate.specs.declared.gate.TheConstants.{OPEN}

pub returns-in_err-write_synced : goal.returns-in_err-write_synced
returns-in_err-write_synced g c =
    let D = g.D.Disk in let m = g.met.D.Disk in let d0 = c.args.disk.now in let d1 = c.write_synced.new.disk in
    let w = c.in_err-write_synced.ensures in
    let p = err_from_is_err_and c.from_residual.result c.from_residual.ensures.1 in
    rw p.1 (record {
      made = λ h is. tt;
      all_synced = λ h. tt;
      word = making.first_word D m.present m.only_now c.args.size d0 w.word;
      called = breaks_off [] (Write ∷ Sync ∷ []) (Write ∷ Write ∷ Sync ∷ Write ∷ Sync ∷ Write ∷ Sync ∷ [])
          (D.calls d0) (D.calls d0) (D.calls d1) (sym (append-nil (D.calls d0))) w.called;
      cause = answers_err w.cause;
    })

pub returns-in_err-write_at : goal.returns-in_err-write_at
returns-in_err-write_at g c =
    let D = g.D.Disk in let m = g.met.D.Disk in let d0 = c.args.disk.now in let new = c.write_at.new.self in
    let w = c.in_err-write_at.ensures in
    let p = err_from_is_err_and c.from_residual-in_err-write_at.result c.from_residual-in_err-write_at.ensures.1
    in
    let d1 = c.write_synced.new.disk in let w1 = c.in_ok-write_synced.ensures in
    let s1 = making.first_step D m.present m.only_now c.args.size d0 w1.word w1.called w1.cause w1.written
    w1.all_synced in
    rw p.1 (record {
      made = λ h is. tt;
      all_synced = λ h. tt;
      word = making.write_word D m.present m.only_now c.args.size d0 s1 1
          (length (slice_range c.args.closed.now 1 (length c.args.closed.now))) (omega arith) w.honest w.time;
      called = breaks_off (Write ∷ Sync ∷ []) (Write ∷ []) (Write ∷ Sync ∷ Write ∷ Sync ∷ Write ∷ Sync ∷ [])
          (D.calls d0) (D.calls d1) (D.calls new) s1.called (inr w.called);
      cause = answers_err (making.cause_on D m.present m.only_now c.args.size d0 s1 w.cause);
    })

pub returns-in_err-write_synced-2 : goal.returns-in_err-write_synced-2
returns-in_err-write_synced-2 g c =
    let D = g.D.Disk in let m = g.met.D.Disk in let d0 = c.args.disk.now in let new = c.write_synced-2.new.disk in
    let w = c.in_err-write_synced-2.ensures in
    let p = err_from_is_err_and c.from_residual-in_err-write_synced-2.result
    c.from_residual-in_err-write_synced-2.ensures.1 in
    let d1 = c.write_synced.new.disk in let w1 = c.in_ok-write_synced.ensures in
    let s1 = making.first_step D m.present m.only_now c.args.size d0 w1.word w1.called w1.cause w1.written
    w1.all_synced in
    let d2 = c.write_at.new.self in let w2 = c.in_ok-write_at.ensures in
    let s2 = making.write_step D m.present m.only_now c.args.size d0 s1 1
    (length (slice_range c.args.closed.now 1 (length c.args.closed.now))) (omega arith) w2.honest w2.time
    w2.called w2.cause w2.unsynced in
    rw p.1 (record {
      made = λ h is. tt;
      all_synced = λ h. tt;
      word = making.sync_word D m.present m.only_now c.args.size d0 s2 (64 + c.bytes.result) 1 (omega arith) w.word;
      called = breaks_off (Write ∷ Sync ∷ Write ∷ []) (Write ∷ Sync ∷ []) (Write ∷ Sync ∷ Write ∷ Sync ∷ [])
          (D.calls d0) (D.calls d2) (D.calls new) s2.called w.called;
      cause = answers_err (making.cause_on D m.present m.only_now c.args.size d0 s2 w.cause);
    })

pub returns-in_err-write_synced-3 : goal.returns-in_err-write_synced-3
returns-in_err-write_synced-3 g c =
    let D = g.D.Disk in let m = g.met.D.Disk in let d0 = c.args.disk.now in let new = c.write_synced-3.new.disk in
    let w = c.in_err-write_synced-3.ensures in
    let p = err_from_is_err_and c.from_residual-in_err-write_synced-3.result
    c.from_residual-in_err-write_synced-3.ensures.1 in
    let d1 = c.write_synced.new.disk in let w1 = c.in_ok-write_synced.ensures in
    let s1 = making.first_step D m.present m.only_now c.args.size d0 w1.word w1.called w1.cause w1.written
    w1.all_synced in
    let d2 = c.write_at.new.self in let w2 = c.in_ok-write_at.ensures in
    let s2 = making.write_step D m.present m.only_now c.args.size d0 s1 1
    (length (slice_range c.args.closed.now 1 (length c.args.closed.now))) (omega arith) w2.honest w2.time
    w2.called w2.cause w2.unsynced in
    let d3 = c.write_synced-2.new.disk in let w3 = c.in_ok-write_synced-2.ensures in
    let s3 = making.sync_step D m.present m.only_now c.args.size d0 s2 (64 + c.bytes.result) 1 (omega arith)
    w3.word w3.called w3.cause (0 ∷ []) w3.written w3.all_synced in
    rw p.1 (record {
      made = λ h is. tt;
      all_synced = λ h. tt;
      word = making.sync_word D m.present m.only_now c.args.size d0 s3 64 1 (omega arith) w.word;
      called = breaks_off (Write ∷ Sync ∷ Write ∷ Write ∷ Sync ∷ []) (Write ∷ Sync ∷ []) (Write ∷ Sync ∷ [])
          (D.calls d0) (D.calls d3) (D.calls new) s3.called w.called;
      cause = answers_err (making.cause_on D m.present m.only_now c.args.size d0 s3 w.cause);
    })

pub returns : goal.returns
returns g c =
    let D = g.D.Disk in let m = g.met.D.Disk in let d0 = c.args.disk.now in let new = c.write_synced-4.new.disk in
    let w = c.write_synced-4.ensures in
    let d1 = c.write_synced.new.disk in let w1 = c.in_ok-write_synced.ensures in
    let s1 = making.first_step D m.present m.only_now c.args.size d0 w1.word w1.called w1.cause w1.written
    w1.all_synced in
    let d2 = c.write_at.new.self in let w2 = c.in_ok-write_at.ensures in
    let s2 = making.write_step D m.present m.only_now c.args.size d0 s1 1
    (length (slice_range c.args.closed.now 1 (length c.args.closed.now))) (omega arith) w2.honest w2.time
    w2.called w2.cause w2.unsynced in
    let d3 = c.write_synced-2.new.disk in let w3 = c.in_ok-write_synced-2.ensures in
    let s3 = making.sync_step D m.present m.only_now c.args.size d0 s2 (64 + c.bytes.result) 1 (omega arith)
    w3.word w3.called w3.cause (0 ∷ []) w3.written w3.all_synced in
    let d4 = c.write_synced-3.new.disk in let w4 = c.in_ok-write_synced-3.ensures in
    let s4 = making.sync_step D m.present m.only_now c.args.size d0 s3 64 1 (omega arith) w4.word w4.called
    w4.cause (OPEN ∷ []) w4.written w4.all_synced in
    let large : 64 ≤ c.args.size = let e = c.bytes.ensures.bytes in let l = c.bytes.ensures.allowed.least in omega (arith, e, l) in
    let all : D.honest d0 → D.bytes d0 ≡ [] → IsMade c.args.size (D.bytes d4) =
    λ h is. making.made c.args.size (D.bytes d1) (D.bytes d2) (D.bytes d3) (D.bytes d4) large
    (subst (λ (b : List ℕ). Written b 0 (0 ∷ []) (D.bytes d1)) is (w1.written h))
    (subst (λ (t : List ℕ). Written (D.bytes d1) 1 (slice_range t 1 (length t)) (D.bytes d2)) c.requires
    (w2.written (s1.word.honest.0 h)))
    (subst (λ (k : ℕ). Written (D.bytes d2) (64 + k) (0 ∷ []) (D.bytes d3)) c.bytes.ensures.bytes
    (w3.written (s2.word.honest.0 h))) (w4.written (s3.word.honest.0 h)) in
    record {
      made = λ h is. on_ok_weaker c.write_synced-4.result
          (making.new_written c.args.size (D.bytes d4) (D.bytes new) (all h is)) (w.written (s4.word.honest.0 h));
      all_synced = λ h. w.all_synced (s4.word.honest.0 h);
      word = making.last_word D m.present m.only_now c.args.size d0 s4 all (λ h. w4.all_synced (s3.word.honest.0 h)) w.word;
      called = makes_behind c.write_synced-4.result (Write ∷ Sync ∷ Write ∷ Write ∷ Sync ∷ Write ∷ Sync ∷ [])
          (Write ∷ Sync ∷ []) (D.calls d0) (D.calls d4) (D.calls new) s4.called w.called;
      cause = making.cause_on D m.present m.only_now c.args.size d0 s4 w.cause;
    }
