use Rattle.std.proofs.Common.{length, refl, ap}
use Rattle.fp_disk.specs.Outcomes.{with_write}
use Rattle.fp_disk.specs.declared.call.Progress.TheVariants.{Nothing}
use Rattle.fp_disk.specs.declared.call.Request.TheVariants.{Len, Read, Write, Sync}
use Rattle.fp_disk.specs.Memory.{State, state, unsynced_of, write_progress}
use Rattle.fp_disk.proofs.Answering.{answers_of, called_of, honest_of, elapses_of, state_same, written_ok, touched_ok}
use Rattle.fp_disk.proofs.Answering.{written_partly, touched_err, settled_ok, settled_err, bytes_stay, sync_fits}
use Rattle.fp_disk.proofs.memory.MemoryDiskDisk.TheImpl.Goals as goal

pub len-tells : goal.len-tells
len-tells c = let old = c.args.self.now in let new = c.new.self.now in
    let same = state_same old new Len Nothing (λ q. refl) c.result c.ensures.recorded in record {
      answer = λ h. c.ensures.answer;
      honest = honest_of old new Len Nothing c.result tt c.ensures.recorded;
      same = λ h. (ap (λ (s : State). s.bytes) same, ap unsynced_of same);
      time = λ h. elapses_of old new Len Nothing (unsynced_of (state old)) (λ q o out. out) c.result c.ensures.recorded;
      called = called_of old new Len Nothing c.result c.ensures.recorded;
      cause = answers_of old new Len Nothing c.result c.ensures.recorded;
    }

pub read_at-tells : goal.read_at-tells
read_at-tells c = let old = c.args.self.now in let new = c.new.self.now in let request = Read c.args.at (length c.args.into.now) in
    let same = state_same old new request Nothing (λ q. refl) c.result c.ensures.recorded in record {
      answer = λ h. c.ensures.answer;
      honest = honest_of old new request Nothing c.result tt c.ensures.recorded;
      same = λ h. (ap (λ (s : State). s.bytes) same, ap unsynced_of same);
      time = λ h. elapses_of old new request Nothing (unsynced_of (state old)) (λ q o out. out) c.result c.ensures.recorded;
      called = called_of old new request Nothing c.result c.ensures.recorded;
      cause = answers_of old new request Nothing c.result c.ensures.recorded;
    }

pub write_at-tells : goal.write_at-tells
write_at-tells c = let old = c.args.self.now in let new = c.new.self.now in let at = c.args.at in
    let more = c.args.from.now in let p = write_progress old.failed_writes old.failing in record {
      written = λ h. written_ok old new at more p c.result c.ensures.recorded;
      honest = honest_of old new (Write at more) p c.result c.ensures.bytes c.ensures.recorded;
      unsynced = λ h. touched_ok old new at more p c.result c.ensures.recorded;
      partly = λ h. written_partly old new at more p c.result c.ensures.recorded;
      failed = λ h. touched_err old new at more p c.result c.ensures.recorded;
      time = λ h. elapses_of old new (Write at more) p (with_write (unsynced_of (state old)) at (length more))
          (λ q o out. out) c.result c.ensures.recorded;
      called = called_of old new (Write at more) p c.result c.ensures.recorded;
      cause = answers_of old new (Write at more) p c.result c.ensures.recorded;
    }

pub sync-tells : goal.sync-tells
sync-tells c = let old = c.args.self.now in let new = c.new.self.now in record {
  durable = λ h. settled_ok old new Nothing c.result c.ensures.recorded;
  failed = λ h err. ap unsynced_of (settled_err old new c.result c.ensures.recorded err);
  honest = honest_of old new Sync Nothing c.result tt c.ensures.recorded;
  same = λ h. bytes_stay old new c.result c.ensures.recorded;
  time = λ h. elapses_of old new Sync Nothing (unsynced_of (state old)) (sync_fits old h) c.result c.ensures.recorded;
  called = called_of old new Sync Nothing c.result c.ensures.recorded;
  cause = answers_of old new Sync Nothing c.result c.ensures.recorded;
}
