use Rattle.std.proofs.Common.{ap, subst, ◌∙◌}
use Rattle.fp_group_commit.specs.Calls.{StopsBy}
use Rattle.fp_group_commit.specs.Store.{StoreState}
use Rattle.fp_group_commit.specs.declared.fault.StoreFault.{StoreFault}
use Rattle.fp_group_commit.specs.declared.fault.StoreFault.TheVariants as fault
use Rattle.fp_committer.proofs.Rooms.{breaks_step, stays_at, works_step}
use Rattle.fp_committer.proofs.room.take_step.Goals as goal

pub returns-in-Ok-clause-proceeds : goal.returns-in-Ok-clause-proceeds
returns-in-Ok-clause-proceeds g c =
    let D = g.D.Disk in let a = c.args.store.now in let b = c.compact_step.new.self in
    let w = c.compact_step.ensures in let ok = c.in-Ok.ensures.ok in record {
      stays = stays_at D a b w.same.0 w.same.1 w.same.2 w.phase c.requires.rest.0 w.disk.any_moment w.disk.exit w.disk.honest;
      well = ok.well_now;
      no_failure = ok.no_failure;
      works = works_step D a b ok.next c.in-Ok.ensures.disk.called;
    }

pub returns-in-Err-Device-clause-halts : goal.returns-in-Err-Device-clause-halts
returns-in-Err-Device-clause-halts g c =
    let D = g.D.Disk in let a = c.args.store.now in let b = c.compact_step.new.self in let w = c.compact_step.ensures in record {
      stays = stays_at D a b w.same.0 w.same.1 w.same.2 w.phase c.requires.rest.0 w.disk.any_moment w.disk.exit w.disk.honest;
      works = breaks_step D a b c.in-Err-Device.ensures.disk.called;
      cause = λ is. (let why : StopsBy D.faults a b fault.Device =
          subst (λ (f : StoreFault). StopsBy D.faults a b f) c.in-Err-Device.field-0-is c.in-Err-Device.ensures.fault
          in (why.failed, why.cause));
      memory = λ is. absurd cc;
    }

pub returns-in-Err-Memory-clause-halts : goal.returns-in-Err-Memory-clause-halts
returns-in-Err-Memory-clause-halts g c =
    let D = g.D.Disk in let a = c.args.store.now in let b = c.compact_step.new.self in let w = c.compact_step.ensures in record {
      stays = stays_at D a b w.same.0 w.same.1 w.same.2 w.phase c.requires.rest.0 w.disk.any_moment w.disk.exit w.disk.honest;
      works = breaks_step D a b c.in-Err-Memory.ensures.disk.called;
      cause = λ is. absurd cc;
      memory = λ is. (let why : StopsBy D.faults a b fault.Memory =
          subst (λ (f : StoreFault). StopsBy D.faults a b f) c.in-Err-Memory.field-0-is c.in-Err-Memory.ensures.fault
          in (
            ap (λ (x : StoreState g.row.D.Denot). x.failed) why.2 ∙ why.0,
            ap (λ (x : StoreState g.row.D.Denot). D.faults x.disk) why.2,
          ));
    }

pub returns-in-Err-Memory-clause-memory : goal.returns-in-Err-Memory-clause-memory
returns-in-Err-Memory-clause-memory g c = λ is.
    let D = g.D.Disk in let a = c.args.store.now in let b = c.compact_step.new.self in
    let why : StopsBy D.faults a b fault.Memory =
    subst (λ (f : StoreFault). StopsBy D.faults a b f) c.in-Err-Memory.field-0-is c.in-Err-Memory.ensures.fault in
    (why.1, why.2)
