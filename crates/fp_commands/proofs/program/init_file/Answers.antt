use Rattle.std.proofs.Common.{refl}
use Rattle.fp_files.specs.declared.openings.Purpose.TheVariants.{Making}
use Rattle.fp_commands.proofs.Opened.{lent_once, on_file}
use Rattle.fp_commands.specs.Files.{MakesDisk}
use Rattle.fp_commands.proofs.program.init_file.Goals as goal

pub returns : goal.returns
returns g c =
    let o = c.in_ok-disk.ensures in
    let made = c.init_disk-disk.ensures in
    let back = c.close.ensures in
    on_file g.F.DiskFiles g.F.Disk.Disk _ _ c.args.path.now Making (MakesDisk g.F.Disk.Disk) c.init_disk-disk.result.1 (record {
      before = c.in_ok-disk.disk;
      after = c.init_disk-disk.result.0;
      found = o.found;
      lent = lent_once g.F.DiskFiles g.F.Disk.Disk c.args.files.now c.create.new.self c.close.new.self
          c.args.path.now Making c.init_disk-disk.result.0 o.asked o.others o.lent (o.cause.well refl) back.asked
          back.others back.kept back.faults;
      does = record {
        unread = refl;
        nothing_written = refl;
        made = made.made;
        sure = made.sure;
        empty = made.empty;
        not_empty = made.not_empty;
        kept = made.kept;
        any_moment = λ synced h. made.any_moment h synced;
        called = made.called;
        untouched = made.untouched;
        fault = made.fault;
        no_failure = made.no_failure;
        cause = made.cause;
        honest = made.honest;
      };
    })
