use Rattle.std.proofs.Common.{rules, refl}
use Rattle.fp_files.specs.declared.openings.Purpose.TheVariants.{Reading}
use Rattle.fp_commands.proofs.Opened.{lent_once, on_file, only_read}
use Rattle.fp_commands.specs.Files.{ShowsDisk}
use Rattle.fp_commands.proofs.program.show_file.Goals as goal

pub returns-clause-performs : goal.returns-clause-performs
returns-clause-performs g c =
    let o = c.in_ok-disk.ensures in
    let back = c.close.ensures in
    on_file g.F.DiskFiles g.F.Disk.Disk _ _ c.args.path.now Reading (ShowsDisk g.F.Disk.Disk g.W.Write.contents)
    c.show_disk-disk.result.1 (record {
      before = c.in_ok-disk.disk;
      after = c.show_disk-disk.result.0;
      found = o.found;
      lent = lent_once g.F.DiskFiles g.F.Disk.Disk c.args.files.now c.open_read_only.new.self c.close.new.self
          c.args.path.now Reading c.show_disk-disk.result.0 o.asked o.others o.lent (o.cause.well refl) back.asked
          back.others back.kept back.faults;
      does = search (rules, only_read);
    })
