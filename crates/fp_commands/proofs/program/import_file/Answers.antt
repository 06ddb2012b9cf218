use Rattle.std.proofs.Common.{refl, rules}
use Rattle.fp_files.specs.declared.openings.Purpose.TheVariants.{Writing}
use Rattle.fp_commands.proofs.Opened.{lent_once, on_file_err}
use Rattle.fp_commands.specs.Files.{ImportsToDisk}
use Rattle.fp_commands.proofs.program.import_file.Goals as goal

pub returns-in_err-_told-clause-performs : goal.returns-in_err-_told-clause-performs
returns-in_err-_told-clause-performs g c =
    let o = c.in_ok-disk.ensures in
    let back = c.close.ensures in
    on_file_err g.F.DiskFiles g.F.Disk.Disk _
    (record { files = c.close.new.self; reader = c.import_disk-disk.new.r; writer = c.import_disk-disk.new.w })
    c.args.path.now Writing (ImportsToDisk g.F.Disk.Disk g.R.Read.remaining g.W.Write.contents) c.in_err-_told.field-0.0
    c.import_disk-disk.result.1 c.from_residual-in_err-_told.result c.in_err-_told.was (search rules) (record {
      before = c.in_ok-disk.disk;
      after = c.import_disk-disk.result.0;
      found = o.found;
      lent = lent_once g.F.DiskFiles g.F.Disk.Disk c.args.files.now c.open.new.self c.close.new.self c.args.path.now
          Writing c.import_disk-disk.result.0 o.asked o.others o.lent (o.cause.well refl) back.asked back.others
          back.kept back.faults;
      does = c.import_disk-disk.ensures;
    })
