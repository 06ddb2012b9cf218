use Rattle.std.proofs.Common.{subst, List, ℕ}
use Rattle.std.proofs.lemmas.Result.{err_from_is_err_and}
use Rattle.fp_journal.proofs.OnlyReading.{only_then}
use Rattle.fp_layout.specs.Faults.{IsDamage, UnlessWanting}
use Rattle.fp_layout.specs.Opening.{BreaksRuling}
use Rattle.fp_layout.proofs.Refusals.{ruling_refuses}
use Rattle.fp_layout.proofs.opening.read_fronts.Goals as goal

pub returns-in_err-ruling-clause-fault : goal.returns-in_err-ruling-clause-fault
returns-in_err-ruling-clause-fault g c = λ h.
    let p = err_from_is_err_and c.from_residual-in_err-ruling.result c.from_residual-in_err-ruling.ensures.1 in
    let b = g.D.Disk.bytes c.args.disk.now in let size = c.in_ok-size.size in let f = c.in_err-ruling.field-0.0 in
    let kept = c.read_size.ensures.kept in
    let broken : UnlessWanting (IsDamage (BreaksRuling b size)) f =
    subst (λ (x : List ℕ). UnlessWanting (IsDamage (BreaksRuling x size)) f) (kept.same h).0
    (c.in_err-ruling.ensures.fault (kept.word.honest.0 h)) in
    rw (p.1, p.2) (ruling_refuses g.R.SlotReader.rejects b c.args.reader.now size f (c.in_ok-size.ensures.found h) broken)

pub returns-in_err-ruling-clause-kept : goal.returns-in_err-ruling-clause-kept
returns-in_err-ruling-clause-kept g c =
    only_then g.D.Disk c.args.disk.now c.read_size.new.disk c.read_ruling.new.disk c.read_size.ensures.kept
    c.read_ruling.ensures.kept

pub returns-in_err-front-clause-kept : goal.returns-in_err-front-clause-kept
returns-in_err-front-clause-kept g c =
    let D = g.D.Disk in let d0 = c.args.disk.now in let d2 = c.read_ruling.new.disk in
    only_then D d0 d2 c.read_image.new.disk
    (only_then D d0 c.read_size.new.disk d2 c.read_size.ensures.kept c.read_ruling.ensures.kept)
    c.read_image.ensures.kept

pub returns-clause-kept : goal.returns-clause-kept
returns-clause-kept g c =
    let D = g.D.Disk in let d0 = c.args.disk.now in let d2 = c.read_ruling.new.disk in
    only_then D d0 d2 c.read_image.new.disk
    (only_then D d0 c.read_size.new.disk d2 c.read_size.ensures.kept c.read_ruling.ensures.kept)
    c.read_image.ensures.kept
