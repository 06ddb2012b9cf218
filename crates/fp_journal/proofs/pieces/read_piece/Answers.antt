use Rattle.std.proofs.Common.{◌≡◌, ◌∙◌, ◌+◌, ℕ, length, ap, arith}
use Rattle.std.specs.Prelude.{slice_range}
use Rattle.fp_journal.proofs.OnlyReading.{only_none, only_one, whole_back}
use Rattle.fp_journal.proofs.pieces.read_piece.Goals as goal

pub returns-in_err-resize-clause-kept : goal.returns-in_err-resize-clause-kept
returns-in_err-resize-clause-kept g c = only_none g.D.Disk g.met.D.Disk.only_now c.args.disk.now

pub returns-in_err-read_at-clause-kept : goal.returns-in_err-read_at-clause-kept
returns-in_err-read_at-clause-kept g c = let e = c.read_at.ensures in
    only_one g.D.Disk g.met.D.Disk.only_now c.args.disk.now c.read_at.new.self e.honest e.same e.time e.called

pub returns-clause-kept : goal.returns-clause-kept
returns-clause-kept g c = let e = c.read_at.ensures in
    only_one g.D.Disk g.met.D.Disk.only_now c.args.disk.now c.read_at.new.self e.honest e.same e.time e.called

pub returns-clause-long : goal.returns-clause-long
returns-clause-long g c =
    let v = c.resize.new.self in let into = c.read_at.new.into in let kept = c.read_at.auto.into in
    let value = ap length c.deref_mut.ensures.value in let ok = v.ok.0 in
    let long : length into ≡ v.len = omega (arith, kept, value, ok) in
    ap length (whole_back into v.items v.len long (omega (arith, ok))) ∙ long ∙ c.in_ok-resize.ensures.len

pub returns-clause-bytes : goal.returns-clause-bytes
returns-clause-bytes g c = λ h.
    let v = c.resize.new.self in let into = c.read_at.new.into in let kept = c.read_at.auto.into in
    let value = ap length c.deref_mut.ensures.value in let ok = v.ok.0 in let len = c.in_ok-resize.ensures.len in
    let long : length into ≡ v.len = omega (arith, kept, value, ok) in
    let count : length c.deref_mut.result.now ≡ c.args.count = omega (arith, value, ok, len) in
    whole_back into v.items v.len long (omega (arith, ok)) ∙ c.in_ok-read_at.ensures.answer h ∙
    ap (λ (n : ℕ). slice_range (g.D.Disk.bytes c.args.disk.now) c.args.at (c.args.at + n)) count
