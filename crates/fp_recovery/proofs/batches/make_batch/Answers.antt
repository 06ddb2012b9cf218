use Rattle.std.proofs.Common.{◌≡◌, ℕ, length, Ok, subst, arith}
use Rattle.fp_recovery.specs.Reading.{front_behind}
use Rattle.fp_recovery.proofs.Read.{batch_is, batch_read}
use Rattle.fp_recovery.proofs.batches.make_batch.Goals as goal

pub returns-clause-taken : goal.returns-clause-taken
returns-clause-taken c =
    let s = c.args.set.now in
    let t = c.make_edits.new.set in
    let bytes = c.args.bytes.now in
    let front = subst (λ (r : ℕ). front_behind r bytes ≡ Ok (c.in_ok-count.count, c.in_ok-count.at))
    c.revision.ensures.revision c.in_ok-count.ensures.front in
    let least = c.if-next-bytes.false in
    let most = c.in_ok-next.ensures.within in
    let end : c.in_ok-next.next ≡ length bytes = omega (arith, least, most) in
    batch_is c.args.version s t bytes (λ i. omega (arith, c.type_inv.bytes i))
    (batch_read c.args.version s t bytes (c.in_ok-count.count, c.in_ok-count.at) c.in_ok-next.next front
    c.in_ok-next.ensures.made end)
