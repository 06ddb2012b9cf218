use Rattle.std.proofs.Common.{◌≡◌, length, arith}
use Rattle.std.proofs.lemmas.Result.{err_from_is_err_and}
use Rattle.fp_documents.specs.Entries.{entries_of}
use Rattle.fp_recovery.proofs.Read.{image_fails, image_left, image_read}
use Rattle.fp_recovery.proofs.images.flags_from.Goals as goal

pub returns-in_err-flags : goal.returns-in_err-flags
returns-in_err-flags c =
    let p = err_from_is_err_and c.from_residual.result c.from_residual.ensures.1 in
    rw (p.1, p.2) (image_fails c.args.base c.args.limit c.args.bytes.now c.if-base-ge-REVISIONS_END.false
    c.if-bytes-limit.false c.in_err-flags.field-0.0 c.in_err-flags.ensures.value)

pub returns-then-next-bytes : goal.returns-then-next-bytes
returns-then-next-bytes c =
    image_left c.args.base c.args.limit c.args.bytes.now c.if-base-ge-REVISIONS_END.false c.if-bytes-limit.false
    (entries_of c.in_ok-flags.flags.items) c.in_ok-flags.next c.in_ok-flags.ensures.value c.if-next-bytes.true

pub returns : goal.returns
returns c =
    let least = c.if-next-bytes.false in
    let most = c.in_ok-flags.ensures.within in
    let end : c.in_ok-flags.next ≡ length c.args.bytes.now = omega (arith, least, most) in
    image_read c.args.base c.args.limit c.args.bytes.now c.if-base-ge-REVISIONS_END.false c.if-bytes-limit.false
    (entries_of c.in_ok-flags.flags.items) c.in_ok-flags.next c.in_ok-flags.ensures.value end
