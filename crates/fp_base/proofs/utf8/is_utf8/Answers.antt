use Rattle.std.proofs.Common.{sym, ◌∙◌, arith}
use Rattle.std.proofs.lemmas.Str.{IsUtf8-nil}
use Rattle.fp_base.proofs.Pieces.{ascii_text, err_of, no_text, ok_of, text_on}
use Rattle.fp_base.proofs.utf8.is_utf8.Goals as goal

pub loop-at-init : goal.loop-at-init
loop-at-init c =
    let at = c.ascii_end-at in
    (at.ensures.within.1, ascii_text c.args.bytes.now 0 at.result (omega arith) at.ensures.ascii IsUtf8-nil)

pub returns-then-is_err-clause-none : goal.returns-then-is_err-clause-none
returns-then-is_err-clause-none c = λ _.
    let l = c.loop-at in
    let end = c.piece_end-end in
    no_text c.args.bytes.now l.at end.result (omega (arith, end.ensures.within)) end.ensures.within.1 l.invariant.1 end.ensures.ascii
    (err_of c.from_utf8.result _ _ c.from_utf8.ensures.cases (sym c.is_err.ensures.value ∙ c.if-is_err.true))

pub loop-at-preserved : goal.loop-at-preserved
loop-at-preserved c =
    let l = c.loop-at in
    let end = c.piece_end-end in
    let at = c.ascii_end-at-in-loop-at in
    let piece = ok_of c.from_utf8.result _ _ c.from_utf8.ensures.cases (sym c.is_err.ensures.value ∙ c.if-is_err.false) in
    let front = text_on c.args.bytes.now l.at end.result (omega (arith, end.ensures.within)) l.invariant.1 piece in
    (at.ensures.within.1, ascii_text c.args.bytes.now end.result at.result at.ensures.within.0 at.ensures.ascii front)
