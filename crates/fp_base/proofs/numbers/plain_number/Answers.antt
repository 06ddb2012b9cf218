use Rattle.std.proofs.Common.{◌+◌, [], ◌∷◌, ◌++◌, get_or, sym, ap, ◌∙◌, arith}
use Rattle.std.specs.Fmt.{decimal}
use Rattle.std.proofs.lemmas.Fmt.{decimal_digit}
use Rattle.std.proofs.lemmas.List.{take_more}
use Rattle.fp_base.proofs.Numerals.{decimal-more}
use Rattle.fp_base.proofs.numbers.plain_number.Goals as goal

pub loop-i-init : goal.loop-i-init
loop-i-init c =
    let text = c.args.text.now in
    let d = c.from-number.result in
    let small = c.in_ok-digit.ensures.0 in
    let same = c.from-number.ensures in
    let has = c.in_ok-first.ensures.item.3 in (
      omega arith,
      omega arith,
      take_more text 0 0 has.0
          ∙ ap (λ b. b ∷ []) (sym (has.1 0) ∙ c.in_ok-digit.ensures.1 ∙ ap (λ e. 48 + e) (sym same))
          ∙ sym (decimal_digit d (omega arith)),
    )

pub loop-i-preserved : goal.loop-i-preserved
loop-i-preserved c =
    let n = c.loop-i.number in
    let text = c.args.text.now in
    let below = c.if-number-ge-LEAST_FULL.false in
    let some = c.if-number-eq0.false in
    let small = c.in_ok-next.ensures.0 in
    let same = c.from.ensures in (
      omega arith,
      omega arith,
      take_more text c.loop-i.i 0 (omega arith)
          ∙ ap (λ ds. ds ++ get_or text c.loop-i.i 0 ∷ []) c.loop-i.invariant.2
          ∙ ap (λ b. decimal n ++ b ∷ []) (c.in_ok-next.ensures.1 ∙ ap (λ d. 48 + d) (sym same))
          ∙ sym (decimal-more n c.from.result (omega arith) (omega arith) (omega arith)),
    )
