use Rattle.std.proofs.Common.{◌+◌, ◌-◌, ◌≡◌, ◌<◌, [], ◌∷◌, ◌++◌, drop, get_or, sym, ap, subst, ◌∙◌}
use Rattle.std.proofs.Common.{arith}
use Rattle.std.specs.Fmt.{decimal}
use Rattle.std.specs.Str.{IsCharBoundary}
use Rattle.std.proofs.lemmas.Fmt.{decimal_digit}
use Rattle.std.proofs.lemmas.List.{take_more}
use Rattle.std.proofs.lemmas.Str.{IsCharBoundary-after_ascii}
use Rattle.fp_base.proofs.Numerals.{decimal-more}
use Rattle.fp_canonical.proofs.Digits.{digit_first, left_first, left_none, left_on}
use Rattle.fp_canonical.proofs.cursor.Cursor.digits.Goals as goal
use Rattle.fp_canonical.proofs.cursor.Cursor.digits.Goals.{then-number-eq0-via-then-number-eq0}
use Rattle.fp_canonical.proofs.cursor.Cursor.digits.Goals.{then-number-eq0-via-else-number-eq0+then-number-ge-LEAST_FULL}

pub loop-digit-init : goal.loop-digit-init
loop-digit-init c =
    let bytes = c.as_bytes-bytes.result.now in
    let has = c.in_ok-digit_at.ensures in
    let d = c.from-number.result in
    let same = c.from-number.ensures in (
      omega arith,
      omega (arith, has),
      omega (arith, has, same),
      take_more bytes 0 0 has.0 ∙ ap (λ b. b ∷ []) (has.2 ∙ ap (λ e. 48 + e) (sym same)) ∙ sym (decimal_digit d (omega (arith, has, same))),
      omega (arith, has),
      λ n left small is ends. left_first n left small bytes d is (omega (arith, has, same)) (has.2 ∙ ap (λ e. 48 + e) (sym same)),
    )

pub loop-digit-preserved : goal.loop-digit-preserved
loop-digit-preserved c =
    let n = c.loop-digit.number in
    let bytes = c.as_bytes-bytes.result.now in
    let i = c.loop-digit.len in
    let has = c.in-Some.ensures in
    let same = c.from.ensures in
    let below = c.if-number-ge-LEAST_FULL.false in
    let some = c.if-number-eq0.false in
    let back : i + 1 - 1 ≡ i = omega arith in
    let inv = c.loop-digit.invariant in (
      omega arith,
      omega (arith, has),
      omega (arith, has, same, below),
      take_more bytes i 0 has.0
          ∙ ap (λ ds. ds ++ get_or bytes i 0 ∷ []) inv.3
          ∙ ap (λ b. decimal n ++ b ∷ []) (has.2 ∙ ap (λ d. 48 + d) (sym same))
          ∙ sym (decimal-more n c.from.result (omega (arith, some)) (omega (arith, has, same)) (omega (arith, has, same, below))),
      subst (λ k. get_or bytes k 0 < 128) (sym back) (omega (arith, has)),
      λ m left small is ends.
          (left_on m left small bytes n i ends inv.2 (inv.5 m left small is ends) c.from.result has.0 (omega (arith, has, same))
          (has.2 ∙ ap (λ d. 48 + d) (sym same))).2,
    )

pub returns-in_err-digit_at-clause-taken : goal.returns-in_err-digit_at-clause-taken
returns-in_err-digit_at-clause-taken c = λ n left small is ends.
    let first = digit_first n left small c.as_bytes-bytes.result.now (c.as_bytes-bytes.ensures.value ∙ c.self.view_is ∙ is) in
    absurd (omega (arith, first, c.in_err-digit_at.ensures first.0 first.1))

pub returns-then-number-eq0-clause-taken : goal.returns-then-number-eq0-clause-taken
returns-then-number-eq0-clause-taken c = λ n left small is ends.
    let l = c.loop-digit in
    let has = c.in-Some.ensures in
    let on = left_on n left small c.as_bytes-bytes.result.now l.number l.len ends l.invariant.2
    (l.invariant.5 n left small (c.as_bytes-bytes.ensures.value ∙ c.self.view_is ∙ is) ends) c.in-Some.digit has.0 has.1 has.2 in
    elim c.then-number-eq0.branch [
      | then-number-eq0-via-then-number-eq0 w ↦ omega (arith, on.0, w.if-number-eq0.true)
      | then-number-eq0-via-else-number-eq0+then-number-ge-LEAST_FULL w ↦ omega (arith, on.1, small, w.if-number-ge-LEAST_FULL.true)
    ]

pub returns-clause-taken : goal.returns-clause-taken
returns-clause-taken c = λ n left small is ends.
    let l = c.loop-digit in
    let same : c.as_bytes-bytes.result.now ≡ c.args.self.now = c.as_bytes-bytes.ensures.value ∙ c.self.view_is in
    let over = left_none n left small c.as_bytes-bytes.result.now l.number l.len ends l.invariant.2
    (l.invariant.5 n left small (same ∙ is) ends) c.in_default.ensures in
    (over.0, c.range_from-self-inside.ensures.value ∙ ap (drop l.len) (sym c.as_bytes-bytes.ensures.value) ∙ over.1)

pub range_from-self-inside-requires : goal.range_from-self-inside-requires
range_from-self-inside-requires c h =
    let bytes = c.as_bytes-bytes.result.now in
    let i = c.loop-digit.len in
    let inv = c.loop-digit.invariant in
    let back : i - 1 + 1 ≡ i = omega (arith, inv.0) in
    subst (λ xs. IsCharBoundary xs i) c.as_bytes-bytes.ensures.value
    (subst (IsCharBoundary bytes) back
    (IsCharBoundary-after_ascii bytes (i - 1) c.as_bytes-bytes.ensures.utf8 (omega (arith, inv.0, inv.1)) inv.4))
