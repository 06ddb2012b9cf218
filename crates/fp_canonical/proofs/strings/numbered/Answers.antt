use Rattle.std.proofs.Common.{ℕ, Some, true≢false, ◌≡◌, ◌+◌, ◌*◌, ◌/◌, ◌%◌, sym, ap, ◌∙◌, arith}
use Rattle.std.specs.Char.{digit_char}
use Rattle.json.specs.Print.{escape_letter}
use Rattle.fp_canonical.proofs.Exact.{by_number, numbers_of}
use Rattle.fp_canonical.proofs.strings.numbered.Goals as goal

pub returns-in_err-sixteens-clause-taken : goal.returns-in_err-sixteens-clause-taken
returns-in_err-sixteens-clause-taken c = λ x same.
    let n = numbers_of x c.args.high c.args.low same in
    let is = c.in_err-sixteens.ensures.taken (x / 16) (omega (arith, n.control)) n.high in absurd (cc)

pub returns-in_err-ones-clause-taken : goal.returns-in_err-ones-clause-taken
returns-in_err-ones-clause-taken c = λ x same.
    let n = numbers_of x c.args.high c.args.low same in
    let is = c.in_err-ones.ensures.taken (x % 16) (omega arith) n.low in absurd (cc)

some_same : (a b : ℕ) → Some a ≡ Some b → a ≡ b
some_same a b h = cc

pub returns-then-sixteens-gt1-clause-taken : goal.returns-then-sixteens-gt1-clause-taken
returns-then-sixteens-gt1-clause-taken c = λ x same.
    let n = numbers_of x c.args.high c.args.low same in
    let ten = some_same c.in_ok-sixteens.sixteens (x / 16) (c.in_ok-sixteens.ensures.taken (x / 16) (omega (arith, n.control)) n.high) in
    absurd (omega (arith, n.control, ten, c.if-sixteens-gt1.true))

pub returns-then-has_letter-clause-taken : goal.returns-then-has_letter-clause-taken
returns-then-has_letter-clause-taken c = λ x same.
    let n = numbers_of x c.args.high c.args.low same in
    let ten = some_same c.in_ok-sixteens.sixteens (x / 16) (c.in_ok-sixteens.ensures.taken (x / 16) (omega (arith, n.control)) n.high) in
    let one = some_same c.in_ok-ones.ones (x % 16) (c.in_ok-ones.ensures.taken (x % 16) (omega arith) n.low) in
    let whole : x ≡ c.in_ok-sixteens.sixteens * 16 + c.in_ok-ones.ones = omega (arith, ten, one) in
    absurd (true≢false (sym c.if-has_letter.true ∙ c.has_letter.ensures.all (ap escape_letter (sym whole) ∙ n.none)))

pub returns-clause-spelled : goal.returns-clause-spelled
returns-clause-spelled c =
    let ten = c.in_ok-sixteens.sixteens in
    let one = c.in_ok-ones.ones in
    let high : (ten * 16 + one) / 16 ≡ ten = omega (arith, c.in_ok-ones.ensures.spelled) in
    let low : (ten * 16 + one) % 16 ≡ one = omega (arith, c.in_ok-ones.ensures.spelled) in
    by_number (ten * 16 + one) c.args.high c.args.low
    record {
      control = omega (arith, c.in_ok-ones.ensures.spelled, c.if-sixteens-gt1.false);
      none = c.has_letter.ensures.none c.if-has_letter.false;
      high = ap digit_char high ∙ c.in_ok-sixteens.ensures.spelled.1;
      low = ap digit_char low ∙ c.in_ok-ones.ensures.spelled.1;
    }
