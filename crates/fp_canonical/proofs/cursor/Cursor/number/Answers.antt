use Rattle.std.proofs.Common.{suc, ◌-◌, sym, subst, ◌∙◌, arith, true≢false}
use Rattle.serde_json.proofs.Numbers.{number_of-decimal, number_of-negative}
use Rattle.fp_base.specs.Ordered.{IsWritten}
use Rattle.fp_canonical.proofs.Digits.{above, below, either}
use Rattle.fp_canonical.proofs.cursor.Cursor.number.Goals as goal

pub returns-then-take-clause-written : goal.returns-then-take-clause-written
returns-then-take-clause-written c =
    let size = c.in_ok-size.size in
    subst IsWritten (sym c.below_nought.ensures) (λ h. number_of-negative (size - 1) (omega (arith, c.in_ok-size.ensures.spelled)))

pub returns-clause-written : goal.returns-clause-written
returns-clause-written c =
    let size = c.in_ok-size-2.size in
    subst IsWritten (sym c.from.ensures) (λ h. number_of-decimal size (omega (arith, c.in_ok-size-2.ensures.spelled)))

-- ---- what is taken

pub returns-in_err-size-clause-taken : goal.returns-in_err-size-clause-taken
returns-in_err-size-clause-taken c = λ n left written whole is ends.
    let b = below n left c.args.self.now c.take.new.self (either n written whole) is (c.take.ensures.taken c.if-take.true) in
    absurd (c.in_err-size.ensures.taken (suc b.0) left (omega (arith, b.1)) b.2 ends)

pub returns-then-not-is_below_nought-clause-taken : goal.returns-then-not-is_below_nought-clause-taken
returns-then-not-is_below_nought-clause-taken c = λ n left written whole is ends.
    let b = below n left c.args.self.now c.take.new.self (either n written whole) is (c.take.ensures.taken c.if-take.true) in
    let size = c.in_ok-size.ensures.taken (suc b.0) left (omega (arith, b.1)) b.2 ends in
    true≢false (sym (c.is_below_nought.ensures.all (omega (arith, size.0)) (omega (arith, size.0, b.1))) ∙ c.if-not-is_below_nought.true)

pub returns-then-take-clause-taken : goal.returns-then-take-clause-taken
returns-then-take-clause-taken c = λ n left written whole is ends.
    let b = below n left c.args.self.now c.take.new.self (either n written whole) is (c.take.ensures.taken c.if-take.true) in
    (c.in_ok-size.ensures.taken (suc b.0) left (omega (arith, b.1)) b.2 ends).1

pub returns-in_err-size-2-clause-taken : goal.returns-in_err-size-2-clause-taken
returns-in_err-size-2-clause-taken c = λ n left written whole is ends.
    let a = above n left c.args.self.now (either n written whole) is
    (λ rest minus. true≢false (sym (c.take.ensures.next rest minus) ∙ c.if-take.false)) in
    absurd (c.in_err-size-2.ensures.taken a.0 left (omega (arith, a.1)) (c.take.ensures.kept c.if-take.false ∙ a.2) ends)

pub returns-then-size-gt-HIGHEST-clause-taken : goal.returns-then-size-gt-HIGHEST-clause-taken
returns-then-size-gt-HIGHEST-clause-taken c = λ n left written whole is ends.
    let a = above n left c.args.self.now (either n written whole) is
    (λ rest minus. true≢false (sym (c.take.ensures.next rest minus) ∙ c.if-take.false)) in
    let size = c.in_ok-size-2.ensures.taken a.0 left (omega (arith, a.1)) (c.take.ensures.kept c.if-take.false ∙ a.2) ends in
    omega (arith, size.0, a.1, c.if-size-gt-HIGHEST.true)

pub returns-clause-taken : goal.returns-clause-taken
returns-clause-taken c = λ n left written whole is ends.
    let a = above n left c.args.self.now (either n written whole) is
    (λ rest minus. true≢false (sym (c.take.ensures.next rest minus) ∙ c.if-take.false)) in
    (c.in_ok-size-2.ensures.taken a.0 left (omega (arith, a.1)) (c.take.ensures.kept c.if-take.false ∙ a.2) ends).1
