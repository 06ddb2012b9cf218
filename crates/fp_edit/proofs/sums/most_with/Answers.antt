use Rattle.std.proofs.Common.{◌<◌, ◌≤◌, ◌+◌, List, length, take, refl, ap, subst, arith}
use Rattle.std.specs.FinMap as fin
use Rattle.std.proofs.lemmas.List.{take_all}
use Rattle.fp_edit.specs.Admits.{parts_after}
use Rattle.fp_edit.specs.Flags.{size}
use Rattle.fp_edit.specs.Lent.{lent, lent_parts}
use Rattle.fp_edit.specs.Parts.{Part}
use Rattle.fp_edit.proofs.Parts.{parts_after-more}
use Rattle.fp_edit.proofs.sums.most_with.Goals as goal

pub loop-i-preserved : goal.loop-i-preserved
loop-i-preserved c =
    let ps = lent_parts c.args.parts in let i = c.loop-i.i in
    let u = c.loop-i.invariant in
    let len = c.len-i-end.ensures in
    let test = c.loop-i-test.true in
    let within : i < length ps = omega (arith, test, len) in
    let grown = c.sums_after-most.ensures.grown in
    let was_few = u.few in
    let was_short = u.short in
    let one = grown.0 in
    let long = grown.1 in record {
      above = λ s count bytes.
          let r = s.revision + 1 in
          let more = parts_after-more ps i (lent c.lend.result).part within c.lend.ensures.part r s.flags in
          let was = u.above s count bytes in
          let most = c.sums_after-most.ensures.most refl r (parts_after r s.flags (take i ps)) was.0 was.1 in
          let n = ap fin.len more in let m = ap size more in
          let most_count = most.0 in let most_bytes = most.1 in
          (omega (arith, n, most_count), omega (arith, m, most_bytes));
      few = omega (arith, was_few, one);
      short = omega (arith, was_short, long);
    }

pub returns : goal.returns
returns c = λ s count bytes.
    let ps = lent_parts c.args.parts in
    let len = c.len-i-end.ensures in
    let test = c.loop-i-test.false in
    let ended : length ps ≤ c.loop-i.i = omega (arith, test, len) in
    subst (λ (qs : List Part). (fin.len (parts_after (s.revision + 1) s.flags qs) ≤ c.loop-i.most.count) ×
    (size (parts_after (s.revision + 1) s.flags qs) ≤ c.loop-i.most.size))
    (take_all c.loop-i.i ps ended) (c.loop-i.invariant.above s count bytes)
