use Rattle.std.proofs.Common.{◌≡◌, ◌≤◌, true, None, IfSome, refl, ap, subst, rules, arith}
use Rattle.std.specs.FinMap as fin
use Rattle.fp_edit.proofs.Followed.{keys_expected}
use Rattle.fp_edit.specs.Admits.{next, refusal}
use Rattle.fp_edit.specs.Edits.{Change, change_in}
use Rattle.fp_edit.specs.Flags.{size}
use Rattle.fp_edit.specs.Following.{unconditional}
use Rattle.fp_pending.specs.Tallies.{IsTallyAbove}
use Rattle.fp_edit.specs.Lent.{lent_change, lent_parts}
use Rattle.fp_pending.proofs.Bounding.{puts_expected}
use Rattle.fp_pending.proofs.tally.most_after.Goals as goal

pub returns : goal.returns
returns c = λ s b.
    let x : Change = lent_change c.new-parts.result in
    let few_was = b.few in
    let short_was = b.short in
    let n = c.sums_of.ensures.same.0 in
    let m = c.sums_of.ensures.same.1 in
    let few : fin.len s.flags ≤ c.sums_of.result.count = omega (arith, few_was, n) in
    let short : size s.flags ≤ c.sums_of.result.size = omega (arith, short_was, m) in
    let most = c.most_with.ensures s few short in
    let all : c.puts_all.result ≡ true = search rules in
    let expected = keys_expected s x (puts_expected s (lent_parts c.new-parts.result) (c.puts_all.ensures all)) in
    subst (λ (y : Change). IfSome c.judged_sums.result
    (λ t. (refusal s (unconditional y) ≡ None) × IsTallyAbove t (next s y))) (ap change_in c.new-parts.ensures.same)
    (c.judged_sums.ensures.most refl s x b expected most.0 most.1)
