use Rattle.std.proofs.Common.{◌≡◌, ◌<◌, ◌≤◌, ◌+◌, ⊎_elim, true≢false, ℕ, List, true, false, not, length, take, sym, ap, subst}
use Rattle.std.proofs.Common.{◌∙◌, rules, arith}
use Rattle.std.specs.Prelude.{None, is_some}
use Rattle.std.specs.FinMap as fin
use Rattle.std.proofs.lemmas.List.{take_all}
use Rattle.fp_definition.specs.Key.{key_bytes}
use Rattle.fp_edit.specs.Admits.{parts_after, refusal}
use Rattle.fp_edit.specs.Flags.{Flags, State, cost_found}
use Rattle.fp_edit.specs.Following.{unconditional}
use Rattle.fp_edit.specs.Edits.{Change, change_in}
use Rattle.fp_edit.specs.Lent.{lent, lent_change, lent_parts}
use Rattle.fp_edit.specs.Parts.{Part, any_put, is_put, part_key}
use Rattle.fp_edit.proofs.Followed.{expected_keys, met}
use Rattle.fp_edit.proofs.Lending.{key_with, puts_with}
use Rattle.fp_edit.proofs.Parts.{get-before}
use Rattle.fp_documents.proofs.Sizes.{found_some, found_within}
use Rattle.fp_pending.specs.Following.{set_behind}
use Rattle.fp_pending.specs.Tallies.{Judges}
use Rattle.fp_pending.proofs.Tallying.{can_be, cannot_be, count_all, free_at, goes_on, judged_all, size_all}
use Rattle.fp_pending.proofs.behind.judged_behind.Goals as goal
use Rattle.fp_pending.proofs.behind.judged_behind.Goals.{After-found_behind-found}

-- the set behind those edits, and a part with what its key takes there
module _ (c : After-found_behind-found) where
  abbrev Here : State
  Here = set_behind c.args.set.now c.args.ahead.now c.args.before.now

  abbrev All : List Part
  All = lent_parts c.new-parts.result

  abbrev One : Part
  One = (lent c.lend-part.result).part

  within : c.loop-i.i < length All
  within = let test = c.loop-i-test.true in let len = c.len-i-end.ensures in omega (arith, test, len)

  found_is : c.found_behind-found.result ≡ cost_found (part_key One) (fin.get Here.flags (part_key One))
  found_is = c.found_behind-found.ensures ∙ ap (λ (k : List ℕ). cost_found k (fin.get Here.flags k))
      (sym (key_with (key_bytes c.lend-part.result.key.now) c.lend-part.result.flag))

  puts_is : is_put One ≡ is_some c.lend-part.result.flag
  puts_is = puts_with (key_bytes c.lend-part.result.key.now) c.lend-part.result.flag

  abbrev Before : Flags
  Before = parts_after (Here.revision + 1) Here.flags (take c.loop-i.i All)

  -- no part so far is of that key
  found_still : c.found_behind-found.result ≡ cost_found (part_key One) (fin.get Before (part_key One))
  found_still = found_is ∙ ap (cost_found (part_key One))
      (sym (get-before All c.loop-i.i One within c.lend-part.ensures.part (Here.revision + 1) Here.flags
      c.new-parts.ensures.lawful.distinct))

pub returns-then-found-eq0 : goal.returns-then-found-eq0
returns-then-found-eq0 c = λ accepted.
    let at = (goal.at.returns-then-found-eq0 c).After-found_behind-found in
    let s = Here at in
    let x : Change = lent_change c.new-parts.result in
    let same = ap change_in (sym c.new-parts.ensures.same) in
    let gone : c.is_none.result ≡ true = search rules in
    let refused = subst (λ (y : Change). refusal s (unconditional y) ≡ None) same accepted in
    let expected = expected_keys s x (met s (unconditional x) refused).0 in
    cannot_be s c.found_behind-found.result (One at) (found_is at) (puts_is at ∙ c.is_none.ensures ∙ ap not gone)
    c.if-found-eq0.true (free_at s (All at) c.loop-i.i (One at) (within at) c.lend-part.ensures.part expected)

pub sums_after-sums-requires-clause-found : goal.sums_after-sums-requires-clause-found
sums_after-sums-requires-clause-found c =
    let at = (goal.at.sums_after-sums-requires-clause-found c).After-found_behind-found in
    let all = found_within (Before at) (part_key (One at)) in
    let still = found_still at in
    let size_is = c.loop-i.invariant.size_is in omega (arith, all, still, size_is)

pub sums_after-sums-requires-clause-some : goal.sums_after-sums-requires-clause-some
sums_after-sums-requires-clause-some c = λ some.
    let at = (goal.at.sums_after-sums-requires-clause-some c).After-found_behind-found in
    let all = found_some (Before at) (part_key (One at)) (subst (λ (n : ℕ). 0 < n) (found_still at) some) in
    let count_is = c.loop-i.invariant.count_is in omega (arith, all, count_is)

pub loop-i-preserved : goal.loop-i-preserved
loop-i-preserved c =
    let at = (goal.at.loop-i-preserved c).After-found_behind-found in
    let u = c.loop-i.invariant in
    let found = c.found_behind-found.result in
    let some : is_put (One at) ≡ false → 0 < found = λ gone.
    ⊎_elim (λ deletes. let never = deletes.1 in omega (arith, never))
    (λ puts. absurd (true≢false (sym (c.is_none.ensures ∙ ap not puts) ∙ sym (puts_is at) ∙ gone)))
    c.else-is_none.either in
    let after = c.sums_after-sums.ensures.after ((Here at).revision + 1) (Before at) u.count_is u.size_is (found_still at) in
    goes_on (Here at) (All at) c.loop-i.i (One at) (within at) c.lend-part.ensures.part u
    c.sums_after-sums.result.count c.sums_after-sums.result.size
    (can_be (Here at) found (One at) (found_is at) some) after.0 after.1 c.sums_after-sums.ensures.grown

pub judged_sums-requires : goal.judged_sums-requires
judged_sums-requires c = record {
  fits = λ none.
      let ps = lent_parts c.new-parts.result in
      let len = c.len-i-end.ensures in
      let test = c.loop-i-test.false in
      let ended : length ps ≤ c.loop-i.i = omega (arith, test, len) in
      let less = c.loop-i.invariant.less (ap any_put (take_all c.loop-i.i ps ended) ∙ sym c.puts_any.ensures ∙ none) in
      let few = less.0 in
      let short = less.1 in
      let count = c.requires.tally.count_is in
      let size = c.requires.tally.size_is in (omega (arith, few, count), omega (arith, short, size));
}

pub returns : goal.returns
returns c =
    let s = set_behind c.args.set.now c.args.ahead.now c.args.before.now in
    let x : Change = lent_change c.new-parts.result in
    let u = c.loop-i.invariant in
    let len = c.len-i-end.ensures in
    let test = c.loop-i-test.false in
    let ended : length (lent_parts c.new-parts.result) ≤ c.loop-i.i = omega (arith, test, len) in
    subst (λ (y : Change). Judges s y c.judged_sums.result) (ap change_in c.new-parts.ensures.same)
    (judged_all s x u ended c.judged_sums.result
    (c.judged_sums.ensures.judged s x c.requires.tally c.puts_any.ensures (count_all s x u ended)
    (size_all s x u ended)))
