use Rattle.std.proofs.Common.{◌≡◌, ◌<◌, ◌+◌, List, length, ℕ, take, sym, ap, subst, ◌∙◌, arith}
use Rattle.std.specs.FinMap as fin
use Rattle.fp_definition.specs.Key.{key_bytes}
use Rattle.fp_edit.specs.Admits.{parts_after}
use Rattle.fp_edit.specs.Flags.{Flags, cost_found, size}
use Rattle.fp_edit.specs.Lent.{lent, lent_parts}
use Rattle.fp_edit.specs.Parts.{Part, part_key}
use Rattle.fp_edit.proofs.Lending.{key_with}
use Rattle.fp_edit.proofs.Parts.{get-before, parts_after-more}
use Rattle.fp_documents.proofs.Sizes.{found_some, found_within}
use Rattle.fp_edit.proofs.flag_set.FlagSet.sums_behind.Goals as goal
use Rattle.fp_edit.proofs.flag_set.FlagSet.sums_behind.Goals.{After-cost_at}

module _ (c : After-cost_at) where
  abbrev All : List Part
  All = lent_parts c.args.parts

  abbrev One : Part
  One = (lent c.lend-part.result).part

  -- the flags behind the parts that were passed
  abbrev Passed : Flags
  Passed = parts_after (c.args.self.now.revision + 1) c.args.self.now.flags (take c.loop-i.i All)

  within : c.loop-i.i < length All
  within = let test = c.loop-i-test.true in let len = c.len-i-end.ensures in omega (arith, test, len)

  -- what was found in the set stands there still
  found_is : c.cost_at.result ≡ cost_found (part_key One) (fin.get Passed (part_key One))
  found_is = c.cost_at.ensures
      ∙ ap (λ (k : List ℕ). cost_found k (fin.get c.args.self.now.flags k))
      (sym (key_with (key_bytes c.lend-part.result.key.now) c.lend-part.result.flag))
      ∙ ap (cost_found (part_key One)) (sym
      (get-before All c.loop-i.i One within c.lend-part.ensures.part (c.args.self.now.revision + 1)
      c.args.self.now.flags c.requires.distinct))

pub sums_after-sums-requires-clause-found : goal.sums_after-sums-requires-clause-found
sums_after-sums-requires-clause-found c = let found = found_is c in
    let whole = found_within (Passed c) (part_key (One c)) in let bytes = c.loop-i.invariant.1 in omega arith

pub sums_after-sums-requires-clause-some : goal.sums_after-sums-requires-clause-some
sums_after-sums-requires-clause-some c = λ some.
    let here = found_some (Passed c) (part_key (One c)) (subst (λ (n : ℕ). 0 < n) (found_is c) some) in
    let count = c.loop-i.invariant.0 in omega arith

pub loop-i-preserved : goal.loop-i-preserved
loop-i-preserved c =
    let a = (goal.at.loop-i-preserved c).After-cost_at in
    let r = c.args.self.now.revision + 1 in let m = c.args.self.now.flags in
    let more = parts_after-more (All a) c.loop-i.i (One a) (within a) c.lend-part.ensures.part r m in
    let after = c.sums_after-sums.ensures.after r (Passed a) c.loop-i.invariant.0 c.loop-i.invariant.1 (found_is a) in
    let grown = c.sums_after-sums.ensures.grown in
    (after.0 ∙ ap fin.len (sym more), after.1 ∙ ap size (sym more), omega arith, omega arith)
