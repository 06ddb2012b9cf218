use Rattle.std.proofs.Common.{◌≡◌, ◌<◌, ◌≤◌, ◌+◌, ℕ, false, List, length, map, sym, ap, ap₂, ◌∙◌, arith}
use Rattle.std.specs.Prelude.{bytes_eq}
use Rattle.std.specs.FinMap as fin
use Rattle.std.proofs.lemmas.List.{take_all}
use Rattle.std.proofs.lemmas.Slice.Eq.{bytes_eq-Decides}
use Rattle.fp_definition.specs.Key.{key_bytes}
use Rattle.fp_edit.specs.Admits.{parts_after}
use Rattle.fp_edit.specs.Changes.{is_among}
use Rattle.fp_edit.specs.Edits.{Proposal, change_in, parts}
use Rattle.fp_edit.specs.Flags.{cost_found}
use Rattle.fp_edit.specs.Lent.{left_at, lent, lent_parts}
use Rattle.fp_edit.specs.Parts.{Part, part_key}
use Rattle.fp_edit.proofs.Lending.{key_with}
use Rattle.fp_edit.proofs.Parts.{cost-left, get-apart, is_among-more}
use Rattle.fp_pending.proofs.tally.key_cost.Goals as goal
use Rattle.fp_pending.proofs.tally.key_cost.Goals.{After-eq}

module _ (c : After-eq) where
  abbrev All : List Part
  All = lent_parts c.new-parts.result

  abbrev One : Part
  One = (lent c.lend-part.result).part

  within : c.loop-i.i < length All
  within = let test = c.loop-i-test.true in let len = c.len-i-end.ensures in omega (arith, test, len)

  its_key : part_key One ≡ key_bytes c.lend-part.result.key.now
  its_key = key_with (key_bytes c.lend-part.result.key.now) c.lend-part.result.flag

  compared : bytes_eq (key_bytes c.args.key.now) (key_bytes c.lend-part.result.key.now) ≡ c.eq.result
  compared = sym (ap₂ bytes_eq c.as_str.ensures c.as_str-in-loop-i.ensures) ∙ sym c.eq.ensures

pub returns-then-eq : goal.returns-then-eq
returns-then-eq c = λ s before.
    let a = (goal.at.returns-then-eq c).After-eq in
    let k = key_bytes c.args.key.now in
    let r = s.revision + 1 in
    let same : k ≡ part_key (One a) =
    (bytes_eq-Decides k (key_bytes c.lend-part.result.key.now)).0 (compared a ∙ c.if-eq.true) ∙ sym (its_key a) in
    c.cost.ensures.cost r
    ∙ ap (λ (q : List ℕ). cost_found q (left_at r (One a))) (sym same)
    ∙ sym (cost-left r s.flags (All a) c.loop-i.i (One a) k (within a) c.lend-part.ensures.part c.new-parts.ensures.lawful.distinct same)
    ∙ ap (λ (p : Proposal). cost_found k (fin.get (parts_after r s.flags (parts (change_in p))) k)) c.new-parts.ensures.same

pub loop-i-preserved : goal.loop-i-preserved
loop-i-preserved c =
    let a = (goal.at.loop-i-preserved c).After-eq in
    let k = key_bytes c.args.key.now in
    is_among-more (All a) c.loop-i.i (One a) (within a) c.lend-part.ensures.part k c.loop-i.invariant
    (ap (bytes_eq k) (its_key a) ∙ compared a ∙ c.if-eq.false)

pub returns : goal.returns
returns c = λ s before.
    let k = key_bytes c.args.key.now in
    let ps = lent_parts c.new-parts.result in
    let r = s.revision + 1 in
    let len = c.len-i-end.ensures in
    let test = c.loop-i-test.false in
    let ended : length ps ≤ c.loop-i.i = omega (arith, test, len) in
    let none : is_among k (map part_key ps) ≡ false =
    ap (λ (qs : List Part). is_among k (map part_key qs)) (sym (take_all c.loop-i.i ps ended)) ∙ c.loop-i.invariant in
    before ∙ sym (ap (cost_found k) (get-apart r s.flags ps k none))
    ∙ ap (λ (p : Proposal). cost_found k (fin.get (parts_after r s.flags (parts (change_in p))) k)) c.new-parts.ensures.same
