use Rattle.std.proofs.Common.{◌≡◌, false, true, refl, sym, ap, ◌∙◌, map, arith}
use Rattle.std.specs.Prelude.{IsTrue}
use Rattle.std.proofs.lemmas.List.{take_all}
use Rattle.fp_desk.proofs.Queues.{part_in, parts_are, same_at}
use Rattle.fp_desk.proofs.queue.same_parts.Goals as goal

pub returns-then-not-same_part : goal.returns-then-not-same_part
returns-then-not-same_part c = (
  λ (yes : IsTrue false). absurd cc,
  λ all.
      let one = same_at part_in c.args.changes.now c.args.others.now c.loop-i.i c.index-changes-i.result
      c.index-others-i.result c.loop-i-test.true c.index-changes-i.is c.index-others-i.is
      (sym (parts_are c.args.changes.now) ∙ all ∙ parts_are c.args.others.now) in
      let both : true ≡ false = sym (c.same_part.ensures.1 one) ∙ c.if-not-same_part.true in absurd cc,
)

pub returns : goal.returns
returns c =
    let mine = c.loop-i-test.false in let len = c.if-changes-others.false in
    let same : map part_in c.args.changes.now ≡ map part_in c.args.others.now =
    ap (map part_in) (sym (take_all c.loop-i.i c.args.changes.now mine)) ∙ c.loop-i.invariant ∙
    ap (map part_in) (take_all c.loop-i.i c.args.others.now (omega (arith, mine, len))) in
    (λ _. parts_are c.args.changes.now ∙ same ∙ sym (parts_are c.args.others.now), λ _. refl)
