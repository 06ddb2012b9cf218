use Rattle.std.proofs.Common.{◌++◌, ◌+◌, ◌∙◌, ap, arith, take, drop}
use Rattle.fp_base.proofs.Unescaped.{escape_on}
use Rattle.fp_base.proofs.escaping.put_escaped.Goals as goal

pub loop-at-preserved : goal.loop-at-preserved
loop-at-preserved c =
    let run = c.unescaped_len-run in (
      escape_on c.args.bytes.now c.loop-at.at run.result c.args.out.now.items c.loop-at.out.items c.put_byte.new.out.items
          c.extend_from_slice.new.self.items
          c.loop-at-test.true c.loop-at.invariant.0 c.in_ok-put_byte.ensures
          (c.in_ok-extend_from_slice.ensures.items
          ∙ ap (λ k. c.put_byte.new.out.items ++ take k (drop (c.loop-at.at + 1) c.args.bytes.now)) (omega arith))
          run.ensures.written,
      omega (arith, run.ensures.within),
    )
