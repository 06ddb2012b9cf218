use Rattle.std.proofs.Common.{◌∙◌}
use Rattle.fp_operators.proofs.Blocks.{block}
use Rattle.fp_operators.proofs.murmur.absorb.Goals as goal

pub blocks-2-preserved : goal.blocks-2-preserved
blocks-2-preserved c =
    let l = c.blocks-2 in
    block l.state c.mix-state.result l.left.now c.in-len4-up.len_at_least c.mix-state.ensures ∙ l.invariant
