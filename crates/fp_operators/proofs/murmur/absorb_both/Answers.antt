use Rattle.std.proofs.Common.{◌∙◌, ap}
use Rattle.fp_operators.specs.Murmur.{absorbed}
use Rattle.fp_operators.proofs.Blocks.{block-then, two-then, three-then}
use Rattle.fp_operators.proofs.murmur.absorb_both.Goals as goal

pub blocks-2-preserved : goal.blocks-2-preserved
blocks-2-preserved c =
    let l = c.blocks-2 in
    block-then l.state c.mix-state.result l.left.now c.args.back.now c.in-len4-up.len_at_least c.mix-state.ensures ∙ l.invariant

pub returns-in-len2 : goal.returns-in-len2
returns-in-len2 c =
    let l = c.blocks-2 in
    c.absorb_after_two.ensures ∙ ap (absorbed l.state)
    (two-then l.left.now c.args.back.now c.in-len2.len_at_least c.in-len2.len_below) ∙ l.invariant

pub returns-in-len3-up : goal.returns-in-len3-up
returns-in-len3-up c =
    let l = c.blocks-2 in
    c.absorb_after_three.ensures ∙
    ap (absorbed l.state) (three-then l.left.now c.args.back.now c.in-len3-up.len_at_least
    c.in_default.len_below) ∙ l.invariant
