use Rattle.std.proofs.Common.{◌∙◌}
use Rattle.fp_operators.proofs.Blocks.{block-after_three}
use Rattle.fp_operators.proofs.murmur.absorb_after_three.Goals as goal

pub returns-in-len1-up : goal.returns-in-len1-up
returns-in-len1-up c = c.absorb.ensures ∙
    block-after_three c.args.state c.mix.result c.args.a c.args.b c.args.c c.args.back.now c.in-len1-up.len_at_least
    c.mix.ensures
