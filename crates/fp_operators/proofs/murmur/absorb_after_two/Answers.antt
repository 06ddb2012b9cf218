use Rattle.std.proofs.Common.{◌∙◌}
use Rattle.fp_operators.proofs.Blocks.{block-after_two}
use Rattle.fp_operators.proofs.murmur.absorb_after_two.Goals as goal

pub returns-in-len2-up : goal.returns-in-len2-up
returns-in-len2-up c = c.absorb.ensures ∙
    block-after_two c.args.state c.mix.result c.args.a c.args.b c.args.back.now c.in-len2-up.len_at_least
    c.mix.ensures
