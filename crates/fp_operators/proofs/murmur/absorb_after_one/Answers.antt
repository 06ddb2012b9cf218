use Rattle.std.proofs.Common.{◌∙◌}
use Rattle.fp_operators.proofs.Blocks.{block-after_one}
use Rattle.fp_operators.proofs.murmur.absorb_after_one.Goals as goal

pub returns-in-len3-up : goal.returns-in-len3-up
returns-in-len3-up c = c.absorb.ensures ∙
    block-after_one c.args.state c.mix.result c.args.a c.args.back.now c.in-len3-up.len_at_least c.mix.ensures
