use Rattle.std.proofs.Common.{◌++◌, ap, ◌∙◌}
use Rattle.fp_ofrep.proofs.Written.{said_put}
use Rattle.fp_ofrep.proofs.write.end_success.Goals as goal

pub returns : goal.returns
returns c = λ s is.
    said_put c.args.said.now.reason s c.args.out.now.items _ _ _ _ c.args.said.now.value.now c.args.said.now.variant.now
    (c.in_ok-extend_from_slice.ensures.items ∙ ap (λ xs. c.args.out.now.items ++ xs) c.before_value.ensures)
    c.in_ok-extend_from_slice-2.ensures.items c.in_ok-put_text.ensures c.in_ok-push.ensures.items is
