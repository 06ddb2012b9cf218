use Rattle.std.specs.Option.{option_copied}
use Rattle.fp_ofrep.proofs.Written.{failure_put}
use Rattle.fp_ofrep.proofs.write.put_failure.Goals as goal

pub returns : goal.returns
returns c =
    failure_put c.args.failure (option_copied c.args.key) c.args.out.now.items _ _ _ _ _ c.code.ensures c.details.ensures
    c.in_ok-put_text.ensures c.in_ok-put_text-2.ensures c.in_ok-end_failure.ensures
