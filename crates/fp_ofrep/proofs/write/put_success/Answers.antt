use Rattle.fp_ofrep.specs.Bodies.{said_members}
use Rattle.fp_ofrep.proofs.Written.{success_put}
use Rattle.fp_ofrep.proofs.write.put_success.Goals as goal

pub returns : goal.returns
returns c = λ m s texts is.
    success_put c.args.key.now m s c.args.out.now.items _ _ _ c.in_ok-put_text.ensures
    (c.in_ok-put_metadata.ensures m (said_members s) texts) (c.in_ok-end_success.ensures s is)
