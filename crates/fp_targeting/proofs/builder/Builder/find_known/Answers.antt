use Rattle.fp_targeting.proofs.Leaves.{finds-known}
use Rattle.fp_targeting.proofs.builder.Builder.find_known.Goals as goal

pub returns : goal.returns
returns c = λ h. finds-known c.in_ok-path.ensures c.in_ok-push.ensures
