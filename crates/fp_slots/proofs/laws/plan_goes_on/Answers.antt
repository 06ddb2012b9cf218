use Rattle.fp_slots.proofs.Beside.{plan_goes_on}
use Rattle.fp_slots.proofs.laws.plan_goes_on.Goals as goal

pub returns : goal.returns
returns c = plan_goes_on
