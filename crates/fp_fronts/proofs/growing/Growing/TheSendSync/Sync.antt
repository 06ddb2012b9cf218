use denote.RattleType.{RattleType}
use denote.Param.Send.{IsSync}
use Rattle.fp_fronts.proofs.Sent as sent
use Rattle.fp_fronts.specs.contracts.growing.Growing.{the_row}

pub sync : (E : RattleType) → IsSync (the_row E)
sync = sent.growing_sync
