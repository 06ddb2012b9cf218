use denote.RattleType.{RattleType}
use denote.Param.Send.{IsSend}
use Rattle.fp_fronts.proofs.Sent as sent
use Rattle.fp_fronts.specs.contracts.growing.Front.{the_row}

pub send : (E : RattleType) → IsSend (the_row E)
send = sent.front_send
