-- What crosses threads is ghost state that names no thread.
use denote.RattleType.{RattleType}
use denote.Param.Send.{IsSend, IsSync, sendable}
use denote.Struct.Owning.{shape}
use denote.Struct.Struct.{Struct}
use base.Growing.{latest, at_least}
use Rattle.fp_fronts.specs.contracts.growing.Growing as Growing
use Rattle.fp_fronts.specs.contracts.growing.Front as Front

pub front_send : (E : RattleType) → IsSend (Front.the_row E)
unfolding at_least
front_send E = record { owned = λ d vs. ((λ vss. (tt, ((λ uss. (tt, tt)), tt))), tt); leaving = λ k f vs. tt }

pub front_sync : (E : RattleType) → IsSync (Front.the_row E)
unfolding at_least
front_sync E = let fields : IsSync (Struct (shape (Front.the_type E))) = search sendable depth 20 in
    record { shared = λ d b o κ. (fields.shared (tt, tt) b o κ, tt) }

pub growing_send : (E : RattleType) → IsSend (Growing.the_row E)
unfolding latest
growing_send E = record { owned = λ d vs. ((λ vss. (tt, ((λ uss. (tt, tt)), tt))), tt); leaving = λ k f vs. tt }

pub growing_sync : (E : RattleType) → IsSync (Growing.the_row E)
unfolding latest
growing_sync E = let fields : IsSync (Struct (shape (Growing.the_type E))) = search sendable depth 20 in
    record { shared = λ d b o κ. (fields.shared (tt, tt) b o κ, λ q. tt) }
