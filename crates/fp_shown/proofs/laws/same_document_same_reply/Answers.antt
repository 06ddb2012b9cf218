use Rattle.fp_ofrep.specs.Route.{route_of}
use Rattle.fp_shown.proofs.Replies.{routed-same}
use Rattle.fp_shown.proofs.SameTold.{told_alike}
use Rattle.fp_shown.proofs.laws.same_document_same_reply.Goals as goal

pub returns : goal.returns
returns c = λ a b lawful other revision same method target if_none_match body now.
    routed-same a b revision (told_alike a b lawful other same) now
    (route_of target) method if_none_match body
