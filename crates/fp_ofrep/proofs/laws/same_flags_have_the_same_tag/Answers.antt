use Rattle.fp_ofrep.specs.Route.{route_of}
use Rattle.fp_ofrep.proofs.LawLemmas.{routed-any}
use Rattle.fp_ofrep.proofs.laws.same_flags_have_the_same_tag.Goals as goal

pub returns : goal.returns
returns c = λ a b method target if_none_match body now same. routed-any a b same now (route_of target) method if_none_match body
