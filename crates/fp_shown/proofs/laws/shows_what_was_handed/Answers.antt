use Rattle.std.proofs.Common.{sym, ◌∙◌}
use Rattle.fp_edit.proofs.Runs.{revision-after_all}
use Rattle.fp_group_commit.specs.Tokens.{front_set}
use Rattle.fp_ofrep.specs.Route.{route_of}
use Rattle.fp_shown.proofs.Replies.{routed-same}
use Rattle.fp_shown.proofs.SameTold.{told_alike}
use Rattle.fp_shown.proofs.laws.shows_what_was_handed.Goals as goal

pub returns : goal.returns
returns c = λ handed frame s lawful other carries is method target if_none_match body now.
    let t = front_set handed in
    let revision = is.at ∙ carries.at ∙ sym (revision-after_all handed.store.start handed.edits) in
    routed-same s t revision (told_alike s t other lawful (is.spelled ∙ carries.spelled)) now
    (route_of target) method if_none_match body
