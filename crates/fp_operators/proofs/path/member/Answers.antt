use Rattle.std.proofs.Common.{option_map, ap, ◌∙◌}
use Rattle.fp_operators.specs.View.{view}
use Rattle.fp_operators.proofs.Paths.{view_of_ref, view-lookup}
use Rattle.fp_operators.proofs.path.member.Goals as goal

pub returns : goal.returns
returns c = view_of_ref c.get.result ∙ ap (option_map view) c.get.ensures.value ∙ view-lookup c.args.name.now c.args.members.now.entries
