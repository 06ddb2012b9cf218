use Rattle.std.proofs.Common.{◌++◌, ap, ◌∙◌}
use Rattle.fp_edit.specs.Following.{changes_of}
use Rattle.fp_desk.specs.Desk.{DeskState, log}
use Rattle.fp_desk.proofs.Queues.{no_front}
use Rattle.fp_desk.proofs.desk.Desk.into_opening.Goals as goal

pub into_opening-requires-clause-nothing : goal.into_opening-requires-clause-nothing
into_opening-requires-clause-nothing c =
    let d = c.self.inside in
    no_front d.settled.edits (changes_of d.drawn.items ++ changes_of d.waiting.items)
    (ap (λ (x : DeskState). log x) c.self.view_is ∙ c.requires)
