use Rattle.std.proofs.Common.{ap, ◌∙◌}
use Rattle.fp_edit.specs.Flags.{State}
use Rattle.fp_edit.proofs.Runs.{revision-after_all}
use Rattle.fp_publish.proofs.page.Page.revision.Goals as goal

pub returns : goal.returns
returns c =
    let front = c.args.self.now.front in
    c.revision.ensures.revision ∙ ap (λ (s : State). s.revision) c.requires ∙ revision-after_all front.store.start front.edits
