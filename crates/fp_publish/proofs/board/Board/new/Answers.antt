use Rattle.std.proofs.Common.{◌≡◌, List, fold, sym, ap, subst, ◌∙◌}
use Rattle.fp_publish.specs.Fronts.{Begins}
use Rattle.fp_publish.specs.Rule.{IsConsistent, page_after}
use Rattle.fp_publish.specs.declared.page.Page.{Page}
use Rattle.fp_publish.specs.declared.page.Step.{Step}
use Rattle.fp_publish.proofs.RuleLemmas.{turns, begins_self}
use Rattle.fp_publish.proofs.board.Board.new.Goals as goal

pub publish_as-writer-requires : goal.publish_as-writer-requires
publish_as-writer-requires g c next is =
    let x = c.in_ok-writer.writer.desk.shown.value in
    let same : next ≡ x = is ∙ ap (λ (ops : List Step). fold page_after x ops) c.in_ok-writer.ensures.1 in
    turns _ _ x next (subst (λ (p : Page). Begins x.front p.front) (sym same) (begins_self x.front)) (λ h. subst IsConsistent (sym same) h)
