use Rattle.std.proofs.Common.{rules, ◌≡◌, drop, fold, refl, sym, ap, subst, ◌∙◌}
use Rattle.left_right.specs.Sides.{view}
use Rattle.fp_group_commit.specs.Tokens.{FrontState}
use Rattle.fp_desk.specs.Desk.{settled_front}
use Rattle.fp_publish.specs.Board.{IsReady}
use Rattle.fp_publish.specs.Fronts.{Begins}
use Rattle.fp_publish.specs.Rule.{IsConsistent, page_after, page_at}
use Rattle.fp_publish.specs.declared.page.Page.{Page}
use Rattle.fp_publish.proofs.RuleLemmas.{turns}
use Rattle.fp_publish.proofs.board.Board.publish.Goals as goal

pub publish_as-writer-requires : goal.publish_as-writer-requires
publish_as-writer-requires g c next is =
    let w = c.in-Some.writer in let x : Page = c.put_settled.new.writer.desk.shown.value in let shown : FrontState = c.self.inside.shown in
    let ready : IsReady w.desk.shown.value (view w.desk.place) (drop w.behind w.log.items) shown c.self.inside.next
    c.self.inside.leads = search rules in
    let same : x ≡ w.desk.shown.value = ap (λ d. d.shown.value) c.in-Ok.ensures.desk in
    let now : x ≡ page_at shown = same ∙ ready.now in
    let then : next ≡ page_at (settled_front c.args.desk.now) = is ∙
    ap (λ (v : Page). fold page_after v
    (drop c.put_settled.new.writer.behind c.put_settled.new.writer.log.items)) same ∙ c.in-Ok.ensures.appended in
    let on : Begins shown (settled_front c.args.desk.now) = rw c.self.view_is c.requires in
    turns _ _ x next (subst (λ (p : Page). Begins p.front next.front) (sym now)
    (subst (λ (p : Page). Begins shown p.front) (sym then) on)) (λ h. subst IsConsistent (sym then) refl)
