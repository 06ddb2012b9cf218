use Rattle.std.proofs.Common.{take, drop, fold, sym, ap, ◌∙◌}
use Rattle.fp_edit.specs.Admits.{next}
use Rattle.fp_edit.specs.Edits.{Proposal, change_in}
use Rattle.fp_edit.specs.Flags.{State}
use Rattle.fp_edit.specs.Following.{changes_of}
use Rattle.fp_edit.specs.Log.{after_all}
use Rattle.fp_edit.proofs.Followed.{one_after}
use Rattle.fp_publish.specs.Rule.{page_after}
use Rattle.fp_publish.specs.declared.page.Page.{Page}
use Rattle.fp_publish.specs.declared.page.Step.TheVariants as step
use Rattle.fp_publish.proofs.board.put_edits.Goals as goal

pub loop-edit-preserved : goal.loop-edit-preserved
loop-edit-preserved c = record {
  desk = c.in_ok-put.ensures.desk ∙ c.loop-edit.invariant.desk;
  appended = λ p.
      let old = fold page_after p (drop c.args.writer.now.behind c.args.writer.now.log.items) in
      let so_far : State = after_all old.set (changes_of (take c.loop-edit.edit-index c.args.edits.now)) in
      c.in_ok-put.ensures.appended p
      ∙ ap (λ (x : Page). page_after x (step.Change c.in_ok-try_copy.field-0)) (c.loop-edit.invariant.appended p)
      ∙ ap (λ (x : Proposal). record { set = next so_far (change_in x); front = old.front }) c.in_ok-try_copy.ensures
      ∙ ap (λ (t : State). record { set = t; front = old.front })
      (sym (one_after old.set c.args.edits.now c.loop-edit.edit-index c.edit-item.result c.loop-edit-test.true
      c.edit-item.is));
}
