use Rattle.std.proofs.Common.{◌≡◌, take, drop, fold}
use Rattle.fp_edit.specs.Following.{changes_of}
use Rattle.fp_publish.specs.Rule.{page_after, with_changes}
use Rattle.fp_publish.specs.declared.page.Page.{Page}
use Rattle.fp_publish.proofs.board.put_edits.Given as goal

abbrev pub invariant-loop-edit : goal.invariant-loop-edit
invariant-loop-edit l = record {
  desk : l.writer.desk ≡ l.initial.writer.desk;
  appended : (p : Page) → fold page_after p (drop l.writer.behind l.writer.log.items) ≡ with_changes
      (fold page_after p (drop l.initial.writer.behind l.initial.writer.log.items))
      (changes_of (take l.edit-index l.edits));
}
