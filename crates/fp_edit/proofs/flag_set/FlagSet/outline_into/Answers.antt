use Rattle.std.proofs.Common.{◌≡◌, ap, sym, ◌∙◌}
use Rattle.std.specs.FinMap as fin
use Rattle.fp_documents.specs.Entries.{entries_of}
use Rattle.fp_edit.specs.Flags.{State}
use Rattle.fp_documents.proofs.Maps.{entries-flags_of}
use Rattle.fp_edit.proofs.Outlined.{is_document_of, alike_document}
use Rattle.fp_edit.proofs.flag_set.FlagSet.outline_into.Goals as goal
use Rattle.fp_edit.proofs.flag_set.FlagSet.outline_into.Goals.{then-replaces_one_of+then-room-self+in_ok-put_changed+else-branch}
use Rattle.fp_edit.proofs.flag_set.FlagSet.outline_into.Goals.{else-replaces_one_of}

pub put_changed-requires : goal.put_changed-requires
put_changed-requires c =
    let set = c.self.inside in
    let is : fin.entries c.args.self.now.flags ≡ entries_of set.flags.entries =
    ap (λ (x : State). fin.entries x.flags) (sym c.self.view_is) ∙
    entries-flags_of set.flags.entries c.self.invariant.0 in
    rw (← is) (c.replaces_one_of.ensures c.if-replaces_one_of.true)

pub returns-then-branch-clause-made : goal.returns-then-branch-clause-made
returns-then-branch-clause-made c =
    let set = c.self.inside in
    let put = c.in_ok-put_changed.ensures.put c.if-branch.true in
    rw (← c.self.view_is) (is_document_of c.put_changed.new.self set.flags.entries set.revision set.limit
    c.self.invariant.0 c.self.invariant.1.changed put.0 put.1)

pub outlined_after-requires : goal.outlined_after-requires
outlined_after-requires c = elim c.if-replaces_one_of.branch [
  | then-replaces_one_of+then-room-self+in_ok-put_changed+else-branch w ↦
      let other = w.in_ok-put_changed.ensures.other w.if-branch.false in
      (c.requires.0, rw w.document-is (alike_document _ _ c.requires.0 other.1 c.requires.1), c.requires.2)
  | else-replaces_one_of w ↦ (c.requires.0, rw w.document-is c.requires.1, c.requires.2)
]
