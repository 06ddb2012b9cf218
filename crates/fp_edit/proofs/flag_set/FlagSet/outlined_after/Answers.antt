use Rattle.std.proofs.Common.{◌≡◌, ap, sym, ◌∙◌}
use Rattle.std.specs.FinMap as fin
use Rattle.fp_documents.specs.Entries.{entries_of}
use Rattle.fp_edit.specs.Flags.{State}
use Rattle.fp_documents.proofs.Maps.{entries-flags_of}
use Rattle.fp_edit.proofs.Outlined.{is_document_of}
use Rattle.fp_edit.proofs.flag_set.FlagSet.outlined_after.Goals as goal

pub document_after-requires : goal.document_after-requires
document_after-requires c =
    let set = c.self.inside in
    let is : fin.entries c.args.self.now.flags ≡ entries_of set.flags.entries =
    ap (λ (x : State). fin.entries x.flags) (sym c.self.view_is) ∙
    entries-flags_of set.flags.entries c.self.invariant.0 in
    rw (← is) (c.has_as_many_as.ensures c.if-has_as_many_as.true)

pub returns-in-Some : goal.returns-in-Some
returns-in-Some c =
    let set = c.self.inside in
    let made = rw c.in-Some.is at c.in_ok-made.ensures in
    rw (← c.self.view_is) (is_document_of c.in-Some.document set.flags.entries set.revision set.limit
    c.self.invariant.0 c.self.invariant.1.changed made.0 made.1)
