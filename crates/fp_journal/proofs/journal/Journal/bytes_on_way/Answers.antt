use Rattle.std.proofs.Common.{sym, subst, ◌∙◌}
use Rattle.fp_journal.specs.State.{JournalState, IsOnWay}
use Rattle.fp_journal.proofs.Steps as steps
use Rattle.fp_journal.proofs.journal.Journal.bytes_on_way.Goals as goal

pub returns-clause-bytes : goal.returns-clause-bytes
returns-clause-bytes g c =
    let D = g.D.Disk in let m = g.met.D.Disk in
    let on = subst (λ (k : JournalState g.row.D.Denot). IsOnWay k.phase) (sym c.self.view_is) c.requires in
    let f = steps.frame_on_way D m.present m.only_now c.self.invariant.0 on in
    rw (← c.self.view_is) (c.as_slice.ensures.value ∙ f.shape)

pub returns-clause-short : goal.returns-clause-short
returns-clause-short g c =
    let D = g.D.Disk in let m = g.met.D.Disk in
    let on = subst (λ (k : JournalState g.row.D.Denot). IsOnWay k.phase) (sym c.self.view_is) c.requires in
    let f = steps.frame_on_way D m.present m.only_now c.self.invariant.0 on in
    rw (← c.self.view_is) f.short
