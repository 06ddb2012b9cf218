use Rattle.std.proofs.Common.{◌≡◌, ◌^◌, sym, subst, ◌∙◌}
use Rattle.fp_recovery.specs.Durable.{IsDurable}
use Rattle.fp_group_commit.specs.Store.{new_set}
use Rattle.fp_commands.proofs.disk.init_disk.Goals as goal

pub returns-in-Ok-clause-sure : goal.returns-in-Ok-clause-sure
returns-in-Ok-clause-sure g c = λ h.
    let D = g.D.Disk in
    let size : c.bytes.result ≡ 2 ^ 24 = c.bytes.ensures.bytes ∙ c.standard.ensures in
    subst (λ n. IsDurable (D.unsynced c.into_disk.result) (new_set n)) size
    (subst (λ (d : g.row.D.Denot). IsDurable (D.unsynced d) (new_set c.bytes.result)) (sym c.into_disk.ensures.disk)
    (c.in-Ok.ensures.sure h))
