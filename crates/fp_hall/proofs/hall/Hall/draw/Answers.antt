use Rattle.std.proofs.Common.{sym, ◌∙◌}
use Rattle.fp_hall.proofs.Halls.{orderly_then}
use Rattle.fp_hall.proofs.PlaceLemmas.{have_drawn-log, log_then}
use Rattle.fp_hall.proofs.hall.Hall.draw.Goals as goal

pub invariant_of-self : goal.invariant_of-self
invariant_of-self g c =
    let k = g.K.Naming in let e = c.draw.ensures in let w = c.self.invariant in (
      orderly_then k.store k.desk_lists k.store_lists _ c.draw.new.self c.args.store.now c.draw.new.store _
          c.draw.result w.0 e.drawn e.none e.unchanged,
      w.1,
      w.2,
      w.3 ∙ sym (log_then _ c.draw.new.self c.args.store.now c.draw.new.store _ _ c.draw.result
          (have_drawn-log _ c.draw.new.self c.args.store.now c.draw.new.store) e.drawn e.none e.unchanged),
    )
