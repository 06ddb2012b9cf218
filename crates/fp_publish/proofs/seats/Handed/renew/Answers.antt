use Rattle.fp_publish.proofs.FrontLemmas.{goes_on}
use Rattle.fp_publish.proofs.seats.Handed.renew.Goals as goal

pub outline_into-requires : goal.outline_into-requires
outline_into-requires c =
    let last = c.self.inside.shown in
    goes_on c.in-Some.made.now last _ _ c.args.view.now _ (rw c.in-Some.ensures.value c.self.invariant)
    c.self.view_is c.requires c.shown-shown.ensures c.if-not-is_behind.ensures.0 c.set.ensures

pub outlined_after-requires : goal.outlined_after-requires
outlined_after-requires c =
    let last = c.self.inside.shown in
    goes_on c.deref.result.now last _ _ c.args.view.now _ (rw c.deref.ensures c.self.invariant) c.self.view_is
    c.requires c.shown-shown.ensures c.if-not-is_behind.ensures.0 c.set-in-None.ensures
