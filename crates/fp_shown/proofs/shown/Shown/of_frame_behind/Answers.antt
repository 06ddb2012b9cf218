use Rattle.std.proofs.Common.{List, ℕ, subst}
use Rattle.fp_shown.specs.Sets.{IsSetOf}
use Rattle.fp_shown.proofs.shown.Shown.of_frame_behind.Goals as goal

pub returns-clause-set : goal.returns-clause-set
returns-clause-set c =
    let set = c.in_ok-set.set in
    let is = subst
    (λ (text : List ℕ).
    IsSetOf c.args.frame.revision text set) c.deref.ensures.value c.in_ok-set.ensures.found in
    (set, c.in_ok-set.ensures.lawful, is)
