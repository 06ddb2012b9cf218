use Rattle.std.proofs.Common.{ap, sym, ◌∙◌, rules}
use Rattle.fp_operators.specs.Data.{object}
use Rattle.fp_operators.specs.View.{view, members_view}
use Rattle.fp_operators.specs.declared.datum.Datum.{the_lemmas}
use Rattle.fp_operators.proofs.Variants.{view-Object}
use Rattle.fp_targeting.proofs.Turning.{members_in}
use Rattle.fp_targeting.proofs.turn.name_flag.Goals as goal

pub returns-in-Object-clause-named : goal.returns-in-Object-clause-named
returns-in-Object-clause-named c = λ k others h.
    let before = ap (λ m. members_view m.entries) c.in-Object.members-is
    ∙ ap members_in (sym (ap view c.in-Object.is ∙ view-Object c.in-Object.members) ∙ h) in
    sym (sym (ap object (c.set_key.ensures.named k others before)) ∙ search (rules, the_lemmas, view-Object))
