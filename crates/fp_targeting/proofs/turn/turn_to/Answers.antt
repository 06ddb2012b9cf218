use Rattle.std.proofs.Common.{ap, sym, ◌∙◌, rules}
use Rattle.fp_operators.specs.View.{view, members_view}
use Rattle.fp_operators.specs.declared.datum.Datum.{the_lemmas}
use Rattle.fp_operators.proofs.Variants.{view-Object}
use Rattle.fp_targeting.proofs.Turning.{turned}
use Rattle.fp_targeting.proofs.turn.turn_to.Goals as goal

pub returns-in-Object-clause-turned : goal.returns-in-Object-clause-turned
returns-in-Object-clause-turned c = λ context now old.
    let before = ap (λ m. members_view m.entries) c.in-Object.members-is in
    sym (sym (turned old.0 c.args.flag_key.now now (members_view c.in-Object.members.entries)
    (members_view c.set_flag_key.new.members.entries) context
    (λ k of_flag ms h. c.set_flag_key.ensures.turned k of_flag ms (before ∙ h))
    (sym (ap view c.in-Object.is ∙ view-Object c.in-Object.members) ∙ old.1)) ∙ search (rules, the_lemmas, view-Object))
