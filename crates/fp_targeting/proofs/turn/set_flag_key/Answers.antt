use Rattle.std.proofs.Common.{ap, codes, sym, ◌∙◌, is_some, unwrap_or, rules}
use Rattle.std.specs.Option.{option_copied_mut}
use mathlib.Core.Bool.{true≢false}
use Rattle.fp_operators.specs.Data.{object, put, text}
use Rattle.fp_operators.specs.View.{view, members_view}
use Rattle.fp_operators.specs.declared.datum.Datum.TheVariants.{Null}
use Rattle.fp_targeting.proofs.Members.{is_put}
use Rattle.fp_targeting.proofs.turn.set_flag_key.Goals as goal

pub returns-in-Some-clause-turned : goal.returns-in-Some-clause-turned
returns-in-Some-clause-turned c = λ k of_flag ms h.
    let there = is_put (codes "$flagd") c.args.members.now.entries (object (put (codes "flagKey") (text k) of_flag)) ms h in
    let same = ap (λ o. view (unwrap_or o Null)) (sym (ap option_copied_mut c.in-Some.is) ∙ c.get_mut.ensures.value ∙ there.1) ∙ there.2 in
    ap members_view (c.get_mut.follows.holds c.name_flag.new.flag).0
    ∙ there.3 c.name_flag.new.flag
    ∙ ap (λ d. put (codes "$flagd") d ms) (c.name_flag.ensures.named k of_flag same)

pub returns-in_default-clause-turned : goal.returns-in_default-clause-turned
returns-in_default-clause-turned c = λ k of_flag ms h.
    let there = is_put (codes "$flagd") c.args.members.now.entries (object (put (codes "flagKey") (text k) of_flag)) ms h in
    absurd (true≢false (ap is_some (sym there.1 ∙ sym c.get_mut.ensures.value) ∙ search rules))
