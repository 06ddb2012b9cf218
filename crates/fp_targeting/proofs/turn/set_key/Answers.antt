use Rattle.std.proofs.Common.{ap, codes, sym, ◌∙◌, is_some, unwrap_or, rules}
use Rattle.std.specs.Option.{option_copied_mut}
use mathlib.Core.Bool.{true≢false}
use Rattle.fp_operators.specs.Data.{put, text}
use Rattle.fp_operators.specs.View.{view, members_view}
use Rattle.fp_operators.specs.declared.datum.Datum.TheVariants.{Null}
use Rattle.fp_targeting.proofs.Members.{is_put}
use Rattle.fp_targeting.proofs.turn.set_key.Goals as goal

pub returns-in-Some-clause-named : goal.returns-in-Some-clause-named
returns-in-Some-clause-named c = λ k ms h.
    let there = is_put (codes "flagKey") c.args.members.now.entries (text k) ms h in
    let same = ap (λ o. view (unwrap_or o Null)) (sym (ap option_copied_mut c.in-Some.is) ∙ c.get_mut.ensures.value ∙ there.1) ∙ there.2 in
    ap members_view (c.get_mut.follows.holds c.set_text.new.key).0
    ∙ there.3 c.set_text.new.key
    ∙ ap (λ d. put (codes "flagKey") d ms) (c.set_text.ensures.text k same)

pub returns-in_default-clause-named : goal.returns-in_default-clause-named
returns-in_default-clause-named c = λ k ms h.
    let there = is_put (codes "flagKey") c.args.members.now.entries (text k) ms h in
    absurd (true≢false (ap is_some (sym there.1 ∙ sym c.get_mut.ensures.value) ∙ search rules))
