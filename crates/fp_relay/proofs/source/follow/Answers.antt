use Rattle.std.proofs.Common.{refl, sym, ap, subst, ◌∙◌}
use Rattle.fp_relay.specs.Ends.{Follows, of_stream}
use Rattle.fp_relay.specs.declared.source.SourceEnd.{SourceEnd}
use Rattle.fp_relay.specs.declared.source.SourceEnd.TheVariants.{Device}
use Rattle.fp_relay.proofs.Followed.{followed-not}
use Rattle.fp_relay.proofs.source.follow.Goals as goal

-- the hello wasn't said
pub returns-in-Err : goal.returns-in-Err
returns-in-Err g c =
    let reads = g.R.Read.remaining c.args.r.now.inner in let last = c.args.last.now in let seen = g.A.Audience.seen c.args.audience.now in
    subst (λ (e : SourceEnd). Follows reads reads last last seen seen e)
    (sym (c.into.ensures ∙ ap of_stream c.in-Err.ensures.fault)) (followed-not reads last seen Device refl)
