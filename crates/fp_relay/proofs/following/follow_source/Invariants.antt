use Rattle.std.proofs.Common.{◌≡◌}
use Rattle.fp_stream.specs.Frames.{has_after}
use Rattle.fp_stream.specs.declared.hello.Hello.TheVariants.{Nothing}
use Rattle.fp_relay.proofs.following.follow_source.Given as goal

-- what was shown last is known
abbrev pub invariant-loop : goal.invariant-loop
invariant-loop g l = l.last ≡ has_after Nothing l.showing.seen.log
