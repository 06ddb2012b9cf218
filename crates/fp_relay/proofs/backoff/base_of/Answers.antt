use Rattle.std.proofs.Common.{◌≡◌, ◌≤◌, ℕ, arith}
use Rattle.std.proofs.Math.Pow.{pow_mono}
use Rattle.fp_relay.specs.Backoff.{base}
use Rattle.fp_relay.proofs.backoff.base_of.Goals as goal

late : (n : ℕ) → 6 ≤ n → 5000000000 ≡ base n
late n h = let big = pow_mono {i = 6} {j = n} h in omega (arith, big)

pub returns-in_default : goal.returns-in_default
returns-in_default c = late c.args.failures (omega arith)
