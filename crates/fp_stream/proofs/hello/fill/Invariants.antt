use Rattle.std.proofs.Common.{◌≡◌, ◌-◌, ◌≤◌, take}
use Rattle.std.specs.Io.KnownBytes.{Consumes}
use Rattle.fp_stream.specs.declared.hello.TheConstants.{HELLO}
use Rattle.fp_stream.proofs.hello.fill.Given as goal

abbrev pub invariant-bytes : goal.invariant-bytes
invariant-bytes g l = record {
  within : l.len ≤ HELLO;
  read : Consumes (g.R.Read.remaining l.fn.r.inner) (g.R.Read.remaining l.r.inner) (take l.len l.bytes);
  counted : l.r.failures ≡ l.fn.r.failures;
}

abbrev pub decreases-bytes : goal.decreases-bytes
decreases-bytes g l = HELLO - l.len
