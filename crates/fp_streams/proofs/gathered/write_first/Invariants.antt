use Rattle.std.proofs.Common.{◌≡◌, List, ℕ, ◌++◌}
use Rattle.std.specs.Io.KnownBytes.{Appends}
use Rattle.fp_streams.proofs.gathered.write_first.Given as goal

-- what is gone from the rest was appended
abbrev pub invariant-loop : goal.invariant-loop
invariant-loop g l = (done : List ℕ) × (l.first ≡ done ++ l.rest)
    × Appends (g.W.Write.contents l.initial.w) (g.W.Write.contents l.w) done
