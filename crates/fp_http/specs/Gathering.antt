-- What is gathered of a body.
use Rattle.std.specs.Prelude.{◌≡◌, ℕ, List, ◌++◌, Result}
use Rattle.std.specs.Global.{Vec}
use Rattle.futures.specs.Runs.{Runs}
use Rattle.futures.specs.TryRuns.{EndsOrFails}
use Rattle.http_body.specs.declared.frame.Frame.{Frame}
use Rattle.http_body.specs.Frame.{joined_data}

-- behind what came, the data of all frames that still come, in their order; or the first error
abbrev pub Gathers : {E : Type 0} → Runs (Result (Frame (List ℕ)) E) → List ℕ → Result (Vec ℕ) E → Type 0
Gathers source came = EndsOrFails (λ r. r) source (λ frames all. all.items ≡ came ++ joined_data frames)
