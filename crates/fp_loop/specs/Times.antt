-- Limits of time.
use Rattle.std.specs.Prelude.{ℕ, ◌+◌, ◌≤◌, Option, Some, None}
use Rattle.fp_loop.specs.declared.times.Limits.{Limits}
use Rattle.fp_loop.specs.declared.times.Waiting.{Waiting}
use Rattle.fp_loop.specs.declared.times.Waiting.TheVariants as waiting

-- how long one may wait for this, if there is a limit
abbrev pub limit_of : Limits → Waiting → Option ℕ
limit_of limits waiting.Request = Some limits.idle
limit_of limits waiting.Rest = Some limits.request
limit_of limits waiting.Taker = Some limits.reply
limit_of limits waiting.Leaving = Some limits.leaving
limit_of limits waiting.News = None

-- who has waited since then is at the limit now, or past it
abbrev pub IsOver : Option ℕ → ℕ → ℕ → Type 0
IsOver (Some limit) since now = since + limit ≤ now
IsOver None since now = ⊥
