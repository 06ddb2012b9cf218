-- Connections of a loop.
use Rattle.std.specs.Prelude.{◌≢◌}
use Rattle.std.specs.Box.{box_value}
use Rattle.fp_news.specs.declared.news.News.{Ghosts}
use Rattle.fp_news.specs.declared.newest.Newest.{Newest}
use Rattle.fp_loop.specs.declared.member.Kind.{Kind}
use Rattle.fp_loop.specs.declared.member.Kind.TheVariants.{Requests, Frames}
use Rattle.fp_loop.specs.declared.times.Waiting.TheVariants.{Leaving}
use Rattle.fp_loop.specs.Peers as peers
use Rattle.fp_loop.specs.Subscribers as subscribers

-- nothing is left to do for it before its socket is ready or there are newer news; of who is only
-- seen off nothing is said
abbrev pub CanDoNothing : {N : Type 0} {news : Ghosts N} → Kind N news → Newest N → Type 0
CanDoNothing (Requests p) shown =
    (box_value p).waiting ≢ Leaving → peers.CanDoNothing (box_value p)
CanDoNothing (Frames s) shown = subscribers.CanDoNothing (box_value s) shown

-- who could do nothing still can't
abbrev pub StaysSo : {N : Type 0} {news : Ghosts N} → Kind N news → Kind N news → Type 0
StaysSo {N} old new = (shown : Newest N) → CanDoNothing old shown → CanDoNothing new shown
