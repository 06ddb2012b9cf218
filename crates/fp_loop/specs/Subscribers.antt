-- Connections for frames.
use Rattle.std.specs.Prelude.{◌≡◌, ℕ, List, [], Option, Some, None, IsFalse, IsTrue}
use Rattle.std.specs.Arc.{arc_value}
use Rattle.fp_stream.specs.declared.hello.Hello.{Hello}
use Rattle.fp_stream.specs.Frames.{Snapshot}
use Rattle.fp_news.specs.declared.news.News.{Ghosts}
use Rattle.fp_news.specs.declared.newest.Newest.{Newest}
use Rattle.fp_news.specs.declared.outgoing.Outgoing.{Outgoing}
use Rattle.fp_loop.specs.declared.subscriber.Subscriber.{Subscriber}
use Rattle.fp_news.specs.Newest.{had, Rises}
use Rattle.fp_news.specs.Outgoing.{GoesOnTelling, Tells, rest_of}

-- who was heard is told on, and who wasn't is told from the hello on
abbrev pub TellsOn : {N : Type 0} {news : Ghosts N} → Option (Outgoing N news)
    → Option (Outgoing N news) → Type 0
TellsOn (Some old) (Some new) = GoesOnTelling old new
TellsOn (Some old) None = ⊥
TellsOn None (Some new) = (hello : Hello) × (more : List ℕ) × (newer : List Snapshot)
    × Tells hello new more newer
TellsOn None None = Unit {0}

-- Who was heard was sent all of its frames, and has what is shown or newer, by its hello or by the
-- last of them; who wasn't heard has nothing to be sent
abbrev pub HasAll : {N : Type 0} {news : Ghosts N} → Option (Outgoing N news) → Newest N → Type 0
HasAll None shown = Unit {0}
HasAll {N} {news} (Some o) shown =
    (rest_of o ≡ []) × Rises (had (λ n. news.shows (arc_value n)) shown.news) o.has

-- it has all that is shown, or its socket takes nothing; and nothing more came from it
pub record CanDoNothing {N : Type 0} {news : Ghosts N} (s : Subscriber N news) (shown : Newest N)
    : Type 0 where
  pub says : IsTrue s.socket.may_write → HasAll s.outgoing shown
  pub hears : IsFalse s.socket.may_read
