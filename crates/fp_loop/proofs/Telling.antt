-- What was told to a subscriber goes on.
use Rattle.std.proofs.Common.{◌++◌, Option, Some, None}
use Rattle.fp_news.specs.declared.news.News.{Ghosts}
use Rattle.fp_news.specs.declared.outgoing.Outgoing.{Outgoing}
use Rattle.fp_news.proofs.Telling.{goes_on, stays}
use Rattle.fp_loop.specs.Subscribers.{TellsOn}

module _ {N : Type 0} {g : Ghosts N} where
  pub nothing_told : (o : Option (Outgoing N g)) → TellsOn o o
  nothing_told None = tt
  nothing_told (Some o) = stays o

  pub tells_on : (a b c : Option (Outgoing N g)) → TellsOn a b → TellsOn b c → TellsOn a c
  tells_on None None None first second = tt
  tells_on None None (Some c) first second = second
  tells_on None (Some b) None first second = absurd second
  tells_on None (Some b) (Some c) first second =
      let y = second first.0 first.1 first.2 first.3 in
      (first.0, first.1 ++ y.0, first.2 ++ y.1, y.2)
  tells_on (Some a) None c first second = absurd first
  tells_on (Some a) (Some b) None first second = absurd second
  tells_on (Some a) (Some b) (Some c) first second = goes_on a b c first second
