-- How a loop and its service go on.
use Rattle.std.specs.Prelude.{◌≡◌, List, [], ◌∷◌}
use Rattle.std.specs.Arc.{arc_value}
use Rattle.http_server.specs.Exchange.{Call}
use Rattle.fp_stream.specs.declared.hello.Hello.{Hello}
use Rattle.fp_stream.specs.declared.hello.Hello.TheVariants.{Has}
use Rattle.fp_stream.specs.Frames.{Snapshot}
use Rattle.fp_stream.specs.Heads.{IsNewer}
use Rattle.fp_news.specs.declared.news.News.{Ghosts}
use Rattle.fp_loop.specs.declared.turning.Loop.{Loop}
use Rattle.fp_news.specs.Newest.{had}
use Rattle.fp_loop.specs.Talks.{Answering}

-- how a service is informed: its states before and after, and between them news
abbrev pub Informing : Type 0 → Type 0 → Type 1
Informing S N = S → N → S → Type 0

-- what happens to a service: it is called, or it is informed
pub data Step (N : Type 0) : Type 0 where
  Called : Call → Step N
  Told : N → Step N

-- it goes on by calls and news, in this order
abbrev pub Course : {S N : Type 0} → Answering S → Informing S N → S → List (Step N) → S
    → Type 0
Course answers informs old [] new = new ≡ old
Course {S} answers informs old (Called c ∷ steps) new =
    (next : S) × answers old c.0 c.1 next × Course answers informs next steps new
Course {S} answers informs old (Told n ∷ steps) new =
    (next : S) × informs old n next × Course answers informs next steps new

-- each of the news is newer than those before, from what one had to what one has then
abbrev pub Rise : {N : Type 0} → (N → Snapshot) → Hello → List (Step N) → Hello → Type 0
Rise shows before [] after = after ≡ before
Rise shows before (Called c ∷ steps) after = Rise shows before steps after
Rise shows before (Told n ∷ steps) after =
    IsNewer before (shows n).revision × Rise shows (Has (shows n).revision) steps after

module _ {S N : Type 0} {news : Ghosts N} where
  -- what a loop shows, as a subscriber says it
  abbrev pub shown_by : Loop S N news → Hello
  shown_by l = had (λ n. news.shows (arc_value n)) l.shown.news

  -- The service of a loop was called, and informed of just what the loop shows from then on, each
  -- time of newer news
  pub record RunsOn (answers : Answering S) (informs : Informing S N) (old new : Loop S N news)
      : Type 0 where
    -- calls and news, in some order
    pub steps : List (Step N)
    -- by these the service went on, and by nothing else
    pub course : Course answers informs old.service.service steps new.service.service
    -- each of the news is newer than what was shown before it, and the last is what is shown in the
    -- end
    pub rise : Rise news.shows (shown_by old) steps (shown_by new)

  -- neither its service nor what it shows changed
  pub record KeepsOn (old new : Loop S N news) : Type 0 where
    pub service : new.service.service ≡ old.service.service
    pub shown : new.shown ≡ old.shown
