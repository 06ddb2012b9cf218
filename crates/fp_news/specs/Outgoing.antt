-- The frames of a subscriber, as bytes that go piece by piece.
use Rattle.std.specs.Prelude.{◌≡◌, ℕ, List, [], ◌++◌, drop, Option, Some, None}
use Rattle.std.specs.Arc.{arc_value}
use Rattle.fp_stream.specs.declared.hello.Hello.{Hello}
use Rattle.fp_stream.specs.Frames.{Snapshot, stream_of, AreNews, has_after}
use Rattle.fp_news.specs.declared.news.News.{Ghosts}
use Rattle.fp_news.specs.declared.outgoing.Sending.{Sending}
use Rattle.fp_news.specs.declared.outgoing.Outgoing.{Outgoing}

module _ {N : Type 0} {g : Ghosts N} where
  -- what is left of a frame that is being sent
  abbrev pub left_of : Option (Sending N g) → List ℕ
  left_of None = []
  left_of (Some s) = drop s.at (s.head ++ (g.shows (arc_value s.news)).document)

  -- what is left of the frame that goes to a subscriber
  abbrev pub rest_of : Outgoing N g → List ℕ
  rest_of o = left_of o.sending

  -- To a subscriber that said this these bytes went. They and what is left are the frames of these
  -- snapshots, each newer than what it had before
  pub record Tells (hello : Hello) (o : Outgoing N g) (went : List ℕ) (begun : List Snapshot)
      : Type 0 where
    -- the bytes that went and those that are left are the frames of news, however they were cut
    pub frames : went ++ rest_of o ≡ stream_of begun
    -- each is newer than the one before, and than the hello
    pub news : AreNews hello begun
    -- the last of them is what the subscriber has once all is sent
    pub has : has_after hello begun ≡ o.has

  -- whatever went to the subscriber before, more of it may have gone, of newer snapshots too
  abbrev pub GoesOnTelling : Outgoing N g → Outgoing N g → Type 0
  GoesOnTelling old new = (hello : Hello) (went : List ℕ) (begun : List Snapshot)
      → Tells hello old went begun
      → (more : List ℕ) × (newer : List Snapshot)
      × Tells hello new (went ++ more) (begun ++ newer)
