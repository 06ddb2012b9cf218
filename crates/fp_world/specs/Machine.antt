-- The plain machine that a world is a run of. It has no disk, no threads, and no copies of a set.
use Rattle.std.specs.Prelude.{◌≡◌, ◌≢◌, ◌<◌, ◌≤◌, ◌-◌, ℕ, max, List, [], ◌∷◌, ◌++◌, length, take}
use Rattle.std.specs.Prelude.{slice_get, slice_set, Some, option_map, string_bytes}
use Rattle.fp_edit.specs.Edits.{Change}
use Rattle.fp_edit.specs.Flags.{State}
use Rattle.fp_group_commit.specs.Tokens.{FrontState, front_set}
use Rattle.fp_desk.specs.Desk.{log, settled_revision}
use Rattle.fp_stream.specs.Heads.{IsNewer}
use Rattle.fp_stream.specs.declared.hello.Hello.{Hello}
use Rattle.fp_stream.specs.declared.hello.Hello.TheVariants.{Has}
use Rattle.fp_ofrep.specs.Reply.{reply}
use Rattle.fp_ofrep.specs.Response.{Response}
use Rattle.fp_ofrep.specs.Seen.{response_seen}
use Rattle.fp_committer.specs.Commits.{Commits, CommitStep}
use Rattle.fp_world.specs.Events.{ByCommitter, IsAnsweredBy, accepted_by, told_after}
use Rattle.fp_world.specs.declared.event.Answer.{Answer}
use Rattle.fp_world.specs.declared.event.Answer.TheVariants as answer
use Rattle.fp_world.specs.declared.event.Event.{Event}
use Rattle.fp_world.specs.declared.event.Event.TheVariants as event
use Rattle.fp_world.specs.declared.request.Request.{Request}

-- The edits on their way, the revision that is published, what the subscriber of each seat has, and
-- how many evaluators there are
pub record Machine : Type 0 where
  pub commits : Commits
  pub published : ℕ
  pub seats : List Hello
  pub readers : ℕ

-- the first accepted edits, up to the revision that is published; its set is the one after them
abbrev pub published_front : Machine → FrontState
published_front m = record {
  store = m.commits.desk.store;
  edits = take (m.published - m.commits.desk.store.start.revision) (log m.commits.desk);
}

-- what was told, with the published revision
abbrev pub and_published : Machine → Commits
and_published m = record m.commits { told = max m.commits.told m.published }

-- ---- from old, the machine may give this answer to an event and go on to new
-- all that is settled is published, where it isn't
abbrev pub Publishes : Machine → Answer → Machine → Type 0
Publishes old (answer.Published revision) new =
    (old.published ≢ settled_revision old.commits.desk)
    × (revision ≡ settled_revision old.commits.desk) × (new ≡ record old { published = revision })
Publishes old answer.Memory new =
    (old.published ≢ settled_revision old.commits.desk) × (new ≡ old)
Publishes old answer.NotNow new =
    (old.published ≡ settled_revision old.commits.desk) × (new ≡ old)
Publishes old _ new = ⊥

-- the published revision is news to the subscriber of this seat, or it isn't
abbrev pub IsNewsAt : ℕ → Machine → Type 0
IsNewsAt seat m = (has : Hello) × (slice_get m.seats seat ≡ Some has) × IsNewer has m.published

abbrev pub IsNoNewsAt : ℕ → Machine → Type 0
IsNoNewsAt seat m = (has : Hello) × (slice_get m.seats seat ≡ Some has) × ¬ IsNewer has m.published

-- the subscriber of a seat is handed what is published, where that is news
abbrev pub HandsOver : ℕ → Machine → Answer → Machine → Type 0
HandsOver seat old (answer.Handed handed) new = IsNewsAt seat old × (handed ≡ published_front old)
    × (new ≡ record old {
      commits = and_published old;
      seats = slice_set old.seats seat (Has old.published);
    })
HandsOver seat old answer.Nothing new = IsNoNewsAt seat old × (new ≡ old)
HandsOver seat old answer.Memory new = IsNewsAt seat old × (new ≡ old)
HandsOver seat old answer.NotNow new = (length old.seats ≤ seat) × (new ≡ old)
HandsOver seat old _ new = ⊥

-- the reply to a request over a set, at a moment
abbrev pub reply_to : State → Request → ℕ → Response
reply_to set r now = reply set r.method (string_bytes r.target)
    (option_map (λ v. v.items) r.if_none_match) (option_map (λ v. v.items) r.body) now

-- an evaluator replies over what is published
abbrev pub Evaluates : ℕ → Request → ℕ → Machine → Answer → Machine → Type 0
Evaluates reader request now old (answer.Reply revision said) new = (reader < old.readers)
    × (revision ≡ old.published)
    × (response_seen said ≡ reply_to (front_set (published_front old)) request now)
    × (new ≡ record old { commits = and_published old })
Evaluates reader request now old answer.Memory new = (reader < old.readers) × (new ≡ old)
Evaluates reader request now old answer.NotNow new = (old.readers ≤ reader) × (new ≡ old)
Evaluates reader request now old _ new = ⊥

-- what the committer answers
abbrev pub DoesCommit : Event → Machine → Answer → Machine → Type 0
DoesCommit e old a new = ByCommitter e (λ c. IsAnsweredBy a (λ said.
    CommitStep old.commits c said new.commits)) ⊥ × (new ≡ record old { commits = new.commits })

-- any other event is one of the edits' way
abbrev pub Step : Machine → Event → Answer → Machine → Type 0
Step old event.Publish a new = Publishes old a new
Step old (event.Hand seat) a new = HandsOver seat old a new
Step old (event.Evaluate reader request now) a new = Evaluates reader request now old a new
Step old e a new = DoesCommit e old a new

-- the machine may give these answers to these events, one step after another
abbrev pub Run : Machine → List Event → List Answer → Machine → Type 0
Run old [] [] new = new ≡ old
Run old (e ∷ events) (a ∷ answers) new = (mid : Machine) × Step old e a mid
    × Run mid events answers new
Run old [] (a ∷ answers) new = ⊥
Run old (e ∷ events) [] new = ⊥

-- ---- what a list of answers alone says
-- the accepted edits, in their order
abbrev pub accepted_edits : List Event → List Answer → List Change
accepted_edits (e ∷ events) (a ∷ answers) = accepted_by e a ++ accepted_edits events answers
accepted_edits events answers = []

-- the greatest revision told, where this one was told before
abbrev pub told_by : ℕ → List Answer → ℕ
told_by told [] = told
told_by told (a ∷ answers) = told_by (told_after told a) answers
