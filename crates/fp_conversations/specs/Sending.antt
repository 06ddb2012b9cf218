-- What a subscriber is sent.
use Rattle.std.specs.Prelude.{◌≡◌, ◌<◌, ℕ, List, length, Option, IsSomeAnd, All, map}
use Rattle.std.specs.Prelude.{Result, Ok, Err}
use Rattle.std.specs.Io.KnownBytes.{Appends, Consumes}
use Rattle.fp_documents.specs.Document.{document}
use Rattle.fp_group_commit.specs.Tokens.{FrontState, front_revision, front_set}
use Rattle.fp_publish.specs.Fronts.{Begins}
use Rattle.fp_stream.specs.Frames.{AreNews, Snapshot, has_after, stream_of}
use Rattle.fp_stream.specs.Heads.{IsNewer, longest_body}
use Rattle.fp_stream.specs.Hellos.{Hears, hello_bytes}
use Rattle.fp_stream.specs.declared.hello.Hello.{Hello}
use Rattle.fp_conversations.specs.declared.subscriber.Served.{Served}
use Rattle.fp_conversations.specs.declared.subscriber.Served.TheVariants.{Over, Long}
use Rattle.fp_conversations.specs.declared.subscriber.SubscriberFault.{SubscriberFault}
use Rattle.fp_conversations.specs.declared.subscriber.SubscriberFault.TheVariants as fault

-- the document of the set that a front leads to, and its revision
abbrev pub snapshot_of : FrontState → Snapshot
snapshot_of f = record { revision = front_revision f; document = document (front_set f).flags }

-- Behind what a writer held stand the frames of some fronts from which what was shown goes on, each
-- news to who had that and got those before; now it has the last one
pub record IsSent (shown : Option FrontState) (had has : Hello) (before held : Option (List ℕ))
    : Type 0 where
  pub fronts : List FrontState
  pub each : All (λ f. IsSomeAnd shown (Begins f)) fronts
  pub news : AreNews had (map snapshot_of fronts)
  pub now : has ≡ has_after had (map snapshot_of fronts)
  pub written : Appends before held (stream_of (map snapshot_of fronts))

-- some front from which what was shown goes on is news to who has this, and no frame takes its
-- document
pub record IsTooLong (shown : Option FrontState) (has : Hello) : Type 0 where
  pub front : FrontState
  pub begins : IsSomeAnd shown (Begins front)
  pub news : IsNewer has (front_revision front)
  pub long : longest_body < length (document (front_set front).flags)

-- why the frames of a seat ended where the writer didn't fail: the subscriber gets nothing more, or
-- what is news to it is too long
abbrev pub IsCause : Option FrontState → Hello → Served → Type 0
IsCause shown has (Over gone) = Unit {0}
IsCause shown has Long = IsTooLong shown has

-- A reader gave a hello, and a writer that failed so often before and after got what is news behind
-- it, of what was shown, and nothing of a document that is too long. Where no hello came, or there
-- was no seat, nothing was written; a failure of the writer is counted where one ended it
abbrev pub Serves : Option FrontState → Option (List ℕ) → Option (List ℕ) → Option (List ℕ)
    → Option (List ℕ) → ℕ → ℕ → Result (Unit {0}) SubscriberFault → Type 0
Serves shown reads left before held failed fails (Ok x) = (fails ≡ failed)
    × ((had : Hello) × (has : Hello) × Consumes reads left (hello_bytes had)
    × IsSent shown had has before held)
Serves shown reads left before held failed fails (Err (fault.Hello f)) = (fails ≡ failed)
    × Hears reads left (Err f)
Serves shown reads left before held failed fails (Err fault.SeatsUsed) = (fails ≡ failed)
    × ((had : Hello) × Consumes reads left (hello_bytes had))
Serves shown reads left before held failed fails (Err fault.TooLong) = (fails ≡ failed)
    × ((had : Hello) × (has : Hello) × Consumes reads left (hello_bytes had)
    × IsSent shown had has before held × IsTooLong shown has)
Serves shown reads left before held failed fails (Err fault.Device) = failed < fails
