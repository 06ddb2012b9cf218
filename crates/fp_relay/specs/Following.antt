-- What is shown of snapshots that come.
use Rattle.std.specs.Prelude.{◌≡◌, ℕ, List, [], ◌∷◌, ◌++◌, ◌≤◌, Bool, true, length, nat_lt}
use Rattle.std.specs.Prelude.{if◌then◌else◌}
use Rattle.fp_stream.specs.declared.hello.Hello.{Hello}
use Rattle.fp_stream.specs.declared.hello.Hello.TheVariants.{Nothing, Has}
use Rattle.fp_stream.specs.Frames.{Snapshot, has_after}
use Rattle.fp_stream.specs.Heads.{longest_body}

-- a revision is above the one that was shown last
abbrev pub is_news : Hello → ℕ → Bool
is_news Nothing revision = true
is_news (Has before) revision = nat_lt before revision

-- of snapshots in turn, those that are above the one shown last, and above each that was shown since
abbrev pub news : Hello → List Snapshot → List Snapshot
news last [] = []
news last (s ∷ ss) =
    if is_news last s.revision then s ∷ news (Has s.revision) ss else news last ss

-- a frame can carry each
abbrev pub AreShort : List Snapshot → Type 0
AreShort [] = Unit {0}
AreShort (s ∷ ss) = (length s.document ≤ longest_body) × AreShort ss

-- the news of some snapshots were shown to who was shown `old`, and then `new`
pub record Shows (last now : Hello) (old new : List Snapshot) (of : List Snapshot) : Type 0 where
  pub shown : new ≡ old ++ news last of
  pub latest : now ≡ has_after last (news last of)

-- so of the first of these snapshots
pub record ShowsFront (last now : Hello) (old new : List Snapshot) (of : List Snapshot)
    : Type 0 where
  pub front : List Snapshot
  pub behind : List Snapshot
  pub parts : front ++ behind ≡ of
  pub shows : Shows last now old new front
