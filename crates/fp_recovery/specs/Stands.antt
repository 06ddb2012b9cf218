-- What the bytes of a disk stand for: a set of flags at a revision.
use Rattle.std.specs.Prelude.{◌≡◌, ◌<◌, ◌≤◌, ◌+◌, ◌/◌, ◌^◌, ℕ, List, [], ◌∷◌, ◌++◌, length}
use Rattle.std.specs.List.{AllByRecursion}
use Rattle.std.specs.FinMap as map
use Rattle.fp_edit.specs.Flags.{State, total_cost}
use Rattle.fp_documents.specs.declared.flags.Flag.{Flag}
use Rattle.fp_documents.specs.Numbers.{IMAGE_HEAD}
use Rattle.fp_edit.specs.Edits.{Change, one, set}
use Rattle.fp_edit.specs.Admits.{Admits, accepted}
use Rattle.fp_edit.specs.Numbers.{REVISIONS_END}
use Rattle.fp_edit.specs.Following.{unconditional}
use Rattle.fp_journal.specs.Chain.{spell}
use Rattle.fp_journal.specs.Reading.{Reads}
use Rattle.fp_journal.specs.State.{AllShort}
use Rattle.fp_layout.specs.Size.{Side, most_in, other_side, slot_of}
use Rattle.fp_layout.specs.Layout.{IsHeader}
use Rattle.fp_slots.specs.Head.{IsVersion, head_text}
use Rattle.fp_slots.specs.Numbers.{FIRST_VERSION}
use Rattle.fp_slots.specs.Rules.{RulesWith}
use Rattle.fp_record.specs.Group.{Group}
use Rattle.fp_record.specs.WellFormed.{IsBatch, IsImage}
use Rattle.fp_record.specs.Encoding.{encoding_of_batch, encoding_of_image}

-- ---- an image
-- an image can be that of a set at this revision, whose image may take this many bytes
pub record IsImageAt (base limit : ℕ) (image : List (List ℕ × Flag)) : Type 0 where
  pub numbered : base < REVISIONS_END
  pub changed : AllByRecursion (λ f. f.1.changed ≤ base) image
  pub within : IMAGE_HEAD + total_cost image ≤ limit

-- the bytes are the image of the set, which is at this revision and has this limit
pub record IsImageOf (base limit : ℕ) (bytes : List ℕ) (s : State) : Type 0 where
  pub lawful : IsImage (map.entries s.flags)
  pub spelled : bytes ≡ encoding_of_image (map.entries s.flags)
  pub here : IsImageAt base limit (map.entries s.flags)
  pub revision_is : s.revision ≡ base
  pub limit_is : s.limit ≡ limit

-- ---- a batch
-- each change is accepted by the set that those before it left, and the last leaves t
abbrev pub Leads : State → List Change → State → Type 0
Leads s [] t = t ≡ s
Leads s (c ∷ cs) t = (u : State) × Admits s (unconditional c) (accepted u) × Leads u cs t

-- a change may stand in a slot of this version: in one of the first no set of changes does
abbrev pub IsAllowed : ℕ → Change → Type 0
IsAllowed version (one part) = Unit {0}
IsAllowed version (set parts) = FIRST_VERSION < version

-- the bytes are a batch in a slot of this version, whose first revision is the one behind the
-- set's, and whose changes lead from the set to t
pub record TakesBatch (version : ℕ) (s : State) (bytes : List ℕ) (t : State) : Type 0 where
  pub group : Group
  pub lawful : IsBatch group
  pub allowed : AllByRecursion (IsAllowed version) group.changes
  pub spelled : bytes ≡ encoding_of_batch group
  pub follows : group.first ≡ s.revision + 1
  pub leads : Leads s group.changes t

-- ---- a slot
-- The text of a slot, up to the closed gate behind its last batch: a head with the image of a set,
-- and batches that lead from that set to s, each from where the one before it led
pub record Spells (size : ℕ) (text : List ℕ) (s : State) : Type 0 where
  pub version : ℕ
  pub generation : ℕ
  pub base : ℕ
  pub image : List ℕ
  pub first : State
  pub batches : List (List ℕ)
  pub text_is : text ≡ head_text version generation base image ++ spell batches
  pub known : IsVersion version
  pub numbered : generation < 2 ^ 64
  pub small : length image ≤ size / 2
  pub image_is : IsImageOf base (size / 2) image first
  pub short : AllShort (most_in size) batches
  pub leads : Reads (TakesBatch version) first batches s

-- ---- a disk
-- a header, and one of the two slots rules, with a text that spells s
pub record StandsFor (c : List ℕ) (s : State) : Type 0 where
  pub size : ℕ
  pub side : Side
  pub text : List ℕ
  pub header : IsHeader c size
  pub tells : RulesWith (slot_of size side) (slot_of size (other_side side)) text c
  pub spells : Spells size text s

-- the place of the closed gate behind the text by which bytes stand for a set
abbrev pub gate_of : {c : List ℕ} {s : State} → StandsFor c s → ℕ
gate_of stands = (slot_of stands.size stands.side).start + length stands.text
