-- Tags of the replies for all flags, as they are kept for who asks again.
use Rattle.std.specs.Prelude.{◌≡◌, ◌≤◌, ◌<◌, ◌⊎◌, ◌++◌, ℕ, List, [], ◌∷◌, Bool, true, All, Option, Some}
use Rattle.std.specs.Prelude.{IfSome, Ok, codes, length, slice_set}
use Rattle.std.specs.FinMap as map
use Rattle.serde_json.specs.Data.{Data}
use Rattle.serde_json.specs.Written.{compact_text}
use Rattle.fp_definition.specs.Outcome.{IsTimeless}
use Rattle.fp_definition.specs.Resolving.{data_of}
use Rattle.fp_edit.specs.Flags.{State}
use Rattle.fp_documents.specs.declared.flags.Flag.{Flag}
use Rattle.fp_group_commit.specs.Tokens.{FrontState, Identity, front_set}
use Rattle.fp_ofrep.specs.Bulk.{bulk_data}
use Rattle.fp_ofrep.specs.Context.{context_of}
use Rattle.fp_ofrep.specs.Numbers.{LONGEST_KEPT_BODY, MOST_KEPT_TAGS}
use Rattle.fp_ofrep.specs.Route.{bulk, route_of}
use Rattle.fp_ofrep.specs.Tag.{tag_of}
use Rattle.fp_ofrep.specs.declared.keeping.KeptTag.{KeptTag}

-- what none of these flags resolves to depends on the moment
abbrev pub AreTimeless : List (List ℕ × Flag) → Type 0
AreTimeless entries = All (λ e. IsTimeless (data_of e.1.definition)) entries

-- the reply for all flags of a set to a request with this body has this tag at this moment
pub record HasTag (set : State) (body tag : List ℕ) (now : ℕ) : Type 0 where
  pub context : Data
  pub asked : context_of body ≡ Ok context
  pub tagged : tag ≡ tag_of (compact_text (bulk_data set.flags context now))

-- and at any other
abbrev pub IsTagOf : State → List ℕ → List ℕ → Type 0
IsTagOf set body tag = (now : ℕ) → HasTag set body tag now

-- what is kept, if anything, is of this store
abbrev pub IsKeptOf : Option FrontState → Identity → Type 0
IsKeptOf kept store = IfSome kept (λ f. f.store ≡ store)

-- what is kept of the set that a front leads to: a few tags, of short bodies
pub record AreKept (front : FrontState) (timeless : Bool) (kept : List KeptTag) : Type 0 where
  pub rules : timeless ≡ true → AreTimeless (map.entries (front_set front).flags)
  pub tags : All (λ k. IsTagOf (front_set front) k.body.items k.tag.items) kept
  pub few : length kept ≤ MOST_KEPT_TAGS
  pub short : All (λ k. length k.body.items ≤ LONGEST_KEPT_BODY) kept

-- a tag took the place of one, or came behind all where there were no more than this
abbrev pub IsPutAt : List KeptTag → ℕ → KeptTag → List KeptTag → Type 0
IsPutAt before place kept after = ((place < length before) × (after ≡ slice_set before place kept))
    ⊎ ((length before ≤ place) × (after ≡ before ++ kept ∷ []))

-- a request for all flags, whose body is short
pub record AsksForAll (method target : List ℕ) (came : Option (List ℕ)) (body : List ℕ)
    : Type 0 where
  pub posted : method ≡ codes "POST"
  pub all : route_of target ≡ Some bulk
  pub whole : came ≡ Some body
  pub short : length body ≤ LONGEST_KEPT_BODY
