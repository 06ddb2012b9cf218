-- Which edits a set admits, and what they come to.
use Rattle.std.specs.Prelude.{◌≡◌, ℕ, suc, ◌+◌, ◌==◌, Bool, true, false, ◌&&◌, nat_le, nat_lt}
use Rattle.std.specs.Prelude.{List, [], ◌∷◌, ◌++◌, Option, Some, None, is_some, is_none, option_map}
use Rattle.std.specs.Prelude.{if◌then◌else◌}
use Rattle.std.specs.FinMap as map
use Rattle.fp_base.specs.Tests.{first_failed}
use Rattle.fp_edit.specs.Parts.{Part, put, delete, part_key, any_put, ProposedPart}
use Rattle.fp_edit.specs.Edits.{Change, parts, Proposal, single, joint, change_in}
use Rattle.fp_edit.specs.Flags.{Flags, State, size}
use Rattle.fp_edit.specs.Numbers.{REVISIONS_END}
use Rattle.fp_edit.specs.Numbers.{MOST_FLAGS}
use Rattle.fp_edit.specs.declared.edit.Expect.{Expect}
use Rattle.fp_edit.specs.declared.edit.Expect.TheVariants.{Any, Absent, At}
use Rattle.fp_edit.specs.declared.edit.EditFault.{EditFault}
use Rattle.fp_edit.specs.declared.edit.EditFault.TheVariants.{Conflict, ConflictIn, SetTooLarge}
use Rattle.fp_edit.specs.declared.edit.EditFault.TheVariants.{RevisionsUsed, Memory}

-- the revision that changed a key's flag last, where there is one
abbrev pub changed_at : State → List ℕ → Option ℕ
changed_at s k = option_map (λ f. f.changed) (map.get s.flags k)

-- whether a key stands as expected
abbrev pub is_met : Expect → Option ℕ → Bool
is_met Any current = true
is_met Absent current = is_none current
is_met (At n) None = false
is_met (At n) (Some current) = current == n

-- only what is there can be deleted
abbrev pub can_change : Part → Option ℕ → Bool
can_change (put k text) current = true
can_change (delete k) current = is_some current

-- the flags after a part of a change; a put is marked with the revision that the change makes
abbrev pub part_after : ℕ → Flags → Part → Flags
part_after revision flags (put k text) =
    map.insert flags k (record { definition = text; changed = revision })
part_after revision flags (delete k) = map.remove flags k

-- and after several of them
abbrev pub parts_after : ℕ → Flags → List Part → Flags
parts_after revision flags [] = flags
parts_after revision flags (p ∷ ps) = parts_after revision (part_after revision flags p) ps

abbrev pub flags_after : State → Change → Flags
flags_after s c = parts_after (s.revision + 1) s.flags (parts c)

-- the state after a change
abbrev pub next : State → Change → State
next s c = record { flags = flags_after s c; revision = s.revision + 1; limit = s.limit }

-- within the limits of the number of flags and of the size
abbrev pub is_within : Flags → ℕ → Bool
is_within flags limit = nat_le (map.len flags) MOST_FLAGS && nat_le (size flags) limit

-- the limits bind what a change leads to in which a flag is put
abbrev pub has_room : State → Change → Bool
has_room s c = if any_put (parts c) then is_within (flags_after s c) s.limit else true

-- there is a revision behind the set's own
abbrev pub has_revision : State → Bool
has_revision s = nat_lt (s.revision + 1) REVISIONS_END

-- what is present at a part's key
abbrev pub present : State → ProposedPart → Option ℕ
present s p = changed_at s (part_key p.part)

-- its key is as its editor expects, and it can be changed so
abbrev pub is_as_expected : State → ProposedPart → Bool
is_as_expected s p = can_change p.part (present s p) && is_met p.expect (present s p)

-- each of a set's keys has to be as its editor expects, before anything is changed
abbrev pub keys_from : State → ℕ → List ProposedPart → List (Bool × EditFault)
keys_from s at [] = []
keys_from s at (p ∷ ps) = (is_as_expected s p, ConflictIn at (present s p)) ∷ keys_from s (suc at) ps

abbrev pub keys : State → Proposal → List (Bool × EditFault)
keys s (single p) = (is_as_expected s p, Conflict (present s p)) ∷ []
keys s (joint ps) = keys_from s 0 ps

-- what an edit has to meet, in the order of the tests, each with the fault where it doesn't hold
abbrev pub tests : State → Proposal → List (Bool × EditFault)
tests s p = keys s p
    ++ (has_room s (change_in p), SetTooLarge)
    ∷ (has_revision s, RevisionsUsed)
    ∷ []

-- the first test that isn't met, if there is one
abbrev pub refusal : State → Proposal → Option EditFault
refusal s p = first_failed (tests s p)

pub data Outcome : Type 0 where
  accepted : State → Outcome
  refused : EditFault → Outcome

-- what an edit comes to: the state after its change where each test is met, and else the fault of
-- the first that isn't
abbrev pub Admits : State → Proposal → Outcome → Type 0
Admits s p (accepted t) = (refusal s p ≡ None) × (t ≡ next s (change_in p))
Admits s p (refused e) = refusal s p ≡ Some e

-- an answered fault is that of the relation; memory is wanted only where a flag is put, by an edit that
-- every test lets through
abbrev pub IsRefused : State → Proposal → EditFault → Type 0
IsRefused s p Memory = (refusal s p ≡ None) × (any_put (parts (change_in p)) ≡ true)
IsRefused s p e = Admits s p (refused e)

-- the same where want of memory may refuse any edit that every test lets through
abbrev pub IsRefusedOrWanting : State → Proposal → EditFault → Type 0
IsRefusedOrWanting s p Memory = refusal s p ≡ None
IsRefusedOrWanting s p (Conflict current) = refusal s p ≡ Some (Conflict current)
IsRefusedOrWanting s p (ConflictIn at current) = refusal s p ≡ Some (ConflictIn at current)
IsRefusedOrWanting s p SetTooLarge = refusal s p ≡ Some SetTooLarge
IsRefusedOrWanting s p RevisionsUsed = refusal s p ≡ Some RevisionsUsed
