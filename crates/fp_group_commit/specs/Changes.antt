-- Changes in a batch: whether there is room for it, and the code of a change.
use Rattle.std.specs.Prelude.{◌≡◌, ◌+◌, ◌/◌, ◌<◌, ◌≤◌, ℕ, List, [], ◌∷◌, length, Bool, true}
use Rattle.std.specs.Prelude.{false, refl}
use Rattle.std.specs.Coded.{Coded, coded×, coded_ℕ, coded_list, coded_bool, code_by}
use Rattle.std.specs.List.{AllByRecursion}
use Rattle.fp_edit.specs.Parts.{Part, put, delete}
use Rattle.fp_edit.specs.Edits.{Change, one, set}
use Rattle.fp_edit.specs.Flags.{State}
use Rattle.fp_pending.specs.Following.{Follows}
use Rattle.fp_journal.specs.Numbers.{FRAME}
use Rattle.fp_record.specs.Group.{Group}
use Rattle.fp_record.specs.Numbers.{MOST_EDITS}
use Rattle.fp_slots.specs.State.{HasBegun, IsEarly}
use Rattle.fp_record.specs.Encoding.{batch_len}
use Rattle.fp_recovery.specs.Room as slot
use Rattle.fp_recovery.specs.Stands.{IsAllowed}
use Rattle.fp_group_commit.specs.Store.{StoreState}

-- As many changes as a batch has, its body as short as its slot takes, and room for that with its
-- gate, its length and the gate behind it. While a compaction runs its tail isn't written yet, and
-- with this batch and a last gate it takes half of what a set may take at most, which is a quarter
-- of a slot. Each change has a place in a slot of the version that rules
pub record HasRoom {D : Type 0} (s : StoreState D) (group : Group) : Type 0 where
  pub some : 0 < length group.changes
  pub few : length group.changes ≤ MOST_EDITS
  pub short : batch_len group ≤ s.most
  pub fits : batch_len group + FRAME ≤ s.room
  pub early : IsEarly s.compaction.next
  pub tail : HasBegun s.compaction.next
      → s.compaction.tail + batch_len group + FRAME ≤ s.store.start.limit / 2
  pub allowed : AllByRecursion (IsAllowed s.compaction.version) group.changes

-- the slot that rules has no room for the batch, or is of a version in which a change has no place
abbrev pub HasNoRoom : {D : Type 0} → StoreState D → Group → Type 0
HasNoRoom s group = slot.HasNoRoom s.most s.room s.compaction.version group

-- the group's first revision is the next one, and its changes are accepted one after another
abbrev pub GoesOn : State → Group → Type 0
GoesOn s group = (group.first ≡ s.revision + 1) × Follows s group.changes

-- ---- a change as numbers
abbrev numbers : Part → Bool × (List ℕ × List ℕ)
numbers (put k text) = (true, (k, text))
numbers (delete k) = (false, (k, []))

abbrev of_numbers : Bool × (List ℕ × List ℕ) → Part
of_numbers (true, rest) = put rest.0 rest.1
of_numbers (false, rest) = delete rest.0

pub numbers_back : (p : Part) → of_numbers (numbers p) ≡ p
numbers_back (put k text) = refl
numbers_back (delete k) = refl

abbrev pub coded_part : Coded Part
coded_part = code_by (Bool × (List ℕ × List ℕ))
    (coded× coded_bool (coded× (coded_list coded_ℕ) (coded_list coded_ℕ)))
    numbers of_numbers numbers_back

-- whether it is a set, and its parts
abbrev tagged : Change → Bool × List Part
tagged (one p) = (false, p ∷ [])
tagged (set ps) = (true, ps)

-- of no parts nothing is made but a set of none
abbrev of_tagged : Bool × List Part → Change
of_tagged (true, ps) = set ps
of_tagged (false, []) = set []
of_tagged (false, p ∷ ps) = one p

pub tagged_back : (c : Change) → of_tagged (tagged c) ≡ c
tagged_back (one p) = refl
tagged_back (set ps) = refl

abbrev pub coded_change : Coded Change
coded_change =
    code_by (Bool × List Part) (coded× coded_bool (coded_list coded_part)) tagged of_tagged tagged_back
