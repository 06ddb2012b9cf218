-- The parts of edits, lent by whoever has them.
use Rattle.std.specs.Prelude.{ℕ, ◌≤◌, ◌≡◌, List, [], ◌∷◌, length, map, Option, Some, None, true}
use Rattle.std.specs.Borrow.{Bor}
use Rattle.fp_definition.specs.Key.{key_bytes}
use Rattle.fp_documents.specs.declared.flags.Flag.{Flag}
use Rattle.fp_edit.specs.Changes.{are_distinct}
use Rattle.fp_edit.specs.Edits.{Change, parts, Proposal, single, joint, change_in}
use Rattle.fp_edit.specs.Numbers.{MOST_CHANGES}
use Rattle.fp_edit.specs.Parts.{Part, put, delete, part_key, ProposedPart, proposed_of}
use Rattle.fp_edit.specs.declared.edit.EditFault.{EditFault}
use Rattle.fp_edit.specs.declared.edit.EditFault.TheVariants.{Conflict, ConflictIn}
use Rattle.fp_edit.specs.declared.lent.EditParts.{EditParts}
use Rattle.fp_edit.specs.declared.lent.EditParts.TheVariants.{One, Set}
use Rattle.fp_edit.specs.declared.lent.LentPart.{LentPart}

-- a key's flag gets this definition, or goes where there is none
abbrev pub part_with : List ℕ → Option (Bor (List ℕ)) → Part
part_with k None = delete k
part_with k (Some text) = put k text.now

abbrev pub lent : LentPart → ProposedPart
lent p = record { part = part_with (key_bytes p.key.now) p.flag; expect = p.expect }

-- what several of them propose together
abbrev pub lent_by : EditParts → Proposal
lent_by (One p) = single (lent p)
lent_by (Set changes) = joint (map proposed_of changes.now)

abbrev pub lent_change : EditParts → Change
lent_change e = change_in (lent_by e)

abbrev pub lent_parts : EditParts → List Part
lent_parts e = parts (lent_change e)

-- the parts of a proposal, and the fault where the key of the one at a place isn't as expected
abbrev pub proposed : Proposal → List ProposedPart
proposed (single p) = p ∷ []
proposed (joint ps) = ps

abbrev pub conflict_at : Proposal → ℕ → Option ℕ → EditFault
conflict_at (single p) at current = Conflict current
conflict_at (joint ps) at current = ConflictIn at current

-- they are no more than a set has, each of another key
pub record AreApart (ps : List Part) : Type 0 where
  pub few : length ps ≤ MOST_CHANGES
  pub distinct : are_distinct (map part_key ps) ≡ true

-- what a part leaves at its key
abbrev pub left_at : ℕ → Part → Option Flag
left_at r (put k text) = Some (record { definition = text; changed = r })
left_at r (delete k) = None
