-- Edits: what they change, and what they propose.
use Rattle.std.specs.Prelude.{List, [], ◌∷◌}
use Rattle.fp_definition.specs.Key.{key_bytes}
use Rattle.fp_edit.specs.Parts.{Part, put, delete, ProposedPart, parts_of}
use Rattle.fp_edit.specs.declared.edit.Edit.{Edit}
use Rattle.fp_edit.specs.declared.edit.Edit.TheVariants.{Put, Delete, Set}

-- one flag is changed, or several are under one revision
pub data Change : Type 0 where
  one : Part → Change
  set : List Part → Change

abbrev pub parts : Change → List Part
parts (one p) = p ∷ []
parts (set ps) = ps

-- the same with what is expected at each key
pub data Proposal : Type 0 where
  single : ProposedPart → Proposal
  joint : List ProposedPart → Proposal

-- without it
abbrev pub change_in : Proposal → Change
change_in (single p) = one p.part
change_in (joint ps) = set (parts_of ps)

-- what an edit of the code proposes
abbrev pub proposal_of : Edit → Proposal
proposal_of (Put key flag expect) =
    single (record { part = put (key_bytes key) flag; expect = expect })
proposal_of (Delete key expect) =
    single (record { part = delete (key_bytes key); expect = expect })
proposal_of (Set changes) = joint changes
