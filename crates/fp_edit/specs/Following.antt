-- Edits, whatever their editors expected.
use Rattle.std.specs.Prelude.{List, map}
use Rattle.fp_edit.specs.Parts.{free}
use Rattle.fp_edit.specs.Edits.{Change, one, set, Proposal, single, joint, change_in, proposal_of}
use Rattle.fp_edit.specs.declared.edit.Edit.{Edit}

-- edits without what their editors expected
abbrev pub change_of : Edit → Change
change_of edit = change_in (proposal_of edit)

abbrev pub changes_of : List Edit → List Change
changes_of edits = map change_of edits

-- a change by an editor that expects nothing
abbrev pub unconditional : Change → Proposal
unconditional (one p) = single (free p)
unconditional (set ps) = joint (map free ps)
