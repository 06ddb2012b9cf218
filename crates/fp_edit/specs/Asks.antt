-- Where reading an edit asks for memory: nowhere else is want of it an answer.
use Rattle.std.specs.Prelude.{Bool, false, ◌&&◌, codes, Option, Some, is_some, is_ok}
use Rattle.std.specs.Prelude.{if◌then◌else◌}
use Rattle.serde_json.specs.Data.{Data, Members, object, array}
use Rattle.serde_json.specs.Events.{items_len}
use Rattle.serde_json.specs.Find.{get}
use Rattle.fp_edit.specs.Changes.{is_count}
use Rattle.fp_edit.specs.Line.{all_known, all_known_in_set, is_set, op_of}

-- an edit of one flag: its members are known, `op` is one, and `key` is there
abbrev pub members_ask : Data → Bool
members_ask d = is_ok (op_of (get (codes "op") d)) && is_some (get (codes "key") d)

abbrev pub part_asks : Data → Bool
part_asks (object ms) = all_known ms && members_ask (object ms)
part_asks d = false

-- a set of changes: its members are known, and `edits` is a list, neither of none nor of too many
abbrev pub list_asks : Option Data → Bool
list_asks (Some (array ds)) = is_count (items_len ds)
list_asks d = false

abbrev pub set_asks : Members → Bool
set_asks ms = all_known_in_set ms && list_asks (get (codes "edits") (object ms))

abbrev pub edit_asks : Data → Bool
edit_asks (object ms) = if is_set (object ms) then set_asks ms else part_asks (object ms)
edit_asks d = false
