-- Changes that follow one another, whatever their editors expected.
use Rattle.std.specs.Prelude.{◌≡◌, List, [], ◌∷◌, None}
use Rattle.fp_edit.specs.Admits.{next, refusal}
use Rattle.fp_edit.specs.Edits.{Change}
use Rattle.fp_edit.specs.Flags.{State}
use Rattle.fp_edit.specs.Following.{changes_of, unconditional}
use Rattle.fp_edit.specs.Log.{after_all}
use Rattle.fp_edit.specs.declared.edit.Edit.{Edit}

-- each change is accepted by the set that those before it left
abbrev pub Follows : State → List Change → Type 0
Follows s [] = Unit {0}
Follows s (c ∷ cs) = (refusal s (unconditional c) ≡ None) × Follows (next s c) cs

-- the set behind edits that are ahead of it, and behind some more
abbrev pub set_behind : State → List Edit → List Edit → State
set_behind s ahead before = after_all (after_all s (changes_of ahead)) (changes_of before)
