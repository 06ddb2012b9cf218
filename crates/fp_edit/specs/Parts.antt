-- Changes to one flag each, and what their editors expect to find there.
use Rattle.std.specs.Prelude.{ℕ, List, [], ◌∷◌, map, Bool, true, false, ◌||◌}
use Rattle.fp_definition.specs.Key.{key_bytes}
use Rattle.fp_edit.specs.declared.edit.Change as code
use Rattle.fp_edit.specs.declared.edit.Change.TheVariants as variant
use Rattle.fp_edit.specs.declared.edit.Expect.{Expect}
use Rattle.fp_edit.specs.declared.edit.Expect.TheVariants.{Any}

-- a key gets a definition, given by its canonical text; or a key's flag goes
pub data Part : Type 0 where
  put : List ℕ → List ℕ → Part
  delete : List ℕ → Part

abbrev pub part_key : Part → List ℕ
part_key (put k text) = k
part_key (delete k) = k

abbrev pub is_put : Part → Bool
is_put (put k text) = true
is_put (delete k) = false

-- some flag is put
abbrev pub any_put : List Part → Bool
any_put [] = false
any_put (p ∷ ps) = is_put p || any_put ps

-- a change to one flag, and what is expected at its key
pub record ProposedPart : Type 0 where
  pub part : Part
  pub expect : Expect

abbrev pub parts_of : List ProposedPart → List Part
parts_of ps = map (λ p. p.part) ps

-- by an editor that expects nothing
abbrev pub free : Part → ProposedPart
free p = record { part = p; expect = Any }

-- what a change of the code proposes, and the keys of several
abbrev pub proposed_of : code.Change → ProposedPart
proposed_of (variant.Put key flag expect) =
    record { part = put (key_bytes key) flag; expect = expect }
proposed_of (variant.Delete key expect) =
    record { part = delete (key_bytes key); expect = expect }

abbrev pub keys_of : List code.Change → List (List ℕ)
keys_of changes = map part_key (parts_of (map proposed_of changes))
