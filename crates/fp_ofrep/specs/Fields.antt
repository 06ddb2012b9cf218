-- Fields of one name as one list.
use Rattle.std.specs.Prelude.{ℕ, List, [], ◌∷◌, Option, Some, None, codes}
use Rattle.std.specs.List.{join_by}
use Rattle.http_header.specs.FieldValue.{FieldValue}

-- the values with a comma between; none where there is no field
abbrev pub list_of : List FieldValue → Option (List ℕ)
list_of [] = None
list_of (first ∷ more) = Some (join_by (λ v. v.bytes) (codes ", ") (first ∷ more))
