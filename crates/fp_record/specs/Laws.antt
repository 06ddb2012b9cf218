-- What follows from the definitions, for every batch and every image.
use Rattle.std.specs.Prelude.{◌≡◌, ℕ, ◌+◌, ◌++◌, List, length}
use Rattle.std.specs.List.{sum_by}
use Rattle.std.specs.FinMap as map
use Rattle.fp_edit.specs.Flags.{Flags, size}
use Rattle.fp_documents.specs.declared.flags.Flag.{Flag}
use Rattle.fp_record.specs.Group.{Group}
use Rattle.fp_record.specs.Numbers.{BATCH_HEAD}
use Rattle.fp_record.specs.WellFormed.{IsBatch, IsImage}
use Rattle.fp_record.specs.Encoding.{encoding_of_change, encoding_of_batch, encoding_of_image}

-- whatever follows it, a batch's spelling is that of no other batch and begins no other spelling
abbrev pub BatchesStandAlone : Type 0
BatchesStandAlone = (v w : Group) (x y : List ℕ) → IsBatch v → IsBatch w
    → encoding_of_batch v ++ x ≡ encoding_of_batch w ++ y → (v ≡ w) × (x ≡ y)

abbrev pub ImagesStandAlone : Type 0
ImagesStandAlone = (v w : List (List ℕ × Flag)) (x y : List ℕ) → IsImage v → IsImage w
    → encoding_of_image v ++ x ≡ encoding_of_image w ++ y → (v ≡ w) × (x ≡ y)

-- a batch takes those of its head and those of its changes
abbrev pub BatchesTakeTheirChanges : Type 0
BatchesTakeTheirChanges = (v : Group)
    → length (encoding_of_batch v)
    ≡ BATCH_HEAD + sum_by (λ c. length (encoding_of_change c)) v.changes

-- the image of a set takes the set's size
abbrev pub ImagesTakeTheirSetsSize : Type 0
ImagesTakeTheirSetsSize =
    (flags : Flags) → length (encoding_of_image (map.entries flags)) ≡ size flags
