-- How long spellings are.
use Rattle.std.proofs.Common.{◌≡◌, ℕ, ◌+◌, List, [], ◌∷◌, ◌++◌, length, refl, arith}
use Rattle.std.specs.Int.{w16, w32, w64, to_be_bytes}
use Rattle.std.specs.List.{flat_map, sum_by}
use Rattle.std.proofs.lemmas.List.{length-append}
use Rattle.std.proofs.lemmas.List.Concat.{flat_map-cons, length-flat_map}
use Rattle.std.proofs.lemmas.List.Sums.{sum_by-cons}
use Rattle.fp_edit.specs.Changes.{part_len, set_len}
use Rattle.fp_edit.specs.Edits.{one, set}
use Rattle.fp_edit.specs.Flags.{total_cost}
use Rattle.fp_edit.specs.Parts.{Part, put, delete}
use Rattle.fp_documents.specs.declared.flags.Flag.{Flag}
use Rattle.fp_record.specs.Group.{Group}
use Rattle.fp_record.specs.Encoding.{encoding_of_key, encoding_of_definition, encoding_of_part, encoding_of_change}
use Rattle.fp_record.specs.Encoding.{encoding_of_batch, encoding_of_flag, encoding_of_image}

length-encoding_of_key : (key : List ℕ) → length (encoding_of_key key) ≡ 2 + length key
unfolding encoding_of_key
length-encoding_of_key key = length-append (to_be_bytes w16 (length key)) key

length-encoding_of_definition : (text : List ℕ) → length (encoding_of_definition text) ≡ 4 + length text
unfolding encoding_of_definition
length-encoding_of_definition text = length-append (to_be_bytes w32 (length text)) text

length-part : (part : Part) → length (encoding_of_part part) ≡ part_len part
unfolding encoding_of_part
length-part (put key text) = omega (
  arith,
  length-append (encoding_of_key key) (encoding_of_definition text),
  length-encoding_of_key key,
  length-encoding_of_definition text,
)
length-part (delete key) = omega (arith, length-encoding_of_key key)

length-parts : (parts : List Part) → length (flat_map encoding_of_part parts) ≡ sum_by part_len parts
length-parts [] = refl
length-parts (part ∷ parts) = rw flat_map-cons
    (omega (
      arith,
      length-append (encoding_of_part part) (flat_map encoding_of_part parts),
      length-part part,
      length-parts parts,
      sum_by-cons part_len part parts,
    ))

pub length-one : (part : Part) → length (encoding_of_change (one part)) ≡ part_len part
unfolding encoding_of_change
length-one part = length-part part

pub length-set : (parts : List Part) → length (encoding_of_change (set parts)) ≡ set_len parts
unfolding encoding_of_change
length-set parts = omega (arith, length-append (to_be_bytes w16 (length parts)) (flat_map encoding_of_part parts), length-parts parts)

pub length-encoding_of_batch : (v : Group) → length (encoding_of_batch v) ≡ 10 + sum_by (λ c. length (encoding_of_change c)) v.changes
unfolding encoding_of_batch
length-encoding_of_batch v =
    let all = flat_map encoding_of_change v.changes in
    omega (
      arith,
      length-append (to_be_bytes w64 v.first) (to_be_bytes w16 (length v.changes) ++ all),
      length-append (to_be_bytes w16 (length v.changes)) all,
      length-flat_map encoding_of_change v.changes,
    )

length-encoding_of_flag : (flag : List ℕ × Flag) → length (encoding_of_flag flag) ≡ 14 + length flag.0 + length flag.1.definition
unfolding encoding_of_flag
length-encoding_of_flag flag =
    let text = encoding_of_definition flag.1.definition in
    omega (
      arith,
      length-append (encoding_of_key flag.0) (to_be_bytes w64 flag.1.changed ++ text),
      length-append (to_be_bytes w64 flag.1.changed) text,
      length-encoding_of_key flag.0,
      length-encoding_of_definition flag.1.definition,
    )

length-flags : (flags : List (List ℕ × Flag)) → length (flat_map encoding_of_flag flags) ≡ total_cost flags
length-flags [] = refl
length-flags (flag ∷ flags) = rw flat_map-cons
    (omega (
      arith,
      length-append (encoding_of_flag flag) (flat_map encoding_of_flag flags),
      length-encoding_of_flag flag,
      length-flags flags,
    ))

pub length-encoding_of_image : (flags : List (List ℕ × Flag)) → length (encoding_of_image flags) ≡ 4 + total_cost flags
unfolding encoding_of_image
length-encoding_of_image flags =
    omega (
      arith,
      length-append (to_be_bytes w32 (length flags)) (flat_map encoding_of_flag flags),
      length-flags flags,
    )
