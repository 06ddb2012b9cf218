-- The pairs of `fractional`, as JSON writes them.
use Rattle.std.specs.Prelude.{ℕ, List, Option, Some, None, option_map, option_and_then}
use Rattle.serde_json.specs.Data as json
use Rattle.serde_json.specs.Find.{as_i64}
use Rattle.fp_operators.specs.Data.{whole}
use Rattle.fp_machine.specs.Split.{weight_in}
use Rattle.fp_targeting.specs.declared.pairs.Pair.{Pair}

-- a name, and the weight behind it, if one is written
abbrev pub Written : Type 0
Written = List ℕ × Option ℕ

abbrev pub name_written : json.Data → Option (List ℕ)
name_written json.null = None
name_written (json.boolean b) = None
name_written (json.number n) = None
name_written (json.string s) = Some s
name_written (json.array ds) = None
name_written (json.object ms) = None

abbrev pub weight_written : json.Data → Option ℕ
weight_written json.null = None
weight_written (json.boolean b) = None
weight_written (json.number n) = option_and_then (λ z. weight_in (whole z)) (as_i64 n)
weight_written (json.string s) = None
weight_written (json.array ds) = None
weight_written (json.object ms) = None

abbrev pub pair_of_items : json.Items → Option Written
pair_of_items json.no_items = None
pair_of_items (json.item d json.no_items) = option_map (λ n. (n, None)) (name_written d)
pair_of_items (json.item d (json.item e json.no_items)) =
    option_and_then (λ n. option_map (λ w. (n, Some w)) (weight_written e)) (name_written d)
pair_of_items (json.item d (json.item e (json.item f ds))) = None

-- the pair that a value writes
abbrev pub pair_written : json.Data → Option Written
pair_written json.null = None
pair_written (json.boolean b) = None
pair_written (json.number n) = None
pair_written (json.string s) = None
pair_written (json.array ds) = pair_of_items ds
pair_written (json.object ms) = None

abbrev pub pair_view : Pair → Written
pair_view p = (p.name.now, p.weight)
