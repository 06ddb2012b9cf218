use Rattle.std.proofs.Common.{◌≡◌, drop}
use Rattle.serde_json.specs.Data.{no_members}
use Rattle.serde_json.specs.Find.{get_member}
use Rattle.fp_definition.specs.Spelled.{spelled, AreWithin}
use Rattle.fp_definition.proofs.variants.variant_among.Given as goal

-- what is found in what is left is found in all
abbrev pub invariant-loop-variant : goal.invariant-loop-variant
invariant-loop-variant l =
    (get_member l.name (spelled l.text (drop l.variant-index l.variants) no_members) ≡ get_member l.name
    (spelled l.text l.variants no_members))
    × AreWithin l.text (drop l.variant-index l.variants)
