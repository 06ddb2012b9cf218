-- What all shares of a definition have in common.
use Rattle.std.specs.Prelude.{◌≡◌, codes, Some}
use Rattle.serde_json.specs.Find.{get}
use Rattle.serde_json.specs.Written.{compact_text}
use Rattle.fp_base.specs.Json.{json_of}
use Rattle.fp_definition.specs.Choice.{IsChoice}
use Rattle.fp_definition.specs.Resolving.{data_of}
use Rattle.fp_definition.specs.Targeting.{rule_in}
use Rattle.fp_definition.specs.Valid.{IsValid}
use Rattle.fp_definition.specs.declared.definition.Kept.{Kept}

-- the text is the canonical one of a definition, which it spells, and the choice and the rule are
-- the definition's
pub record IsDefinition (k : Kept) : Type 0 where
  pub reads : json_of k.text.items ≡ Some (data_of k.text.items)
  pub valid : IsValid (data_of k.text.items)
  pub text : k.text.items ≡ compact_text (data_of k.text.items)
  pub choice : IsChoice (data_of k.text.items) k.text.items k.choice
  pub rule : k.rule ≡ rule_in (get (codes "targeting") (data_of k.text.items))
