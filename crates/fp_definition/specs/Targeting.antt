-- The rule that a definition's `targeting` writes.
use Rattle.std.specs.Prelude.{Option, Some, None}
use Rattle.std.specs.Result.{result_ok}
use Rattle.serde_json.specs.Data.{Data, object, no_members, member}
use Rattle.fp_machine.specs.Rule.{Rule}
use Rattle.fp_targeting.specs.Compile.{verdict}

-- the object without members writes none
unfoldable pub rule_in : Option Data → Option Rule
rule_in None = None
rule_in (Some (object no_members)) = None
rule_in (Some (object (member k d ms))) = result_ok (verdict (object (member k d ms)))
rule_in (Some d) = None
