-- Rules one after the other.
use Rattle.std.specs.Prelude.{List, [], ◌∷◌}
use Rattle.fp_machine.specs.Rule.{Rule, Rules, no_rules, rule}

abbrev pub rules_of : List Rule → Rules
rules_of [] = no_rules
rules_of (r ∷ rs) = rule r (rules_of rs)
