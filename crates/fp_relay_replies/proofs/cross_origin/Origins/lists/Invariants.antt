use Rattle.std.proofs.Common.{◌≡◌, drop, map, string_bytes}
use Rattle.fp_relay_replies.specs.CrossOrigin.{lists}
use Rattle.fp_relay_replies.proofs.cross_origin.Origins.lists.Given as goal

-- what is left to be looked at decides
abbrev pub invariant-loop-listed : goal.invariant-loop-listed
invariant-loop-listed l =
    lists l.fn.self l.fn.text ≡ lists (map string_bytes (drop l.listed-index l.listed-items)) l.fn.text
