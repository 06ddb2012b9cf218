use Rattle.std.proofs.Common.{◌≡◌, ◌++◌, drop, map, option_map, string_bytes}
use Rattle.fp_operators.specs.Text.{text_of_scalars}
use Rattle.fp_machine.specs.Found.{found_view}
use Rattle.fp_machine.proofs.results.joined.Given as goal

-- the text so far, and that of what is left
abbrev pub invariant-loop-part : goal.invariant-loop-part
invariant-loop-part l =
    option_map (λ t. string_bytes l.text ++ t) (text_of_scalars (map found_view (drop l.part-index l.parts))) ≡
    text_of_scalars (map found_view l.parts)
