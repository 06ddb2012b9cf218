use Rattle.std.proofs.Common.{◌≡◌, ◌++◌, codes, flat_map}
use Rattle.fp_ofrep.proofs.fields.add_values.Given as goal

-- what is there, with what is left to add, stays the same
abbrev pub invariant-loop-field : goal.invariant-loop-field
invariant-loop-field l =
    l.list.items ++ flat_map (λ v. codes ", " ++ v.bytes) l.field-iterator
    ≡ l.initial.list.items ++ flat_map (λ v. codes ", " ++ v.bytes) l.initial.field-iterator
