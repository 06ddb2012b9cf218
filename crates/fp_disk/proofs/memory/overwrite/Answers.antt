use Rattle.std.proofs.Common.{rules, ◌≡◌, ◌+◌, ◌-◌, ℕ, List, ◌++◌, length, take, drop, replicate, ap, ◌∙◌, arith}
use Rattle.std.proofs.lemmas.Grind.{common_steps}
use Rattle.fp_disk.specs.Outcomes.{with_bytes_at}
use Rattle.fp_disk.proofs.Writing.{overwritten-filled, take-lent}
use Rattle.fp_disk.proofs.memory.overwrite.Goals as goal

pub returns-clause-ok : goal.returns-clause-ok
returns-clause-ok c =
    let old = c.args.bytes.now.items in let at = c.args.at in let more = c.args.from.now in
    let laid : c.lay-2.new.bytes ≡ with_bytes_at c.resize.new.self.items at more = search rules in
    let all : take c.resize.new.self.len
    (c.lay-2.new.bytes ++ drop (length c.lay-2.new.bytes) c.resize.new.self.items) ≡ c.lay-2.new.bytes =
    take-lent _ _ _ (search rules) (search rules) in
    let filled : c.resize.new.self.items ≡ old ++ replicate (at + length more - length old) 0 =
    grind (arith, common_steps, c.in_ok-resize.ensures.items) in
    all ∙ (laid ∙ (ap (λ (l : List ℕ). with_bytes_at l at more) filled ∙
    overwritten-filled old more at (at + length more) (omega arith) (omega arith)))
