use Rattle.std.proofs.Common.{rules, ◌<◌, length, arith}
use Rattle.fp_desk.proofs.Queues.{part_full, part_wide}
use Rattle.fp_desk.proofs.queue.first_part.Goals as goal

pub returns-then-next-most-clause-longest : goal.returns-then-next-most-clause-longest
returns-then-next-most-clause-longest c =
    let xs = c.args.waiting.now.items in let n = c.loop-n.n in let i = c.loop-n.invariant in
    let lt : n < length xs = search rules in
    let len = c.encoded_len-in-loop-n.ensures.len in let sum = i.4 in let wide = c.if-next-most.true in
    part_wide xs n c.args.most i.0 i.1 i.2 (search rules) (let sum = i.4 in let small = i.3 in
    omega (arith, sum, small)) c.index-in-loop-n.result.now lt c.index-in-loop-n.ensures
    (omega (arith, len, sum, wide))

pub returns-else-n-lt-MOST_EDITS-clause-longest : goal.returns-else-n-lt-MOST_EDITS-clause-longest
returns-else-n-lt-MOST_EDITS-clause-longest c =
    let xs = c.args.waiting.now.items in let n = c.loop-n.n in let i = c.loop-n.invariant in
    part_full xs n c.args.most i.0 i.1 i.2 (search rules) (let sum = i.4 in let small = i.3 in
    omega (arith, sum, small)) (let full = c.if-n-lt-MOST_EDITS.false in omega (arith, full))
