use Rattle.std.proofs.Common.{◌++◌, length, take, rules, ◌≤◌}
use Rattle.std.proofs.KnownBytes.{Appends-kept}
use Rattle.fp_streams.proofs.Gathering.{goes-over, writes-part, writes-past}
use Rattle.fp_streams.proofs.gathered.write_first.Goals as goal
use Rattle.fp_streams.proofs.gathered.write_first.Goals.{in-Ok, in-Err}

-- the first is written, and what is over is of the second
pub returns-in-Ok-2-clause-bytes : goal.returns-in-Ok-2-clause-bytes
returns-in-Ok-2-clause-bytes g c =
    let (done, split, before) = c.loop.invariant in
    writes-past _ _ _ done c.loop.rest.now c.args.second.now _ _ c.in-Ok.count c.args.first.now split
    c.new.ensures c.new-in-loop.ensures c.if-count-rest.false before c.in-Ok.ensures.bytes

pub loop-preserved : goal.loop-preserved
loop-preserved g c =
    let (done, split, before) = c.loop.invariant in
    let rest = c.loop.rest.now in
    elim c.match-write_gathered.branch [
      | in-Ok w ↦
          let n = w.in-Ok.count in
          let short : n ≤ length rest = search rules in
          let more = goes-over c.args.first.now done rest n split in
          let wrote = writes-part _ _ _ done rest c.args.second.now _ _ n c.new.ensures c.new-in-loop.ensures short
          before w.in-Ok.ensures.bytes in
          (done ++ take n rest, search rules, wrote)
      | in-Err w ↦ (done, search rules, Appends-kept _ _ _ done before w.in-Err.ensures.bytes)
    ]
