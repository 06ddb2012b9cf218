use Rattle.std.proofs.Common.{rules, ◌≡◌, false, true, sym, ◌∙◌}
use Rattle.std.specs.Prelude.{IsTrue}
use Rattle.fp_edit.specs.Following.{change_of}
use Rattle.fp_desk.proofs.Queues.{same_at}
use Rattle.fp_desk.proofs.queue.same_changes.Goals as goal

pub returns-then-not-same_change : goal.returns-then-not-same_change
returns-then-not-same_change c =
    let off : c.same_change.result ≡ false = search rules in (
      λ (yes : IsTrue false). absurd cc,
      λ all. (let on = c.same_change.ensures.1
          (same_at change_of c.args.queue.now.items c.args.edits.now c.loop-i.i c.index.result.now
          c.index-edits-i.result (search rules) c.index.ensures c.index-edits-i.is all) in
          let both : true ≡ false = sym on ∙ off in absurd cc),
    )
