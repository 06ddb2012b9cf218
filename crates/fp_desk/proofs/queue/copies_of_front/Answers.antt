use Rattle.std.proofs.Common.{◌<◌, ◌≤◌, ◌+◌, ℕ, sym, ap, subst, ◌∙◌, arith}
use Rattle.std.specs.Vec.{vec_capacity}
use Rattle.fp_edit.specs.Following.{changes_of}
use Rattle.fp_desk.proofs.Queues.{copied_more}
use Rattle.fp_desk.proofs.queue.copies_of_front.Goals as goal

pub push_reserved-requires : goal.push_reserved-requires
push_reserved-requires c =
    let i = c.loop-i.invariant in
    subst (λ (k : ℕ). k < vec_capacity c.loop-i.copies) (sym i.1) (let lt = c.loop-i-test.true in let le = i.2 in omega (arith, lt, le))

pub loop-i-init : goal.loop-i-init
loop-i-init c = (ap changes_of c.in_ok-copies.ensures.items, c.in_ok-copies.ensures.len, c.in_ok-copies.ensures.capacity)

pub loop-i-preserved : goal.loop-i-preserved
loop-i-preserved c =
    let i = c.loop-i.invariant in let xs = c.args.waiting.now.items in (
      copied_more xs c.loop-i.copies.items c.push_reserved.new.self.items c.loop-i.i c.index.result.now
          c.in_ok-try_copy.field-0 c.push_reserved.ensures.items i.0 c.in_ok-try_copy.ensures
          (let lt = c.loop-i-test.true in let le = c.requires in omega (arith, lt, le)) c.index.ensures,
      c.push_reserved.ensures.len ∙ ap (λ (k : ℕ). k + 1) i.1,
      subst (λ (k : ℕ). c.args.n ≤ k) (sym c.push_reserved.ensures.capacity) i.2,
    )
