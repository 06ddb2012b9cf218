use Rattle.std.proofs.Common.{◌≡◌, ◌+◌, ◌++◌, ◌∷◌, [], ℕ, List, length, arith}
use Rattle.std.proofs.lemmas.Result.{err_from_is_err_and}
use Rattle.std.proofs.lemmas.List.{map_push, length-append}
use Rattle.fp_edit.specs.Edits.{Change}
use Rattle.fp_edit.specs.Following.{change_of, changes_of}
use Rattle.fp_record.specs.Reading.{change_at}
use Rattle.fp_record.proofs.Loop.{ends}
use Rattle.fp_record.proofs.Many.{one_more}
use Rattle.fp_record.proofs.edits.edits_from.Goals as goal

pub returns-in_err-edit-clause-value : goal.returns-in_err-edit-clause-value
returns-in_err-edit-clause-value c =
    let p = err_from_is_err_and c.from_residual.result c.from_residual.ensures.1 in
    rw (p.1, p.2) (ends (change_at c.args.bytes.now) c.in_err-edit.field-0.0 c.loop.counter c.args.count c.args.at
    (changes_of c.loop.edits.items, c.loop.place) c.loop-test.true c.loop.invariant.0 c.in_err-edit.ensures.value)

pub loop-preserved : goal.loop-preserved
loop-preserved c =
    let added = c.in_ok-push.ensures.items in
    let e : changes_of c.push.new.self.items ≡ changes_of c.loop.edits.items ++ change_of c.in_ok-edit.edit ∷ [] =
    rw added (map_push _ c.loop.edits.items c.in_ok-edit.edit) in
    let count : length c.push.new.self.items ≡ c.loop.counter + 1 =
    rw added (omega (arith, length-append c.loop.edits.items (c.in_ok-edit.edit ∷ []), c.loop.invariant.1)) in
    let x : List Change × ℕ = (changes_of c.loop.edits.items, c.loop.place) in
    let y : Change × ℕ = (change_of c.in_ok-edit.edit, c.in_ok-edit.next) in (
      rw e (one_more (change_at c.args.bytes.now) c.loop.counter c.args.at x y c.loop.invariant.0
          c.in_ok-edit.ensures.value),
      count,
      c.in_ok-edit.ensures.within,
    )
