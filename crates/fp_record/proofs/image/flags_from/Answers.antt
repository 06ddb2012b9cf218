use Rattle.std.proofs.Common.{◌≡◌, ◌+◌, ◌++◌, ◌∷◌, [], ℕ, List, length, arith, Ok}
use Rattle.std.proofs.lemmas.Result.{err_from_is_err_and}
use Rattle.std.proofs.lemmas.List.{map_push, length-append}
use Rattle.fp_documents.specs.Entries.{entry_of, entries_of}
use Rattle.fp_documents.specs.declared.flags.Flag.{Flag}
use Rattle.fp_record.specs.Reading.{flag_at, many_from, flags_at}
use Rattle.fp_record.proofs.Loop.{ends, fails_on}
use Rattle.fp_record.proofs.Many.{one_more}
use Rattle.fp_record.proofs.image.flags_from.Goals as goal

pub returns-in_err-found-clause-value : goal.returns-in_err-found-clause-value
unfolding flags_at
returns-in_err-found-clause-value c =
    let p = err_from_is_err_and c.from_residual.result c.from_residual.ensures.1 in
    let step = flag_at c.args.newest c.args.bytes.now in
    let e = c.in_err-found.field-0.0 in
    rw (p.1, p.2) (fails_on e (many_from step c.args.count ([], c.args.at)) (λ flags. Ok (flags.0, flags.1.1))
    (ends step e c.loop.counter c.args.count ([], c.args.at)
    (entries_of c.loop.flags.items, (c.loop.before.now, c.loop.place)) c.loop-test.true c.loop.invariant.0
    c.in_err-found.ensures.value))

pub loop-preserved : goal.loop-preserved
loop-preserved c =
    let found = c.in_ok-found.found in
    let added = c.in_ok-push.ensures.items in
    let e : entries_of c.push.new.self.items ≡ entries_of c.loop.flags.items ++ entry_of found.flag ∷ [] =
    rw added (map_push _ c.loop.flags.items found.flag) in
    let count : length c.push.new.self.items ≡ c.loop.counter + 1 =
    rw added (omega (arith, length-append c.loop.flags.items (found.flag ∷ []), c.loop.invariant.1)) in
    let start : List ℕ × ℕ = ([], c.args.at) in
    let x : List (List ℕ × Flag) × (List ℕ × ℕ) = (entries_of c.loop.flags.items, (c.loop.before.now, c.loop.place)) in
    let y : (List ℕ × Flag) × (List ℕ × ℕ) = (entry_of found.flag, (found.text.now, found.next)) in (
      rw (e, c.as_bytes-before.ensures.value)
          (one_more (flag_at c.args.newest c.args.bytes.now) c.loop.counter start x y c.loop.invariant.0
          c.in_ok-found.ensures.value),
      count,
      c.in_ok-found.ensures.within,
    )
