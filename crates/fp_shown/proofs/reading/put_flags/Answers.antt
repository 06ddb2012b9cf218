use Rattle.std.proofs.Common.{Err, true, refl, sym, ap, ◌∙◌, arith}
use Rattle.std.proofs.lemmas.Result.{err_from_is_err_and}
use Rattle.fp_documents.specs.Outline.{rest_text}
use Rattle.json.specs.Print.{quoted}
use Rattle.fp_shown.proofs.Passing.{begins, ended, has_next, is_end, is_found, is_more, not_found}
use Rattle.fp_shown.proofs.Passing.{one_more, some_revision, spells, too_many}
use Rattle.fp_shown.proofs.Rooms.{empty_count, empty_size, grown}
use Rattle.fp_shown.proofs.reading.put_flags.Goals as goal

pub loop-init : goal.loop-init
loop-init c =
    let none = c.requires.empty in
    let count = empty_count c.args.set.now.flags none in
    let sized = empty_size c.args.set.now.flags none in (
      omega (arith, count),
      omega (arith, sized),
      refl,
      refl,
      λ s lawful at is. begins s c.args.set.now.flags c.args.text.now none is,
    )

pub returns-then-eq-clause-put : goal.returns-then-eq-clause-put
returns-then-eq-clause-put c = λ s lawful at is.
    let rest = c.loop.rest.now in
    let h = c.loop.invariant.4 s lawful at is in
    let end = is_end rest c.eq.result c.eq.ensures c.if-eq.true in
    ended s c.loop.set.flags c.loop.later rest c.loop.counter h end

pub returns-in_default-clause-refused : goal.returns-in_default-clause-refused
returns-in_default-clause-refused c = λ _ s lawful at is.
    let rest = c.loop.rest.now in
    let more = is_more rest c.eq.result c.eq.ensures c.if-eq.false in
    let h = c.loop.invariant.4 s lawful at is in
    let next = has_next s c.loop.set.flags c.loop.later rest c.loop.counter lawful h more in
    let e = next.flag in
    let left = rest_text true next.others in
    not_found c.member_in.result (quoted e.0) e.1.definition left c.in_default.is
    (c.member_in.ensures e.0 e.1.definition left next.lawful.definition next.text)

pub returns-in_err-put_flag-clause-refused : goal.returns-in_err-put_flag-clause-refused
returns-in_err-put_flag-clause-refused c = λ none s lawful at is.
    let p = err_from_is_err_and c.from_residual.result c.from_residual.ensures.1 in
    let fault = sym (p.1 ∙ ap Err p.2) ∙ none in
    let set = c.loop.set in
    let rest = c.loop.rest.now in
    let later = c.loop.later in
    let member = c.in-Some.member in
    let more = is_more rest c.eq.result c.eq.ensures c.if-eq.false in
    let h = c.loop.invariant.4 s lawful at is in
    let next = has_next s set.flags later rest c.loop.counter lawful h more in
    let e = next.flag in
    let left = rest_text true next.others in
    let found = is_found c.member_in.result member (quoted e.0) e.1.definition left c.in-Some.is
    (c.member_in.ensures e.0 e.1.definition left next.lawful.definition next.text) in
    let same = at ∙ sym c.loop.invariant.2 in
    let some = some_revision s h.front later rest set.revision next same in
    c.in_err-put_flag.ensures.refused fault some e.0 (spells s h.front later rest member next found)

pub loop-preserved : goal.loop-preserved
loop-preserved c =
    let set = c.loop.set in
    let new = c.put_flag.new.set in
    let rest = c.loop.rest.now in
    let later = c.loop.later in
    let n = c.loop.counter in
    let member = c.in-Some.member in
    let puts = c.in_ok-put_flag.ensures.put in
    let more = grown set new member.name.now member.value.now puts in
    let count = more.count in
    let sized = more.size in
    let counted = c.loop.invariant.0 in
    let small = c.loop.invariant.1 in (
      omega (arith, count, counted),
      omega (arith, sized, small),
      more.revision ∙ c.loop.invariant.2,
      more.limit ∙ c.loop.invariant.3,
      λ s lawful at is.
          let h = c.loop.invariant.4 s lawful at is in
          let others = is_more rest c.eq.result c.eq.ensures c.if-eq.false in
          let next = has_next s set.flags later rest n lawful h others in
          let e = next.flag in
          let left = rest_text true next.others in
          let found = is_found c.member_in.result member (quoted e.0) e.1.definition left
          c.in-Some.is
          (c.member_in.ensures e.0 e.1.definition left next.lawful.definition next.text) in
          one_more s set new later rest n member h next found puts,
    )

pub returns-then-eq-2-clause-put : goal.returns-then-eq-2-clause-put
returns-then-eq-2-clause-put c = λ s lawful at is.
    let rest = c.loop.rest.now in
    let h = c.loop.invariant.4 s lawful at is in
    let end = is_end rest c.eq-2.result c.eq-2.ensures c.if-eq-2.true in
    ended s c.loop.set.flags c.loop.later rest c.loop.counter h end

pub returns-clause-refused : goal.returns-clause-refused
returns-clause-refused c = λ _ s lawful at is.
    let rest = c.loop.rest.now in
    let h = c.loop.invariant.4 s lawful at is in
    let more = is_more rest c.eq-2.result c.eq-2.ensures c.if-eq-2.false in
    too_many s c.loop.set.flags c.loop.later rest c.loop.counter lawful h more
    (omega (arith, c.loop-test.false))
