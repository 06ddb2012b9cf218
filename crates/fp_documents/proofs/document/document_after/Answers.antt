use Rattle.std.proofs.Common.{◌-◌, ◌∷◌, [], ◌++◌, ℕ, List, take, drop, refl, ap, ◌∙◌, arith}
use Rattle.std.proofs.lemmas.List.{take_rest}
use Rattle.fp_definition.specs.Key.{key_bytes}
use Rattle.fp_documents.specs.Entries.{entries_of}
use Rattle.fp_documents.specs.Outline.{part}
use Rattle.fp_documents.specs.declared.flags.Flag.{Flag}
use Rattle.fp_documents.proofs.Patched.{begun, stepped, some_left, ends_within, gap_is, left_there, put_anew, is_new, finished}
use Rattle.fp_documents.proofs.document.document_after.Goals as goal

pub loop-key-init : goal.loop-key-init
loop-key-init c =
    let flags = c.into_iter-key-iterator.ensures.into_iter_gives ∙ c.iter-key-items.ensures.rest in
    let es = c.requires.0 in
    rw (c.as_slice-left.ensures.value, c.in_ok-text.ensures.items, c.in_ok-lengths.ensures.items, flags)
    (es, c.requires.1, c.requires.2, begun c.args.before.now es (entries_of c.args.flags.now.entries) c.requires.1 c.requires.2)

pub unreachable-requires : goal.unreachable-requires
unreachable-requires c = some_left (rw (c.in-Some.ensures.steps) at c.loop-key.invariant.3) c.in_default.ensures.cases

pub overflow_add-end : goal.overflow_add-end
overflow_add-end c =
    let within = ends_within (stepped c.loop-key.invariant.3 c.in-Some-split_first.ensures.cases.0
    (ap entries_of c.in-Some.ensures.steps)) in
    let text = c.args.before.now.text in
    let small = text.small in
    let ok = text.ok in omega arith

pub slice_bounds-old-end : goal.slice_bounds-old-end
slice_bounds-old-end c =
    let within = ends_within (stepped c.loop-key.invariant.3 c.in-Some-split_first.ensures.cases.0
    (ap entries_of c.in-Some.ensures.steps)) in
    rw c.deref-then-flag-before.ensures.value within

pub returns-in_default-new : goal.returns-in_default-new
returns-in_default-new c =
    let i = c.loop-key.invariant in
    let u = stepped i.3 c.in-Some-split_first.ensures.cases.0 (ap entries_of c.in-Some.ensures.steps) in
    let told = rw c.in_default-new.is at c.in_ok-new.ensures 0 in
    (i.0, i.1, is_new u c.if-flag-before.true (rw c.deref-then-flag-before.ensures.value at told))

pub loop-key-preserved-in_ok-push : goal.loop-key-preserved-in_ok-push
loop-key-preserved-in_ok-push c =
    let f : List ℕ × Flag = (key_bytes c.in-Some.key.now, c.in-Some.flag.now) in
    let out = c.loop-key.text.items in
    let i = c.loop-key.invariant in
    let u = stepped i.3 c.in-Some-split_first.ensures.cases.0 (ap entries_of c.in-Some.ensures.steps) in
    let told = rw c.in-Some-new.is at c.in_ok-new.ensures f.1.changed in
    let copied = c.in_ok-extend_from_slice.ensures.items ∙
    ap (λ l. out ++ take (c.loop-key.at - c.loop-key.from) (drop c.loop-key.from l)) c.deref.ensures.value ∙
    ap (λ l. out ++ l) (gap_is u) in (
      i.0,
      i.1,
      i.2,
      put_anew u c.if-flag-before.true (rw c.deref-then-flag-before.ensures.value at told.0) _ _
          (told.1 ∙ ap (λ l. l ++ part c.loop-key.later f) copied)
          (c.in_ok-push.ensures.items ∙ ap (λ n. c.loop-key.lengths.items ++ n ∷ []) told.2),
    )

pub loop-key-preserved : goal.loop-key-preserved
loop-key-preserved c =
    let i = c.loop-key.invariant in
    let u = stepped i.3 c.in-Some-split_first.ensures.cases.0 (ap entries_of c.in-Some.ensures.steps) in
    rw c.in_ok-push-2.ensures.items (i.0, i.1, i.2, left_there u c.if-flag-before.false)

pub returns : goal.returns
returns c =
    let i = c.loop-key.invariant in
    let end = finished i.2 (rw (c.in-None.ensures.steps.0) at i.3) in (
      record {
        text =
            c.in_ok-extend_from_slice-2.ensures.items
            ∙ ap (λ l. c.loop-key.text.items ++ l)
            (take_rest c.deref-2.result.now c.loop-key.from ∙ ap (drop c.loop-key.from) c.deref-2.ensures.value)
            ∙ end.0;
        lengths = end.1;
      },
      refl,
    )
