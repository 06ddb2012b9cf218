use Rattle.std.proofs.Common.{◌≡◌, false, Less, bytes_eq, nat_cmp, string_bytes, sym, ap, ◌∙◌, subst, refl}
use Rattle.std.specs.Cmp.Lexicographic.{slice_cmp}
use Rattle.std.specs.List.Sorted.{IsStrictlySortedBy}
use Rattle.std.specs.Map.{keys_of}
use Rattle.std.specs.String.{string_cmp}
use Rattle.std.proofs.lemmas.Map.Keys.{sorted_tail}
use Rattle.fp_operators.specs.View.{members_view}
use Rattle.fp_operators.specs.Path.{member_at}
use Rattle.fp_operators.proofs.Orders.{less_is}
use Rattle.fp_operators.proofs.Paths.{member_at-before}
use Rattle.fp_operators.proofs.Views.{Entry}
use Rattle.fp_operators.proofs.path.member_of_few.Goals as goal

pub returns-then-is_past : goal.returns-then-is_past
returns-then-is_past c =
    let l = c.loop-key in
    let name = c.args.name.now in
    let e : Entry = (c.in-Some.key.now, c.in-Some.datum.now) in
    let left = c.next.new.self in
    let before : slice_cmp nat_cmp name (string_bytes e.0) ≡ Less =
    rw (sym c.as_bytes.ensures.value, sym c.as_bytes-in-loop-key.ensures.value)
    (less_is (slice_cmp nat_cmp c.as_bytes-in-loop-key.result.now c.as_bytes.result.now)
    (c.is_past.ensures c.if-is_past.true)) in
    sym (l.invariant.0 ∙ ap (λ es. member_at name (members_view es)) c.in-Some.ensures.steps
    ∙ member_at-before name e left (subst (λ es. IsStrictlySortedBy string_cmp (keys_of es)) c.in-Some.ensures.steps l.invariant.1) before)

pub loop-key-preserved : goal.loop-key-preserved
loop-key-preserved c =
    let l = c.loop-key in
    let name = c.args.name.now in
    let e : Entry = (c.in-Some.key.now, c.in-Some.datum.now) in
    let left = c.next.new.self in
    let other : bytes_eq name (string_bytes e.0) ≡ false =
    rw (sym c.as_bytes-in-loop-key-2.ensures.value, sym c.as_bytes-in-loop-key-3.ensures.value)
    (sym c.is_name.ensures ∙ c.if-is_name.false) in (
      l.invariant.0 ∙ ap (λ es. member_at name (members_view es)) c.in-Some.ensures.steps ∙ rw other refl,
      sorted_tail string_cmp e.0 (keys_of left)
          (subst (λ es. IsStrictlySortedBy string_cmp (keys_of es)) c.in-Some.ensures.steps l.invariant.1),
    )
