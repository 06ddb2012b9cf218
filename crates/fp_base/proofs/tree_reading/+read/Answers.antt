use Rattle.std.proofs.Common.{◌≡◌, ◌-◌, ◌<◌, ◌∷◌, length, Some, None, sym, ap, subst, ◌∙◌, arith, rules}
use Rattle.json.specs.Json.{parse_map, after_end_array, read_key, items, members, value}
use Rattle.json.specs.Reads.{token_of}
use Rattle.json.proofs.Grammar.{value-begin_array, value-begin_object, read_key-shorter}
use Rattle.serde_json.specs.Data.{array, object, put}
use Rattle.serde_json.specs.Read.{of_json, of_items, of_members, converted}
use Rattle.fp_base.specs.Gathered.{gathered}
use Rattle.fp_base.specs.Ordered.{AreOrdered, MembersAreOrdered}
use Rattle.fp_base.specs.Sorted.{IsSorted}
use Rattle.fp_base.specs.TreeView.{tree_view, tree_items, tree_members}
use Rattle.fp_base.proofs.Entries.{items_ordered-more}
use Rattle.fp_base.proofs.Parsed.{array-parsed, end-of-members, no-member, no-name, object-parsed, one-item, one-member}
use Rattle.fp_base.proofs.Read.{items_before, one_more_item, ordered-put}
use Rattle.fp_base.proofs.Sorted.{sorted-put}
use Rattle.fp_base.proofs.Views.{view-Array, view-Object}
use Rattle.fp_base.proofs.tree_reading.+read.Goals as goal

pub read-returns-in_err-read_items-in-BeginArray-clause-refused : goal.read-returns-in_err-read_items-in-BeginArray-clause-refused
read-returns-in_err-read_items-in-BeginArray-clause-refused t c refused =
    let first : c.args.reader.now ≡ token_of c.in_ok-token.token ∷ c.next.new.self = grind arith in
    let opened = ap (converted of_json)
    (ap (value c.args.depth) (first ∙ ap (λ k. token_of k ∷ c.next.new.self) c.in-BeginArray.is) ∙
    value-begin_array c.args.depth c.next.new.self (omega arith)) ∙
    array-parsed (items (value (c.args.depth - 1)) (length c.next.new.self) c.next.new.self) in
    opened ∙ ap (parse_map array) (c.read_items.ensures.refused (grind arith))

pub read-returns-in_err-read_members-in-BeginObject-clause-refused : goal.read-returns-in_err-read_members-in-BeginObject-clause-refused
read-returns-in_err-read_members-in-BeginObject-clause-refused t c refused =
    let first : c.args.reader.now ≡ token_of c.in_ok-token.token ∷ c.next.new.self = grind arith in
    let opened = ap (converted of_json)
    (ap (value c.args.depth) (first ∙ ap (λ k. token_of k ∷ c.next.new.self) c.in-BeginObject.is) ∙
    value-begin_object c.args.depth c.next.new.self (omega arith)) ∙
    object-parsed (members (value (c.args.depth - 1)) (length c.next.new.self) c.next.new.self) in
    opened ∙ ap (parse_map object) (c.read_members.ensures.refused (grind arith))

pub read-returns-in_ok-read_items-in-BeginArray-clause-ok : goal.read-returns-in_ok-read_items-in-BeginArray-clause-ok
read-returns-in_ok-read_items-in-BeginArray-clause-ok t c =
    let first : c.args.reader.now ≡ token_of c.in_ok-token.token ∷ c.next.new.self = grind arith in
    let opened = ap (converted of_json)
    (ap (value c.args.depth) (first ∙ ap (λ k. token_of k ∷ c.next.new.self) c.in-BeginArray.is) ∙
    value-begin_array c.args.depth c.next.new.self (omega arith)) ∙
    array-parsed (items (value (c.args.depth - 1)) (length c.next.new.self) c.next.new.self) in
    let found = c.in_ok-read_items-in-BeginArray in
    opened ∙ ap (parse_map array) found.ensures.ok ∙ ap (λ d. Some (d, c.read_items.new.reader)) (sym (view-Array found.field-0))

pub read-returns-in_ok-read_members-in-BeginObject-clause-ok : goal.read-returns-in_ok-read_members-in-BeginObject-clause-ok
read-returns-in_ok-read_members-in-BeginObject-clause-ok t c =
    let first : c.args.reader.now ≡ token_of c.in_ok-token.token ∷ c.next.new.self = grind arith in
    let opened = ap (converted of_json)
    (ap (value c.args.depth) (first ∙ ap (λ k. token_of k ∷ c.next.new.self) c.in-BeginObject.is) ∙
    value-begin_object c.args.depth c.next.new.self (omega arith)) ∙
    object-parsed (members (value (c.args.depth - 1)) (length c.next.new.self) c.next.new.self) in
    let found = c.in_ok-read_members-in-BeginObject in
    opened ∙ ap (parse_map object) found.ensures.ok ∙ ap (λ d. Some (d, c.read_members.new.reader)) (sym (view-Object found.field-0))

pub read_items-items-preserved : goal.read_items-items-preserved
read_items-items-preserved t c =
    let p = value c.args.depth in
    let l = c.items in
    let n = l.invariant.0 in
    let going : (after_end_array l.reader ≡ None) × (c.take_end_array.new.self ≡ l.reader) = grind arith in
    let done = c.in_ok-item.ensures in
    let v = c.in_ok-item.item in
    let r = c.read.new.reader in
    let less : length r < length l.reader = rw (← going.1) done.shorter in
    let turn = one-item p n l.reader r (tree_view v) (omega (arith, l.invariant.1)) going.0 (rw (← going.1) done.ok) in (
      n - 1,
      omega (arith, l.invariant.1),
      l.invariant.2 ∙ ap (parse_map (items_before l.found.items)) turn ∙ one_more_item l.found.items v _
          ∙ ap (λ ts. parse_map (items_before ts) (converted of_items (items p (n - 1) r))) (sym c.in_ok-push.ensures.items),
      omega (arith, l.invariant.3),
      subst (λ ts. AreOrdered (tree_items ts)) (sym c.in_ok-push.ensures.items)
          (items_ordered-more l.found.items v l.invariant.4 done.ordered),
    )

pub read_members-returns-in_err-name-clause-refused : goal.read_members-returns-in_err-name-clause-refused
read_members-returns-in_err-name-clause-refused t c refused =
    let l = c.members in
    l.invariant.2 ∙ no-name (value c.args.depth) (gathered l.found) l.invariant.0 l.reader c.in_err-name.ensures.value

pub read_members-returns-in_err-member-clause-refused : goal.read_members-returns-in_err-member-clause-refused
read_members-returns-in_err-member-clause-refused t c refused =
    let l = c.members in
    let k = c.in-Some.name.now in
    let s = c.next_key.new.self in
    let named : read_key l.reader ≡ Some (Some k, s) = grind arith in
    l.invariant.2 ∙ no-member (value c.args.depth) (gathered l.found) l.invariant.0 k l.reader s named
    (c.read.ensures.refused (grind arith))

pub read_members-members-preserved : goal.read_members-members-preserved
read_members-members-preserved t c =
    let p = value c.args.depth in
    let l = c.members in
    let n = l.invariant.0 in
    let old = gathered l.found in
    let k = c.in-Some.name.now in
    let s = c.next_key.new.self in
    let named : read_key l.reader ≡ Some (Some k, s) = grind arith in
    let done = c.in_ok-member.ensures in
    let v = c.in_ok-member.member in
    let r = c.read.new.reader in
    let less = read_key-shorter l.reader (Some k) s named in
    let lesser = done.shorter in
    let placed : gathered c.put.new.self ≡ put k (tree_view v) old = search rules in (
      n - 1,
      omega (arith, l.invariant.1),
      l.invariant.2 ∙ one-member p old n k l.reader s r (tree_view v) (omega (arith, l.invariant.1)) named done.ok
          ∙ ap (λ found. converted (λ ms. of_members ms found) (members p (n - 1) r)) (sym placed),
      omega (arith, l.invariant.3),
      subst IsSorted (sym placed) (sorted-put k (tree_view v) old l.invariant.4),
      subst MembersAreOrdered (sym placed) (ordered-put k (tree_view v) old done.ordered l.invariant.5),
      c.in_ok-put.ensures.kept,
    )

pub read_members-returns-clause-ok : goal.read_members-returns-clause-ok
read_members-returns-clause-ok t c =
    let l = c.members in
    let r = c.next_key.new.self in
    l.invariant.2 ∙ end-of-members (value c.args.depth) (gathered l.found) l.invariant.0 l.reader r l.invariant.1 (grind arith)
    ∙ ap (λ ms. Some (ms, r)) (sym (ap tree_members (c.in_ok-members.ensures ∙ c.deref.ensures.value) ∙ c.in_ok-found.ensures))
