use Rattle.std.proofs.Common.{[], true, drop, true≢false, Ok, Err, Some, None, ◌≡◌, ◌≤◌, ◌∷◌, ◌++◌}
use Rattle.std.proofs.Common.{length, false, sym, ap, subst, ◌∙◌, arith, rules, length-append}
use Rattle.std.proofs.lemmas.List.{append_cancel_left}
use Rattle.json.specs.Print.{quoted}
use Rattle.serde_json.specs.Data.{no_items, item}
use Rattle.serde_json.specs.Written.{comma_if}
use Rattle.fp_base.specs.Places.{AreBefore}
use Rattle.fp_base.specs.TreeView.{Entry, tree_items, tree_members, tree_view}
use Rattle.fp_base.specs.declared.tree.Tree.{Tree}
use Rattle.fp_canonical.specs.Reads.{Reads, ReadsItems, ReadsMembers, is_some_there}
use Rattle.fp_base.proofs.Read.{items_before, items_before-no_items}
use Rattle.fp_base.specs.Sorted.{IsSorted}
use Rattle.fp_canonical.proofs.Read.{AreReadSoFar, item-read, items-more, no-item-read, read-end}
use Rattle.fp_canonical.proofs.Read.{read-on, sorted-on}
use Rattle.fp_canonical.proofs.Leads.{match_weaker}
use Rattle.fp_canonical.proofs.Next.{AreLeft, all_left, item_here, item_refused, items_next}
use Rattle.fp_canonical.proofs.Next.{items_over, list_here, member_here, members_next, members_over}
use Rattle.fp_canonical.proofs.Next.{member_named, member_refused, object_here, scalar_here}
use Rattle.fp_canonical.proofs.reading.+read.Goals as goal

pub read_items-items-preserved : goal.read_items-items-preserved
read_items-items-preserved t c =
    let l = c.items in
    let v : Tree = c.in_ok-item.item in
    let on : l.cursor ≡ comma_if l.later ++ c.next_item.new.self = search rules in
    let pushed : c.push_reserved.new.self.items ≡ l.found.items ++ v ∷ [] = search rules in
    let shorter : length c.read_value.new.cursor ≤ length c.args.cursor.now =
    omega (arith, c.in_ok-item.ensures.shorter, l.invariant.1, ap length on, length-append (comma_if l.later) c.next_item.new.self) in (
      λ ds left rest.
          subst (λ xs. ReadsItems c.args.depth false xs c.args.cursor.now left)
          (sym (ap (λ ts. items_before ts ds) pushed ∙ items-more l.found.items v ds))
          (l.invariant.0 (item (tree_view v) ds) left
          (item-read c.args.depth l.later (tree_view v) ds l.cursor c.next_item.new.self c.read_value.new.cursor left on
          c.in_ok-item.ensures.read rest)),
      shorter,
      λ ds left reads.
          let old = l.invariant.2 ds left reads in
          let yes : c.next_item.result ≡ Ok true = search rules in
          let n = item_here c.args.depth l.later l.cursor left c.next_item.result yes c.next_item.ensures.ended
          (items_next c.args.depth l.later old.0 l.cursor left old.1) in
          let same : c.next_item.new.self ≡ n.from = append_cancel_left (comma_if l.later) c.next_item.new.self n.from (sym on ∙ n.comma) in
          let end = c.in_ok-item.ensures.taken n.d n.to (subst (λ xs. Reads c.args.depth n.d xs n.to) (sym same) n.reads) n.ends in
          (n.ds, subst (λ xs. ReadsItems c.args.depth true n.ds xs left) (sym end) n.on),
    )

pub read_items-returns-clause-read : goal.read_items-returns-clause-read
read_items-returns-clause-read t c =
    let l = c.items in
    let end : l.cursor ≡ 93 ∷ c.next_item.new.self = search rules in
    subst (λ ds. ReadsItems c.args.depth false ds c.args.cursor.now c.next_item.new.self)
    (items_before-no_items l.found.items ∙ ap tree_items (sym c.into_bump_slice.ensures))
    (l.invariant.0 no_items c.next_item.new.self (no-item-read c.args.depth l.later l.cursor c.next_item.new.self end))

pub read_members-members-preserved : goal.read_members-members-preserved
read_members-members-preserved t c =
    let l = c.members in
    let ms = l.found.items in
    let m : Entry = (c.in-Some.name, c.in_ok-value.value) in
    let pushed = c.in_ok-push.ensures.items in
    let one = c.next_name.new.self in
    let named : l.cursor ≡ comma_if (is_some_there ms) ++ (quoted m.0.now ++ 58 ∷ c.next_name.new.self) = search rules in
    let behind : AreBefore m.0.now ms = search rules in (
      read-on c.args.depth ms c.args.cursor.now l.cursor l.invariant.0 m c.next_name.new.self c.read_value.new.cursor
          c.push.new.self.items pushed named c.in_ok-value.ensures.read,
      sorted-on ms m c.push.new.self.items l.invariant.1 behind pushed,
      omega (arith, c.in_ok-value.ensures.shorter, c.in_ok-name.ensures.shorter, l.invariant.2),
      λ all left reads sorted.
          let yes : c.next_name.result ≡ Ok (Some m.0) = search rules in
          let n = member_here c.args.depth ms l.cursor left c.next_name.result m.0 yes c.next_name.ensures.ended
          (members_next c.args.depth ms l.cursor left (l.invariant.3 all left reads sorted)) in
          let name = member_named c.args.depth ms l.cursor left c.next_name.result
          (λ k rest found. (found.now ≡ k) × (c.next_name.new.self ≡ rest)) c.as_slice.result.now c.as_slice.ensures.value
          c.next_name.ensures.taken m.0 yes n in
          let end = c.in_ok-value.ensures.taken n.d n.to (subst (λ xs. Reads c.args.depth n.d xs n.to) (sym name.1) n.reads) n.ends in
          subst (λ es. AreLeft c.args.depth es c.read_value.new.cursor left) (sym pushed)
          (subst (λ xs. AreLeft c.args.depth (ms ++ m ∷ []) xs left) (sym end) (n.on m name.0)),
    )

pub read_members-returns-clause-read : goal.read_members-returns-clause-read
read_members-returns-clause-read t c =
    let l = c.members in
    let end : l.cursor ≡ 125 ∷ c.next_name.new.self = search rules in
    subst (λ ms. ReadsMembers c.args.depth false (tree_members ms) c.args.cursor.now c.next_name.new.self)
    (sym c.into_bump_slice.ensures)
    (read-end c.args.depth l.found.items c.args.cursor.now l.cursor l.invariant.0 c.next_name.new.self end)

pub read_members-members-init : goal.read_members-members-init
read_members-members-init t c =
    let none = c.new-found.ensures.items in
    let text = c.args.cursor.now in (
      subst (λ es. AreReadSoFar c.args.depth es text text) (sym none) (λ more left r. r),
      subst (λ es. IsSorted (tree_members es)) (sym none) tt,
      omega arith,
      λ ms left reads sorted. subst (λ es. AreLeft c.args.depth es text left) (sym none) (all_left c.args.depth ms text left reads sorted),
    )

-- ---- what is taken

pub read_items-returns-in_err-next_item-clause-taken : goal.read_items-returns-in_err-next_item-clause-taken
read_items-returns-in_err-next_item-clause-taken t c = λ ds left reads.
    let l = c.items in
    let old = l.invariant.2 ds left reads in
    let not : c.next_item.result ≡ Err c.in_err-next_item.field-0.0 = search rules in
    absurd (item_refused c.args.depth l.later l.cursor left c.next_item.result c.in_err-next_item.field-0.0 not
    c.next_item.ensures.taken c.next_item.ensures.ended (items_next c.args.depth l.later old.0 l.cursor left old.1))

pub read_items-returns-in_err-item-clause-taken : goal.read_items-returns-in_err-item-clause-taken
read_items-returns-in_err-item-clause-taken t c = λ ds left reads.
    let l = c.items in
    let old = l.invariant.2 ds left reads in
    let yes : c.next_item.result ≡ Ok true = search rules in
    let n = item_here c.args.depth l.later l.cursor left c.next_item.result yes c.next_item.ensures.ended
    (items_next c.args.depth l.later old.0 l.cursor left old.1) in
    let same : c.next_item.new.self ≡ n.from =
    append_cancel_left (comma_if l.later) c.next_item.new.self n.from (sym (c.next_item.ensures.more yes) ∙ n.comma) in
    let is = c.in_err-item.ensures.taken n.d n.to (subst (λ xs. Reads c.args.depth n.d xs n.to) (sym same) n.reads) n.ends in search rules

pub read_items-returns-clause-taken : goal.read_items-returns-clause-taken
read_items-returns-clause-taken t c = λ ds left reads.
    let l = c.items in
    let old = l.invariant.2 ds left reads in
    let no : c.next_item.result ≡ Ok false = search rules in
    let end = items_over c.args.depth l.later l.cursor left c.next_item.result no c.next_item.ensures.taken
    (items_next c.args.depth l.later old.0 l.cursor left old.1) in
    ap (drop 1) (sym (c.next_item.ensures.end no) ∙ end)

pub read_members-returns-in_err-name-clause-taken : goal.read_members-returns-in_err-name-clause-taken
read_members-returns-in_err-name-clause-taken t c = λ all left reads sorted.
    let l = c.members in
    let ms = l.found.items in
    let not : c.next_name.result ≡ Err c.in_err-name.field-0.0 = search rules in
    absurd (member_refused c.args.depth ms l.cursor left c.next_name.result
    (λ k rest found. (found.now ≡ k) × (c.next_name.new.self ≡ rest)) c.as_slice.result.now c.as_slice.ensures.value
    c.next_name.ensures.taken c.in_err-name.field-0.0 not c.next_name.ensures.ended
    (members_next c.args.depth ms l.cursor left (l.invariant.3 all left reads sorted)))

pub read_members-returns-in_err-value-clause-taken : goal.read_members-returns-in_err-value-clause-taken
read_members-returns-in_err-value-clause-taken t c = λ all left reads sorted.
    let l = c.members in
    let ms = l.found.items in
    let name = c.in-Some.name in
    let yes : c.next_name.result ≡ Ok (Some name) = search rules in
    let n = member_here c.args.depth ms l.cursor left c.next_name.result name yes c.next_name.ensures.ended
    (members_next c.args.depth ms l.cursor left (l.invariant.3 all left reads sorted)) in
    let so = member_named c.args.depth ms l.cursor left c.next_name.result
    (λ k rest found. (found.now ≡ k) × (c.next_name.new.self ≡ rest)) c.as_slice.result.now c.as_slice.ensures.value
    c.next_name.ensures.taken name yes n in
    let is = c.in_err-value.ensures.taken n.d n.to (subst (λ xs. Reads c.args.depth n.d xs n.to) (sym so.1) n.reads) n.ends in search rules

pub read_members-returns-clause-taken : goal.read_members-returns-clause-taken
read_members-returns-clause-taken t c = λ all left reads sorted.
    let l = c.members in
    let ms = l.found.items in
    let no : c.next_name.result ≡ Ok None = search rules in
    let end = members_over c.args.depth ms l.cursor left c.next_name.result
    (λ k rest found. (found.now ≡ k) × (c.next_name.new.self ≡ rest)) c.as_slice.result.now c.as_slice.ensures.value
    c.next_name.ensures.taken no
    (members_next c.args.depth ms l.cursor left (l.invariant.3 all left reads sorted)) in
    let ended : l.cursor ≡ 125 ∷ c.next_name.new.self = search rules in
    ap (drop 1) (sym ended ∙ end)

pub read_value-returns-then-depth-eq0-clause-taken : goal.read_value-returns-then-depth-eq0-clause-taken
read_value-returns-then-depth-eq0-clause-taken t c = λ d left reads ends.
    let here = object_here c.args.depth c.args.cursor.now c.take.new.self left d reads (c.take.ensures.taken c.if-take.true) in
    absurd (omega (arith, here.2, c.if-depth-eq0.true))

pub read_value-returns-in_err-read_members-clause-taken : goal.read_value-returns-in_err-read_members-clause-taken
read_value-returns-in_err-read_members-clause-taken t c = λ d left reads ends.
    let here = object_here c.args.depth c.args.cursor.now c.take.new.self left d reads (c.take.ensures.taken c.if-take.true) in
    let is = c.in_err-read_members.ensures.taken here.0 left here.3 here.1 in search rules

pub read_value-returns-then-take-clause-taken : goal.read_value-returns-then-take-clause-taken
read_value-returns-then-take-clause-taken t c = λ d left reads ends.
    let here = object_here c.args.depth c.args.cursor.now c.take.new.self left d reads (c.take.ensures.taken c.if-take.true) in
    c.in_ok-read_members.ensures.taken here.0 left here.3 here.1

pub read_value-returns-then-depth-eq0-2-clause-taken : goal.read_value-returns-then-depth-eq0-2-clause-taken
read_value-returns-then-depth-eq0-2-clause-taken t c = λ d left reads ends.
    let here = list_here c.args.depth c.args.cursor.now c.take-2.new.self left d reads
    (sym (c.take.ensures.kept c.if-take.false) ∙ c.take-2.ensures.taken c.if-take-2.true) in
    absurd (omega (arith, here.1, c.if-depth-eq0-2.true))

pub read_value-returns-in_err-read_items-clause-taken : goal.read_value-returns-in_err-read_items-clause-taken
read_value-returns-in_err-read_items-clause-taken t c = λ d left reads ends.
    let here = list_here c.args.depth c.args.cursor.now c.take-2.new.self left d reads
    (sym (c.take.ensures.kept c.if-take.false) ∙ c.take-2.ensures.taken c.if-take-2.true) in
    let is = c.in_err-read_items.ensures.taken here.0 left here.2 in search rules

pub read_value-returns-then-take-2-clause-taken : goal.read_value-returns-then-take-2-clause-taken
read_value-returns-then-take-2-clause-taken t c = λ d left reads ends.
    let here = list_here c.args.depth c.args.cursor.now c.take-2.new.self left d reads
    (sym (c.take.ensures.kept c.if-take.false) ∙ c.take-2.ensures.taken c.if-take-2.true) in
    c.in_ok-read_items.ensures.taken here.0 left here.2

pub read_value-returns-clause-taken : goal.read_value-returns-clause-taken
read_value-returns-clause-taken t c = λ d left reads ends.
    let kept = c.take-2.ensures.kept c.if-take-2.false ∙ c.take.ensures.kept c.if-take.false in
    let flat = scalar_here c.args.depth d c.args.cursor.now left reads
    (λ rest is. true≢false (sym (c.take.ensures.next rest is) ∙ c.if-take.false))
    (λ rest is. true≢false (sym (c.take-2.ensures.next rest (c.take.ensures.kept c.if-take.false ∙ is)) ∙ c.if-take-2.false)) in
    match_weaker c.read_scalar.result _ _ _ _
    (c.read_scalar.ensures.taken c.args.depth d left flat (subst (λ xs. Reads c.args.depth d xs left) (sym kept) reads) ends)
    (λ v end. end) (λ e none. absurd none)
