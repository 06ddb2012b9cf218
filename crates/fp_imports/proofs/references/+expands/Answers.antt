use Rattle.std.proofs.Common.{◌≡◌, ℕ, List, [], suc, ◌+◌, ◌*◌, ◌-◌, ◌≤◌, ◌∷◌, drop, map, Some, None, Ok, Err}
use Rattle.std.proofs.Common.{◌++◌, option_map, sym, ap, ◌∙◌, subst, arith, rules}
use Rattle.std.proofs.lemmas.List.{drop_all, map-append}
use Rattle.std.specs.Borrow.{Bor}
use Rattle.serde_json.specs.Data.{Members, array, object, depth, items_depth, members_depth}
use Rattle.serde_json.specs.Find.{get_member}
use Rattle.serde_json.specs.View.{items_of}
use Rattle.fp_base.specs.Answer.{Gives}
use Rattle.fp_base.specs.TreeView.{Entry, tree_view, tree_items, tree_members}
use Rattle.fp_base.specs.declared.tree.Tree.{Tree}
use Rattle.fp_base.proofs.Entries.{members-more}
use Rattle.fp_base.proofs.Inside.{flat_get}
use Rattle.fp_base.proofs.Sorted.{append-none}
use Rattle.fp_base.proofs.Turns.{drop-here}
use Rattle.fp_imports.specs.References.{unknown, onward, expansion, items_expansion, members_expansion, replacement, reference}
use Rattle.fp_imports.specs.Faults.{TellsBroken, with_rest}
use Rattle.fp_base.proofs.Views.{view-Array, view-Object}
use Rattle.fp_imports.proofs.Walks.{after_items, after_members, after_items-one, after_members-one, gives_err}
use Rattle.fp_imports.proofs.Walks.{item_depth, member_depth, falls_part, falls_reference, falls_replaced, at_reference}
use Rattle.fp_imports.proofs.Walks.{at_name, at_array, at_object, at_full, items_err, items_ok, members_err, members_ok}
use Rattle.fp_imports.proofs.references.+expands.Goals as goal

pub expand_items-expand_value-requires : goal.expand_items-expand_value-requires
expand_items-expand_value-requires t c =
    let top = members_depth (tree_members c.args.evaluators.now) in
    let ts = c.args.items.now in
    let x = c.item-item.result in
    let first : depth (tree_view x) ≤ items_depth (tree_items ts) =
    subst (λ y. depth (tree_view y) ≤ items_depth (tree_items ts)) (sym c.item-item.is)
    (item_depth ts c.loop-item.item-index x (omega arith)) in (
      falls_part (c.args.more * suc top) (depth (tree_view x)) (items_depth (tree_items c.args.items.now)) t
          (sym c.decreases) first,
      c.requires,
    )

pub expand_items-returns-in-Err : goal.expand_items-returns-in-Err
expand_items-returns-in-Err t c =
    let at = replacement (tree_members c.args.evaluators.now) c.args.more in
    let ts = c.args.items.now in
    let l = c.loop-item in
    let x = c.item-item.result in
    let rest = drop (l.item-index + 1) ts in
    let here : drop l.item-index ts ≡ x ∷ rest = drop-here ts l.item-index x (omega arith) c.item-item.is in
    gives_err {C = Bor (List Tree) × ℕ} (with_rest tree_view) (with_rest (λ w. map tree_view w.now)) c.in-Err.fault
    (expansion at (tree_view x) l.unused) (items_expansion at (tree_items c.args.items.now) c.args.left)
    (subst (λ r. Gives (with_rest tree_view) TellsBroken r (expansion at (tree_view x) l.unused)) c.in-Err.is c.expand_value.ensures)
    (λ e h. sym l.invariant.0
    ∙ ap (after_items (map tree_view l.found.items))
    (ap (λ ys. items_expansion at (tree_items ys) l.unused) here ∙
    items_err at (tree_view x) (tree_items rest) l.unused e h))

pub expand_items-loop-item-preserved : goal.expand_items-loop-item-preserved
expand_items-loop-item-preserved t c =
    let at = replacement (tree_members c.args.evaluators.now) c.args.more in
    let ts = c.args.items.now in
    let l = c.loop-item in
    let x = c.item-item.result in
    let made = c.in-Ok.made in
    let rest = drop (l.item-index + 1) ts in
    let next = items_expansion at (tree_items rest) c.in-Ok.rest in
    let here : drop l.item-index ts ≡ x ∷ rest = drop-here ts l.item-index x (omega arith) c.item-item.is in
    let walk : expansion at (tree_view x) l.unused ≡ Ok (tree_view made, c.in-Ok.rest) =
    subst (λ r. Gives (with_rest tree_view) TellsBroken r (expansion at (tree_view x) l.unused)) c.in-Ok.is
    c.expand_value.ensures in
    let pushed : c.push_reserved.new.self.items ≡ l.found.items ++ made ∷ [] = search rules in (
      ap (λ ys. after_items ys next) (ap (map tree_view) pushed ∙ map-append tree_view l.found.items (made ∷ []))
          ∙ after_items-one (map tree_view l.found.items) (tree_view made) next
          ∙ ap (after_items (map tree_view l.found.items))
          (sym (ap (λ ys. items_expansion at (tree_items ys) l.unused) here ∙
          items_ok at (tree_view x) (tree_items rest) l.unused (tree_view made) c.in-Ok.rest walk))
          ∙ l.invariant.0,
      omega (arith, l.invariant.1, c.push_reserved.ensures.len),
      omega (arith, l.invariant.2, c.push_reserved.ensures.capacity),
    )

pub expand_members-expand_value-requires : goal.expand_members-expand_value-requires
expand_members-expand_value-requires t c =
    let top = members_depth (tree_members c.args.evaluators.now) in
    let ms = c.args.members.now in
    let m = c.member-item.result in
    let first : depth (tree_view m.1) ≤ members_depth (tree_members ms) =
    subst (λ (y : Entry). depth (tree_view y.1) ≤ members_depth (tree_members ms)) (sym c.member-item.is)
    (member_depth ms c.loop-member.member-index m (omega arith)) in (
      falls_part (c.args.more * suc top) (depth (tree_view m.1))
          (members_depth (tree_members c.args.members.now)) t (sym c.decreases) first,
      c.requires,
    )

pub expand_members-returns-in-Err : goal.expand_members-returns-in-Err
expand_members-returns-in-Err t c =
    let at = replacement (tree_members c.args.evaluators.now) c.args.more in
    let ms = c.args.members.now in
    let l = c.loop-member in
    let m = c.member-item.result in
    let rest = drop (l.member-index + 1) ms in
    let here : drop l.member-index ms ≡ m ∷ rest = drop-here ms l.member-index m (omega arith) c.member-item.is in
    gives_err {C = Bor (List Entry) × ℕ} (with_rest tree_view) (with_rest (λ w. tree_members w.now)) c.in-Err.fault
    (expansion at (tree_view m.1) l.unused)
    (members_expansion at (tree_members c.args.members.now) c.args.left)
    (subst (λ r. Gives (with_rest tree_view) TellsBroken r (expansion at (tree_view m.1) l.unused)) c.in-Err.is c.expand_value.ensures)
    (λ e h. sym l.invariant.0
    ∙ ap (after_members (tree_members l.found.items))
    (ap (λ ys. members_expansion at (tree_members ys) l.unused) here ∙
    members_err at m.0.now (tree_view m.1) (tree_members rest) l.unused e h))

pub expand_members-loop-member-preserved : goal.expand_members-loop-member-preserved
expand_members-loop-member-preserved t c =
    let at = replacement (tree_members c.args.evaluators.now) c.args.more in
    let ms = c.args.members.now in
    let l = c.loop-member in
    let m = c.member-item.result in
    let made = c.in-Ok.made in
    let rest = drop (l.member-index + 1) ms in
    let next = members_expansion at (tree_members rest) c.in-Ok.rest in
    let here : drop l.member-index ms ≡ m ∷ rest = drop-here ms l.member-index m (omega arith) c.member-item.is in
    let walk : expansion at (tree_view m.1) l.unused ≡ Ok (tree_view made, c.in-Ok.rest) =
    subst (λ r. Gives (with_rest tree_view) TellsBroken r (expansion at (tree_view m.1) l.unused)) c.in-Ok.is
    c.expand_value.ensures in
    let pushed : c.push_reserved.new.self.items ≡ l.found.items ++ (m.0, made) ∷ [] = search rules in (
      ap (λ ys. after_members ys next) (ap tree_members pushed ∙ members-more l.found.items (m.0, made))
          ∙ after_members-one (tree_members l.found.items) m.0.now (tree_view made) next
          ∙ ap (after_members (tree_members l.found.items))
          (sym (ap (λ ys. members_expansion at (tree_members ys) l.unused) here ∙
          members_ok at m.0.now (tree_view m.1) (tree_members rest) l.unused (tree_view made) c.in-Ok.rest walk))
          ∙ l.invariant.0,
      omega (arith, l.invariant.1, c.push_reserved.ensures.len),
      omega (arith, l.invariant.2, c.push_reserved.ensures.capacity),
    )

pub expand_value-expand_reference-requires : goal.expand_value-expand_reference-requires
expand_value-expand_reference-requires t c =
    let top = members_depth (tree_members c.args.evaluators.now) in
    let ms = tree_members c.in-Object.members.now in
    let deep : depth (tree_view c.args.value.now) ≡ suc (members_depth ms) =
    ap (λ x. depth (tree_view x)) c.in-Object.is ∙ ap depth (view-Object c.in-Object.members) in
    (falls_reference (c.args.more * suc top) (members_depth ms) (depth (tree_view c.args.value.now)) t (sym c.decreases) deep, c.requires)

pub expand_value-returns-in-Some : goal.expand_value-returns-in-Some
expand_value-returns-in-Some t c =
    let at = replacement (tree_members c.args.evaluators.now) c.args.more in
    let ms = tree_members c.in-Object.members.now in
    let named : reference ms ≡ Some c.in-Some.name.now =
    sym c.reference.ensures ∙ ap (option_map (λ s. s.now)) c.in-Some.is in
    let seen : tree_view c.args.value.now ≡ object ms = ap tree_view c.in-Object.is ∙ view-Object c.in-Object.members in
    let same : expansion at (tree_view c.args.value.now) c.args.left ≡ at c.in-Some.name.now c.args.left =
    ap (λ d. expansion at d c.args.left) seen ∙ at_reference at ms c.in-Some.name.now c.args.left named in
    subst (λ w. Gives (with_rest tree_view) TellsBroken c.expand_reference.result w) (sym same) c.expand_reference.ensures

pub expand_reference-expand_value-requires : goal.expand_reference-expand_value-requires
expand_reference-expand_value-requires t c =
    let evaluators = tree_members c.args.evaluators.now in
    let e = tree_view c.in-Some.evaluator.now in
    let found : get_member c.args.name.now evaluators ≡ Some e = sym c.member_in_order.ensures ∙
    ap (option_map (λ x. tree_view x.now)) c.in-Some.is in
    let first : 2 * (c.args.more * suc (members_depth evaluators)) + 1 ≡ t = c.requires.1.0 in (
      falls_replaced c.args.more (c.args.more - 1) (members_depth evaluators) (depth e) t (omega arith) (sym first)
          (flat_get (suc (members_depth evaluators)) c.args.name.now (object evaluators) e (omega arith) found),
      c.requires.1.1,
    )

pub expand_reference-returns-in-Some : goal.expand_reference-returns-in-Some
expand_reference-returns-in-Some t c =
    let evaluators = tree_members c.args.evaluators.now in
    let found : get_member c.args.name.now evaluators ≡ Some (tree_view c.in-Some.evaluator.now) =
    sym c.member_in_order.ensures ∙ ap (option_map (λ x. tree_view x.now)) c.in-Some.is in
    subst (λ w. Gives (with_rest tree_view) TellsBroken c.expand_value.result w)
    (sym (at_name evaluators c.args.name.now c.args.more (c.args.more - 1) c.args.left _ found (omega arith)))
    c.expand_value.ensures

pub expand_reference-returns-in_ok-from_str-in-None : goal.expand_reference-returns-in_ok-from_str-in-None
expand_reference-returns-in_ok-from_str-in-None t c =
    let evaluators = tree_members c.args.evaluators.now in
    let found : get_member c.args.name.now evaluators ≡ None = sym c.member_in_order.ensures ∙
    ap (option_map (λ x. tree_view x.now)) c.in-None.is in
    at_name evaluators c.args.name.now c.args.more (c.args.more - 1) c.args.left _ found (omega arith) ∙
    ap (λ n. Err (unknown n)) (sym c.in_ok-from_str-in-None.ensures.ok)

pub expand_value-returns-in-Ok : goal.expand_value-returns-in-Ok
expand_value-returns-in-Ok t c =
    let at = replacement (tree_members c.args.evaluators.now) c.args.more in
    let ms = tree_members c.in-Object.members.now in
    let plain : reference ms ≡ None = sym c.reference.ensures ∙ ap (option_map (λ s. s.now)) c.in-None.is in
    let inner : members_expansion at ms (c.args.left - 1) ≡ Ok (tree_members c.in-Ok.found.now, c.in-Ok.rest) =
    subst (λ r. Gives (with_rest (λ w. tree_members w.now)) TellsBroken r
    (members_expansion at ms (c.args.left - 1))) c.in-Ok.is c.expand_members.ensures in
    ap (λ x. expansion at (tree_view x) c.args.left) c.in-Object.is ∙
    ap (λ d. expansion at d c.args.left) (view-Object c.in-Object.members) ∙
    at_object at ms c.args.left (c.args.left - 1) plain (omega arith)
    ∙ ap (λ w. onward w (λ es m. Ok (object es, m))) inner ∙ ap (λ d. Ok (d, c.in-Ok.rest)) (sym (view-Object c.in-Ok.found))

pub expand_value-returns-in-Err : goal.expand_value-returns-in-Err
expand_value-returns-in-Err t c =
    let at = replacement (tree_members c.args.evaluators.now) c.args.more in
    let ms = tree_members c.in-Object.members.now in
    let plain : reference ms ≡ None = sym c.reference.ensures ∙ ap (option_map (λ s. s.now)) c.in-None.is in
    let inner = members_expansion at ms (c.args.left - 1) in
    gives_err {A = Bor (List Entry) × ℕ} (with_rest (λ w. tree_members w.now)) (with_rest tree_view) c.in-Err.fault
    inner (expansion at (tree_view c.args.value.now) c.args.left)
    (subst (λ r. Gives (with_rest (λ w. tree_members w.now)) TellsBroken r inner) c.in-Err.is c.expand_members.ensures)
    (λ e h. ap (λ x. expansion at (tree_view x) c.args.left) c.in-Object.is ∙
    ap (λ d. expansion at d c.args.left) (view-Object c.in-Object.members) ∙
    at_object at ms c.args.left (c.args.left - 1) plain (omega arith) ∙
    ap (λ w. onward w (λ es m. Ok (object es, m))) h)

pub expand_value-returns-in-Ok-expand_items : goal.expand_value-returns-in-Ok-expand_items
expand_value-returns-in-Ok-expand_items t c =
    let at = replacement (tree_members c.args.evaluators.now) c.args.more in
    let ds = tree_items c.in-Array.items.now in
    let inner : items_expansion at ds (c.args.left - 1) ≡ Ok (map tree_view c.in-Ok-expand_items.found.now, c.in-Ok-expand_items.rest) =
    subst (λ r. Gives (with_rest (λ w. map tree_view w.now)) TellsBroken r
    (items_expansion at ds (c.args.left - 1))) c.in-Ok-expand_items.is c.expand_items.ensures in
    ap (λ x. expansion at (tree_view x) c.args.left) c.in-Array.is ∙
    ap (λ d. expansion at d c.args.left) (view-Array c.in-Array.items) ∙
    at_array at ds c.args.left (c.args.left - 1) (omega arith)
    ∙ ap (λ w. onward w (λ es m. Ok (array (items_of es), m))) inner ∙
    ap (λ d. Ok (d, c.in-Ok-expand_items.rest)) (sym (view-Array c.in-Ok-expand_items.found))

pub expand_value-returns-in-Err-expand_items : goal.expand_value-returns-in-Err-expand_items
expand_value-returns-in-Err-expand_items t c =
    let at = replacement (tree_members c.args.evaluators.now) c.args.more in
    let ds = tree_items c.in-Array.items.now in
    let inner = items_expansion at ds (c.args.left - 1) in
    gives_err {A = Bor (List Tree) × ℕ} (with_rest (λ w. map tree_view w.now)) (with_rest tree_view)
    c.in-Err-expand_items.fault inner (expansion at (tree_view c.args.value.now) c.args.left)
    (subst (λ r. Gives (with_rest (λ w. map tree_view w.now)) TellsBroken r inner) c.in-Err-expand_items.is c.expand_items.ensures)
    (λ e h. ap (λ x. expansion at (tree_view x) c.args.left) c.in-Array.is ∙
    ap (λ d. expansion at d c.args.left) (view-Array c.in-Array.items) ∙
    at_array at ds c.args.left (c.args.left - 1) (omega arith) ∙
    ap (λ w. onward w (λ es m. Ok (array (items_of es), m))) h)

pub expand_value-returns-then-left-eq0 : goal.expand_value-returns-then-left-eq0
expand_value-returns-then-left-eq0 t c =
    let at = replacement (tree_members c.args.evaluators.now) c.args.more in
    let ms = tree_members c.in-Object.members.now in
    let plain : reference ms ≡ None = sym c.reference.ensures ∙ ap (option_map (λ s. s.now)) c.in-None.is in
    ap (λ x. expansion at (tree_view x) c.args.left) c.in-Object.is ∙
    ap (λ d. expansion at d c.args.left) (view-Object c.in-Object.members) ∙
    at_full at ms c.args.left plain c.if-left-eq0.true

pub expand_members-returns : goal.expand_members-returns
expand_members-returns t c =
    let walk = members_expansion (replacement (tree_members c.args.evaluators.now) c.args.more) in
    let l = c.loop-member in
    let ms = c.args.members.now in
    let over : drop l.member-index ms ≡ [] = drop_all l.member-index ms c.loop-member-test.false in
    sym l.invariant.0
    ∙ ap (λ es. after_members (tree_members l.found.items) (walk (tree_members es) l.unused)) over
    ∙ ap (λ (es : Members). Ok (es, l.unused)) (append-none (tree_members l.found.items) ∙ ap tree_members (sym c.into_bump_slice.ensures))
