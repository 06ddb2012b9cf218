use Rattle.std.proofs.Common.{subst, sym, arith}
use Rattle.fp_base.specs.TreeView.{tree_items}
use Rattle.fp_edit.specs.Line as says
use Rattle.fp_edit.proofs.Lines.{IsReading, begins_reading, ordered_item, reads_on, breaks_off, ends_reading, told_more}
use Rattle.fp_edit.proofs.line.changes_in.Goals as goal

pub loop-at-init : goal.loop-at-init
loop-at-init c =
    let e = c.in_ok-changes.ensures in
    (begins_reading _ _ c.requires e.items, e.len, omega (arith, e))

pub change_inside-requires : goal.change_inside-requires
change_inside-requires c =
    ordered_item _ _ _ c.index-items-at.result c.loop-at-test.true c.index-items-at.is c.loop-at.invariant.0

pub push_reserved-requires : goal.push_reserved-requires
push_reserved-requires c = let i = c.loop-at.invariant in let lt = c.loop-at-test.true in omega (arith, i)

pub returns-in-Err : goal.returns-in-Err
returns-in-Err c =
    let breaks = breaks_off _ _ _ c.index-items-at.result c.loop-at-test.true c.index-items-at.is c.loop-at.invariant.0 in
    c.fault_in_set.ensures (says.parts_from 0 (tree_items c.args.items.now)) (told_more c.in-Err.fault _ _ breaks c.in-Err.ensures.value)

pub loop-at-preserved : goal.loop-at-preserved
loop-at-preserved c =
    let i = c.loop-at.invariant in
    let p = c.push_reserved.ensures in
    let on = reads_on _ _ _ c.index-items-at.result c.loop-at-test.true c.index-items-at.is i.0 c.in-Ok.change c.in-Ok.ensures.value in
    (subst (IsReading _ _) (sym p.items) on, omega (arith, i, p), omega (arith, i, p))

pub returns : goal.returns
returns c = ends_reading _ _ _ c.loop-at-test.false c.loop-at.invariant.0
