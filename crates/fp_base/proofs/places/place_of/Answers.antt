use Rattle.std.proofs.Common.{◌≡◌, ◌+◌, ◌-◌, ◌/◌, ◌<◌, ◌∷◌, ◌++◌, take, drop, length, Less, nat_cmp, sym, ap, subst, ◌∙◌, arith}
use Rattle.std.specs.Cmp.Lexicographic.{slice_cmp}
use Rattle.std.proofs.lemmas.List.{take-append-drop}
use Rattle.fp_base.specs.Places.{AreBefore}
use Rattle.fp_base.specs.Sorted.{IsSorted}
use Rattle.fp_base.specs.TreeView.{Entry, tree_members}
use Rattle.fp_base.proofs.Halves.{before-up_to, less}
use Rattle.fp_base.proofs.Turns.{drop-here, take-here}
use Rattle.fp_base.proofs.places.place_of.Goals as goal

pub loop-low-preserved-then-is_lt : goal.loop-low-preserved-then-is_lt
loop-low-preserved-then-is_lt c =
    let ms = c.args.members.now in
    let low = c.loop-low.low in
    let high = c.loop-low.high in
    let name = c.args.name.now in
    let middle = low + (high - low) / 2 in
    let m : Entry = c.index-members-middle.result in
    let inside : middle < length ms = omega arith in
    let here : drop middle ms ≡ m ∷ drop (middle + 1) ms = drop-here ms middle m inside c.index-members-middle.is in
    let all : ms ≡ take middle ms ++ m ∷ drop (middle + 1) ms = sym (take-append-drop middle ms) ∙ ap (λ ys. take middle ms ++ ys) here in
    let before : slice_cmp nat_cmp m.0.now name ≡ Less =
    ap (λ (x : Entry). slice_cmp nat_cmp x.0.now name) c.index-members-middle.is ∙ sym c.cmp.ensures ∙
    less c.cmp.result (sym c.is_lt.ensures ∙ c.if-is_lt.true) in (
      omega arith,
      c.loop-low.invariant.1,
      subst (AreBefore name) (sym (take-here ms middle m inside c.index-members-middle.is))
          (before-up_to name (take middle ms) m (drop (middle + 1) ms) (subst (λ ys. IsSorted (tree_members ys)) all c.requires) before),
      c.loop-low.invariant.3,
    )
