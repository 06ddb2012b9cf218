use Rattle.std.proofs.Common.{◌≡◌, ◌+◌, ◌-◌, ◌<◌, [], ◌∷◌, ◌++◌, take, drop, length, sym, ap, subst}
use Rattle.std.proofs.Common.{◌∙◌, arith, take_all}
use Rattle.std.proofs.lemmas.List.{take-append-drop}
use Rattle.std.proofs.Common.{ℕ, List, Less, nat_cmp}
use Rattle.std.specs.Cmp.Lexicographic.{slice_cmp}
use Rattle.fp_base.specs.Places.{AreBefore}
use Rattle.fp_base.specs.Sorted.{IsSorted}
use Rattle.fp_base.specs.TreeView.{Entry, tree_members}
use Rattle.fp_base.proofs.Halves.{before-up_to, less}
use Rattle.fp_base.proofs.Turns.{drop-here, take-here}
use Rattle.fp_canonical.proofs.reading.comes_last.Goals as goal

pub returns-in-Some-clause-behind : goal.returns-in-Some-clause-behind
returns-in-Some-clause-behind c = λ h.
    let ms = c.args.members.now in
    let i = length ms - 1 in
    let m : Entry = c.in-Some.last.now in
    let name = c.args.name.now in
    let some = c.in-Some.ensures.item.3.0 in
    let is = c.in-Some.ensures.item.1 in
    let inside : i < length ms = omega arith in
    let here : drop i ms ≡ m ∷ drop (i + 1) ms = drop-here ms i m inside is in
    let all : ms ≡ take i ms ++ m ∷ drop (i + 1) ms = sym (take-append-drop i ms) ∙ ap (λ ys. take i ms ++ ys) here in
    let up_to : ms ≡ take i ms ++ m ∷ [] = sym (take_all (i + 1) ms (omega arith)) ∙ take-here ms i m inside is in
    subst (AreBefore name) (sym up_to)
    (before-up_to name (take i ms) m (drop (i + 1) ms) (subst (λ ys. IsSorted (tree_members ys)) all c.requires)
    (sym c.cmp.ensures ∙ less c.cmp.result (sym c.is_lt.ensures ∙ h)))

last_before : (name : List ℕ) (ms : List Entry) (m : Entry) → AreBefore name (ms ++ m ∷ []) → slice_cmp nat_cmp m.0.now name ≡ Less
last_before name [] m h = h.0
last_before name (n ∷ ms) m h = last_before name ms m h.1

pub returns-in-Some-clause-all : goal.returns-in-Some-clause-all
returns-in-Some-clause-all c = λ h.
    let ms = c.args.members.now in
    let i = length ms - 1 in
    let m : Entry = c.in-Some.last.now in
    let name = c.args.name.now in
    let some = c.in-Some.ensures.item.3.0 in
    let is = c.in-Some.ensures.item.1 in
    let inside : i < length ms = omega arith in
    let up_to : ms ≡ take i ms ++ m ∷ [] = sym (take_all (i + 1) ms (omega arith)) ∙ take-here ms i m inside is in
    let less : c.cmp.result ≡ Less = c.cmp.ensures ∙ last_before name (take i ms) m (subst (AreBefore name) up_to h) in
    c.is_lt.ensures ∙ rw less
