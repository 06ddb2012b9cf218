use Rattle.std.proofs.Common.{◌≡◌, ◌+◌, ◌∷◌, drop, sym, ap, ◌∙◌, rules}
use Rattle.std.proofs.lemmas.List.{drop_all}
use Rattle.std.proofs.lemmas.Slice.Eq.{bytes_eq-Decides}
use Rattle.serde_json.specs.Find.{get_member}
use Rattle.fp_base.specs.TreeView.{Entry, tree_view, tree_members}
use Rattle.fp_base.proofs.Named.{found-later}
use Rattle.fp_base.proofs.Turns.{drop-here}
use Rattle.fp_imports.proofs.Places.{same-place}
use Rattle.fp_imports.proofs.document.place_of.Goals as goal

pub returns-then-eq-clause-found : goal.returns-then-eq-clause-found
returns-then-eq-clause-found c =
    let x = c.index-members-at.result in
    record {
      within = c.loop-at-test.true;
      named = λ m is. ap (λ (y : Entry). y.0.now)
          (same-place c.args.members.now c.loop-at.at m x c.loop-at-test.true is c.index-members-at.is) ∙
          (bytes_eq-Decides x.0.now c.args.name.now).0 (search rules);
    }

pub loop-at-preserved : goal.loop-at-preserved
loop-at-preserved c =
    let ms = c.args.members.now in
    let at = c.loop-at.at in
    let m = c.index-members-at.result in
    let name = c.args.name.now in
    let here : drop at ms ≡ m ∷ drop (at + 1) ms = drop-here ms at m c.loop-at-test.true c.index-members-at.is in
    sym (found-later name m.0.now (tree_view m.1) (tree_members (drop (at + 1) ms)) (search rules))
    ∙ ap (λ ys. get_member name (tree_members ys)) (sym here)
    ∙ c.loop-at.invariant

pub returns-clause-none : goal.returns-clause-none
returns-clause-none c = λ _.
    sym c.loop-at.invariant ∙ ap (λ ys. get_member c.args.name.now (tree_members ys))
    (drop_all c.loop-at.at c.args.members.now c.loop-at-test.false)
