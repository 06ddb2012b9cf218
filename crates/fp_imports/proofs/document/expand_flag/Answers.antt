use Rattle.std.proofs.Common.{◌≡◌, ℕ, Ok, codes, get_or, sym, ap, subst, ◌∙◌}
use Rattle.serde_json.specs.Data.{object, put}
use Rattle.fp_base.specs.Ordered.{IsOrdered}
use Rattle.fp_base.specs.Sorted.{IsSorted}
use Rattle.fp_base.specs.TreeView.{Entry, tree_view, tree_members}
use Rattle.fp_base.specs.declared.tree.Tree.{Tree}
use Rattle.fp_imports.specs.Document.{flag_expansion}
use Rattle.fp_imports.specs.Faults.{with_rest}
use Rattle.fp_imports.specs.Places.{IsPlaceOf}
use Rattle.fp_imports.specs.References.{whole_expansion}
use Rattle.fp_base.proofs.Inside.{ordered_get}
use Rattle.fp_imports.proofs.Places.{put-at, put-same, found-at, ordered-put}
use Rattle.fp_imports.proofs.Targetings.{targeting-put, targeting-broken}
use Rattle.fp_base.proofs.Views.{view-Object}
use Rattle.fp_imports.proofs.Walks.{gives_err}
use Rattle.fp_imports.proofs.document.expand_flag.Goals as goal

pub returns-then-stands-clause-made : goal.returns-then-stands-clause-made
returns-then-stands-clause-made c =
    let evaluators = tree_members c.args.evaluators.now in
    let v = c.in-Object.members in
    let ms = tree_members v.now in
    let m : Entry = get_or v.now c.in-Some.at c.index-members-at.result in
    let here : m ≡ get_or v.now c.in-Some.at m = ap (get_or v.now c.in-Some.at) c.index-members-at.is in
    let shape : tree_view c.args.flag.now ≡ object ms = ap tree_view c.in-Object.is ∙ view-Object v in
    let ordered = subst IsOrdered shape c.requires.flag in
    let place = c.in-Some.ensures.found in
    let stays = c.stands.ensures c.if-stands.true evaluators in
    ap (flag_expansion evaluators) shape
    ∙ targeting-put evaluators ms (tree_view m.1) (found-at place ordered.0 m here) (tree_view m.1) stays.0 stays.1
    ∙ ap (λ es. Ok (object es)) (put-same place ordered.0 m here) ∙ ap Ok (sym shape)

pub expand-requires-clause-targeting : goal.expand-requires-clause-targeting
expand-requires-clause-targeting c =
    let v = c.in-Object.members in
    let m : Entry = get_or v.now c.in-Some.at c.index-members-at-2.result in
    let here : m ≡ get_or v.now c.in-Some.at m = ap (get_or v.now c.in-Some.at) c.index-members-at-2.is in
    let shape : tree_view c.args.flag.now ≡ object (tree_members v.now) = ap tree_view c.in-Object.is ∙ view-Object v in
    let ordered = subst IsOrdered shape c.requires.flag in
    ordered_get (codes "targeting") (object (tree_members v.now)) (tree_view m.1) ordered
    (found-at c.in-Some.ensures.found ordered.0 m here)

-- another targeting takes the place of the one that was found
put_in : (c : goal.After-into_bump_slice) → IsSorted (tree_members c.in-Object.members.now) →
    tree_members c.into_bump_slice.result.now ≡ put (codes "targeting") (tree_view c.in-Ok.targeting) (tree_members c.in-Object.members.now)
put_in c sorted =
    let same = c.in_ok-expanded-in-Ok.ensures.items in
    let t = c.in-Ok.targeting in
    ap tree_members c.into_bump_slice.ensures
    ∙ put-at (subst (λ es. IsPlaceOf (codes "targeting") es c.in-Some.at) (sym same) c.in-Some.ensures.found)
    (subst (λ es. IsSorted (tree_members es)) (sym same) sorted) c.index_mut.result.now c.index_mut.ensures.value t
    ∙ ap (λ es. put (codes "targeting") (tree_view t) (tree_members es)) same

pub returns-in_ok-expanded-in-Ok-clause-made : goal.returns-in_ok-expanded-in-Ok-clause-made
returns-in_ok-expanded-in-Ok-clause-made c =
    let evaluators = tree_members c.args.evaluators.now in
    let v = c.in-Object.members in
    let ms = tree_members v.now in
    let m : Entry = get_or v.now c.in-Some.at c.index-members-at-2.result in
    let here : m ≡ get_or v.now c.in-Some.at m = ap (get_or v.now c.in-Some.at) c.index-members-at-2.is in
    let shape : tree_view c.args.flag.now ≡ object ms = ap tree_view c.in-Object.is ∙ view-Object v in
    let ordered = subst IsOrdered shape c.requires.flag in
    let walk : whole_expansion evaluators (tree_view m.1) ≡ Ok (tree_view c.in-Ok.targeting, c.in-Ok.field-0-1) = c.in-Ok.ensures.made in
    ap (flag_expansion evaluators) shape
    ∙ targeting-put evaluators ms (tree_view m.1) (found-at c.in-Some.ensures.found ordered.0 m here)
    (tree_view c.in-Ok.targeting) c.in-Ok.field-0-1 walk
    ∙ ap (λ es. Ok (object es)) (sym (put_in c ordered.0)) ∙ ap Ok (sym (view-Object _))

pub returns-in_ok-expanded-in-Ok-clause-ordered : goal.returns-in_ok-expanded-in-Ok-clause-ordered
returns-in_ok-expanded-in-Ok-clause-ordered c =
    let v = c.in-Object.members in
    let t = c.in-Ok.targeting in
    let shape : tree_view c.args.flag.now ≡ object (tree_members v.now) = ap tree_view c.in-Object.is ∙ view-Object v in
    let ordered = subst IsOrdered shape c.requires.flag in
    subst IsOrdered (ap object (sym (put_in c ordered.0)) ∙ sym (view-Object _))
    (ordered-put (codes "targeting") (tree_view t) (tree_members v.now) c.in-Ok.ensures.ordered ordered)

pub returns-in-Err-clause-made : goal.returns-in-Err-clause-made
returns-in-Err-clause-made c =
    let evaluators = tree_members c.args.evaluators.now in
    let v = c.in-Object.members in
    let ms = tree_members v.now in
    let m : Entry = get_or v.now c.in-Some.at c.index-members-at-2.result in
    let here : m ≡ get_or v.now c.in-Some.at m = ap (get_or v.now c.in-Some.at) c.index-members-at-2.is in
    let shape : tree_view c.args.flag.now ≡ object ms = ap tree_view c.in-Object.is ∙ view-Object v in
    let ordered = subst IsOrdered shape c.requires.flag in
    gives_err {A = Tree × ℕ} {C = Tree} (with_rest tree_view) tree_view c.in-Err.fault
    (whole_expansion evaluators (tree_view m.1)) (flag_expansion evaluators (tree_view c.args.flag.now))
    c.in-Err.ensures.made
    (λ x h. ap (flag_expansion evaluators) shape ∙
    targeting-broken evaluators ms (tree_view m.1) (found-at c.in-Some.ensures.found ordered.0 m here) x h)
