use Rattle.std.proofs.Common.{◌≡◌, ◌<◌, ◌≤◌, ◌++◌, ℕ, zero, suc, List, [], ◌∷◌, length, map, take, drop, get_or, set}
use Rattle.std.proofs.Common.{refl, sym, ap, ap₂, ◌∙◌, add-one, arith}
use Rattle.std.proofs.lemmas.List.{append-nil, drop_all, length-map, map-set, take_all, with_items_is}
use Rattle.std.proofs.Math.ListN.{get_or-map}
use Rattle.std.specs.Vec.{with_items}
use Rattle.fp_edit.specs.Changes.{set_fault}
use Rattle.fp_edit.specs.Parts.{ProposedPart, free, parts_of, proposed_of}
use Rattle.fp_edit.proofs.Parts.{parts_of-free}
use Rattle.fp_edit.proofs.changes.Changes.unconditional.Goals as goal
use Rattle.fp_edit.proofs.changes.Changes.unconditional.Goals.{After-loop-change}

-- the first of them expect nothing
abbrev freed : ℕ → List ProposedPart → List ProposedPart
freed i ps = map free (parts_of (take i ps)) ++ drop i ps

freed-one : (i : ℕ) (ps : List ProposedPart) (q : ProposedPart) → i < length ps → q ≡ get_or (freed i ps) i q →
    set (freed i ps) i (free q.part) ≡ freed (suc i) ps
freed-one i [] q within is = absurd (omega (arith, within))
freed-one zero (p ∷ ps) q within is = ap (λ (x : ProposedPart). free x.part ∷ ps) is
freed-one (suc i) (p ∷ ps) q within is = ap (λ (l : List ProposedPart). free p.part ∷ l) (freed-one i ps q (omega (arith, within)) is)

freed-all : (i : ℕ) (ps : List ProposedPart) → length ps ≤ i → freed i ps ≡ map free (parts_of ps)
freed-all i ps h = rw (take_all i ps h, drop_all i ps h, append-nil (map free (parts_of ps))) refl

pub loop-change-preserved : goal.loop-change-preserved
loop-change-preserved c =
    let items = c.loop-change.change-items in
    let i = c.loop-change.change-index in
    let x = c.change-item.result in
    let freed_so : map proposed_of items ≡ freed i c.args.self = c.loop-change.invariant in
    let is : proposed_of x ≡ get_or (freed i c.args.self) i (proposed_of x) =
    ap proposed_of c.change-item.is ∙ sym (get_or-map proposed_of items i x) ∙
    ap (λ (l : List ProposedPart). get_or l i (proposed_of x)) freed_so in
    let forgot : proposed_of c.forget.new.self ≡ free (proposed_of x).part = c.forget.ensures ∙
    ap (λ y. free (proposed_of y).part) (sym c.change-item.is) in
    let count = ap length c.self.view_is in
    let mapped = length-map c.self.inside.changes.items proposed_of in
    let given = ap length c.deref_mut-change-items.ensures.value in
    map-set proposed_of items i c.forget.new.self
    ∙ ap₂ (λ (l : List ProposedPart) (y : ProposedPart). set l i y) freed_so forgot
    ∙ freed-one i c.args.self (proposed_of x) (omega arith) is
    ∙ ap (λ (n : ℕ). freed n c.args.self) (sym (add-one i))

made : (c : After-loop-change) →
    map proposed_of (with_items c.self.inside.changes c.loop-change.change-items).items ≡ map free
    (parts_of c.args.self)
made c =
    let count = ap length c.self.view_is in
    let mapped = length-map c.self.inside.changes.items proposed_of in
    let given = ap length c.deref_mut-change-items.ensures.value in
    let all = c.self.inside.changes.ok.0 in
    let still = c.loop-change.auto.change-items in
    ap (map proposed_of) (with_items_is c.self.inside.changes c.loop-change.change-items (omega arith))
    ∙ c.loop-change.invariant
    ∙ freed-all c.loop-change.change-index c.args.self (omega arith)

pub invariant_of-result : goal.invariant_of-result
invariant_of-result c =
    ap set_fault (ap parts_of (made (goal.at.invariant_of-result c).After-loop-change) ∙
    parts_of-free (parts_of c.args.self) ∙ ap parts_of (sym c.self.view_is)) ∙ c.self.invariant

pub returns : goal.returns
returns c = made (goal.at.returns c).After-loop-change
