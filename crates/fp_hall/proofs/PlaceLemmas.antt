-- Where an edit stands among all that a desk accepted, and among what is settled.
use Rattle.std.proofs.Common.{◌≡◌, ◌≤◌, ◌<◌, ◌+◌, ◌++◌, ◌∷◌, ℕ, Ok, Err, Some, None, List, [], length, sym, ap, ◌∙◌}
use Rattle.std.proofs.Common.{append_assoc, arith}
use Rattle.std.specs.Prelude.{IfNone, IfOk, MatchOption, OnErr, Option, Result}
use Rattle.fp_committer.specs.Committer.{DeskHalfState, HaveDrawn}
use Rattle.fp_committer.specs.StoreHalf.{StoreHalfState}
use Rattle.fp_desk.specs.Desk.{DeskState, IsNewDraw, log, settled_revision}
use Rattle.fp_edit.specs.Edits.{Change}
use Rattle.fp_group_commit.specs.Tokens.{FrontState, Identity}
use Rattle.fp_hall.specs.Places.{StandsAt}
use Rattle.fp_publish.specs.Fronts.{Begins}
use Rattle.fp_record.specs.Group.{Group}

-- what stands within the first part of two
first_part : (before xs ys after : List Change) (c : Change) → xs ++ ys ≡ before ++ c ∷ after → length before < length xs →
    (rest : List Change) × (xs ≡ before ++ c ∷ rest)
first_part before [] ys after c is short = absurd (omega (arith, short))
first_part [] (x ∷ xs) ys after c is short = (xs, ap (λ y. y ∷ xs) (let same : x ≡ c = cc in same))
first_part (b ∷ before) (x ∷ xs) ys after c is short =
    let rest = first_part before xs ys after c (let same : xs ++ ys ≡ before ++ c ∷ after = cc in same) (omega (arith, short)) in
    (rest.0, ap (λ y. y ∷ xs) (let same : x ≡ b = cc in same) ∙ ap (λ zs. b ∷ zs) rest.1)

-- of what was accepted, what is told of the settled edits has an edit where its revision is settled
pub stands-told : (store : Identity) (d : DeskState) (all : List Change) (told : FrontState) (n : ℕ) (c : Change) → d.store ≡ store →
    all ≡ log d → told.store ≡ d.store → told.edits ≡ d.settled → n ≤ settled_revision d →
    StandsAt (record { store = store; edits = all }) n c → StandsAt told n c
stands-told store d all told n c ours is same settled reached at =
    let start = ap (λ (s : Identity). s.start.revision) ours in
    let part = first_part at.before d.settled (d.drawn ++ d.waiting) at.after c (sym is ∙ at.there)
    (omega (arith, reached, at.place, start)) in
    record {
      before = at.before;
      after = part.0;
      there = settled ∙ part.1;
      place = at.place ∙ ap (λ (s : Identity). s.start.revision + length at.before + 1) (sym (same ∙ ours));
    }

-- and what stands in a front stands in one that goes on from it
pub stands-on : (f g : FrontState) (n : ℕ) (c : Change) → Begins f g → StandsAt f n c → StandsAt g n c
stands-on f g n c begins at = record {
  before = at.before;
  after = at.after ++ begins.1.0;
  there = sym begins.1.1 ∙ ap (λ l. l ++ begins.1.0) at.there ∙ append_assoc at.before (c ∷ at.after) begins.1.0;
  place = at.place ∙ ap (λ (s : Identity). s.start.revision + length at.before + 1) begins.0;
}

-- ---- to draw and to settle accepts nothing

drawn-log : (a n : DeskState) (group : Group) → IsNewDraw a n group → log n ≡ log a
drawn-log a n group draw =
    ap log draw.new_is ∙ ap (λ l. a.settled ++ l) (sym draw.longest.parts ∙ ap (λ l. l ++ a.waiting) (sym draw.none_out))

pub have_drawn-log : {D : Type 0} (a n : DeskHalfState) (b m : StoreHalfState D) (count : ℕ) → HaveDrawn a n b m count →
    log n.desk ≡ log a.desk
have_drawn-log a n b m count drew = drawn-log a.desk n.desk drew.group drew.drawn

-- whatever the call answered
pub log_then : {D Y E : Type 0} (a n : DeskHalfState) (b m : StoreHalfState D) (X : Type 0) (P : Y → Type 0)
    (r : Result (Option Y) E) → ((y : Y) → P y → log n.desk ≡ log a.desk) → IfOk r (λ o. MatchOption o X P) →
    IfOk r (λ o. IfNone o ((n ≡ a) × (m ≡ b))) → OnErr r ((n ≡ a) × (m ≡ b)) → log n.desk ≡ log a.desk
log_then a n b m X P (Ok None) same did none unchanged = ap (λ (d : DeskHalfState). log d.desk) none.0
log_then a n b m X P (Ok (Some y)) same did none unchanged = same y did
log_then a n b m X P (Err e) same did none unchanged = ap (λ (d : DeskHalfState). log d.desk) unchanged.0
