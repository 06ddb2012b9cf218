-- A hall whose desk draws and settles, and what it shows.
use Rattle.std.proofs.Common.{◌≡◌, ◌<◌, ◌≤◌, ◌++◌, ◌∷◌, ℕ, Ok, Err, Some, None, List, [], length, sym}
use Rattle.std.proofs.Common.{ap, subst, ◌∙◌, arith, length-append}
use Rattle.std.specs.Prelude.{IfNone, IfOk, IfSome, MatchOption, OnErr, Option, Result}
use Rattle.fp_desk.specs.Desk.{DeskState, IsNewDraw, settled_front}
use Rattle.fp_edit.specs.Edits.{Change}
use Rattle.fp_group_commit.specs.Tokens.{FrontState, Identity, front_revision}
use Rattle.fp_publish.specs.Fronts.{Begins}
use Rattle.fp_record.specs.Group.{Group}
use Rattle.fp_committer.specs.Committer.{DeskHalfState, HaveDrawn}
use Rattle.fp_committer.specs.Halves.{HalfState, Names}
use Rattle.fp_committer.specs.StoreHalf.{StoreHalfState}
use Rattle.fp_hall.specs.Hall.{HallState, IsOrderly, desk_of}

module _ (store : Identity) (desk_lists store_lists : Names) (h : HallState) (w : IsOrderly store desk_lists store_lists h) where
  -- a batch is drawn
  pub drawn_orderly : (n : DeskHalfState) (group : Group) → IsNewDraw h.desk n.desk group →
      n.half ≡ record h.half { all = h.half.all ++ group.changes } →
      IsOrderly store desk_lists store_lists (record h { desk = n.desk; half = n.half })
  drawn_orderly n group draw half =
      let is = draw.new_is in record {
        ours = record {
          ours = ap (λ (d : DeskState). d.store) is ∙ w.ours.ours;
          named = (ap (λ (x : HalfState). x.own) half ∙ w.ours.named.0, ap (λ (x : HalfState). x.there) half ∙ w.ours.named.1);
        };
        shown = subst (λ (f : FrontState). Begins h.shown f) (sym (ap settled_front is)) w.shown;
        idle = w.idle;
        handed = w.handed;
        closed = λ closing. ap (λ (d : DeskState). d.stopped) is ∙ w.closed closing;
        over = λ ended well. (let parts = draw.longest.parts in let some = draw.longest.some in let none = (w.over ended well).waiting in
            let len = ap length (sym parts ∙ none) in absurd (some_there group.changes n.desk.waiting some len));
      }
    where
      some_there : (xs ys : List Change) → 0 < length xs → length (xs ++ ys) ≡ 0 → ⊥
      some_there [] ys some none = absurd (omega (arith, some))
      some_there (x ∷ xs) ys some none = absurd (omega (arith, none))

-- whatever the draw answered
pub orderly_then : {D E : Type 0} (store : Identity) (desk_lists store_lists : Names) (h : HallState)
    (n : DeskHalfState) (b m : StoreHalfState D) (X : Type 0) (r : Result (Option ℕ) E) →
    IsOrderly store desk_lists store_lists h
    → IfOk r (λ o. MatchOption o X (HaveDrawn (desk_of h) n b m)) →
    IfOk r (λ o. IfNone o ((n ≡ desk_of h) × (m ≡ b))) → OnErr r ((n ≡ desk_of h) × (m ≡ b)) →
    IsOrderly store desk_lists store_lists (record h { desk = n.desk; half = n.half })
orderly_then store desk_lists store_lists h n b m X (Ok None) w drawn none unchanged =
    subst (λ (d : DeskHalfState). IsOrderly store desk_lists store_lists (record h { desk = d.desk; half = d.half }))
    (sym none.0) w
orderly_then store desk_lists store_lists h n b m X (Ok (Some count)) w drawn none unchanged =
    drawn_orderly store desk_lists store_lists h w n drawn.group drawn.drawn drawn.half
orderly_then store desk_lists store_lists h n b m X (Err e) w drawn none unchanged =
    subst (λ (d : DeskHalfState). IsOrderly store desk_lists store_lists (record h { desk = d.desk; half = d.half }))
    (sym unchanged.0) w

-- ---- what is shown
-- a front reaches as far as one that begins it
pub begins_reaches : (f g : FrontState) → Begins f g → front_revision f ≤ front_revision g
begins_reaches f g begins =
    let start = ap (λ (s : Identity). s.start.revision) begins.0 in
    let parts = sym (length-append f.edits begins.1.0) ∙ ap length begins.1.1 in omega (arith, start, parts)

-- what is shown of what was told reaches it
pub shown_reaches : (told shown : FrontState) (X : Type 0) (o : Option FrontState) →
    MatchOption o X (λ s. (s ≡ shown) × Begins told s) → IfSome o (λ s. front_revision told ≤ front_revision s)
shown_reaches told shown X None is = tt
shown_reaches told shown X (Some s) is = begins_reaches told s is.1
