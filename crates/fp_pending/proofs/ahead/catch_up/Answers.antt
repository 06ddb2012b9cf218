use Rattle.std.proofs.Common.{◌≡◌, List, ◌∷◌, sym, ap, subst, ◌∙◌}
use Rattle.fp_edit.specs.Admits.{next}
use Rattle.fp_edit.specs.Edits.{Change, change_in, proposal_of}
use Rattle.fp_edit.specs.Flags.{State}
use Rattle.fp_edit.specs.Following.{change_of, changes_of, unconditional}
use Rattle.fp_pending.specs.Following.{Follows}
use Rattle.fp_edit.specs.Log.{after_all}
use Rattle.fp_edit.specs.declared.edit.Edit.{Edit}
use Rattle.fp_edit.proofs.Followed.{change-unconditional}
use Rattle.fp_pending.proofs.ahead.catch_up.Goals as goal
use Rattle.fp_pending.proofs.ahead.catch_up.Goals.{After-push_front_reserved}

-- what is expected is no part of what is changed
same_change : (e f : Edit) → proposal_of f ≡ unconditional (change_of e) → change_of f ≡ change_of e
same_change e f is = ap change_in is ∙ change-unconditional (change_of e)

-- the edit stands in front again
as_before : (c : After-push_front_reserved) → changes_of c.push_front_reserved.new.self.items ≡ changes_of c.loop-edit.ahead.items
as_before c =
    ap changes_of c.push_front_reserved.ensures.items
    ∙ ap (λ (x : Change). x ∷ changes_of c.pop_front.new.self.items)
    (ap change_of c.in-Err.ensures.given_back ∙
    same_change c.in-Some.edit c.unconditional.result c.unconditional.ensures)
    ∙ sym (ap changes_of c.in-Some.ensures.items)

pub loop-edit-preserved : goal.loop-edit-preserved
loop-edit-preserved c =
    let s = c.loop-edit.set in
    let rest = changes_of c.pop_front.new.self.items in
    let made : c.make.new.self ≡ next s (change_of c.in-Some.edit) = c.in_default-make.ensures.admitted.1 ∙
    ap (next s) (same_change c.in-Some.edit c.unconditional.result c.unconditional.ensures) in
    let all = subst (λ (xs : List Edit). Follows s (changes_of xs)) c.in-Some.ensures.items c.loop-edit.invariant.1 in (
      ap (λ (t : State). after_all t rest) made ∙
          sym (ap (λ (xs : List Edit). after_all s (changes_of xs)) c.in-Some.ensures.items) ∙
          c.loop-edit.invariant.0,
      subst (λ (t : State). Follows t rest) (sym made) all.1,
    )

pub returns-in-Err-clause-same : goal.returns-in-Err-clause-same
returns-in-Err-clause-same c = rw (c.in-Err.ensures.unchanged, as_before c) c.loop-edit.invariant.0

pub returns-in-Err-clause-follows : goal.returns-in-Err-clause-follows
returns-in-Err-clause-follows c = rw (c.in-Err.ensures.unchanged, as_before c) c.loop-edit.invariant.1
