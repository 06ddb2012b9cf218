use Rattle.std.proofs.Common.{◌≡◌, ◌+◌, List, length, true, false, sym, ap, subst, ◌∙◌, arith}
use Rattle.std.proofs.lemmas.List.{length-map}
use Rattle.fp_edit.specs.Edits.{Change}
use Rattle.fp_edit.specs.Following.{change_of, changes_of}
use Rattle.fp_pending.specs.Following.{Follows}
use Rattle.fp_edit.specs.Log.{after_all}
use Rattle.fp_edit.proofs.Runs.{revision-after_all}
use Rattle.fp_record.specs.Group.{Group}
use Rattle.fp_group_commit.proofs.draw.refusal_behind.Goals as goal
use Rattle.fp_group_commit.proofs.draw.refusal_behind.Goals.{After-revision}

-- the revision behind what is ahead
module _ (c : After-revision) where
  ahead_is : (after_all c.args.set.now (changes_of c.args.ahead.now)).revision ≡ c.args.set.now.revision + length c.args.ahead.now
  ahead_is = revision-after_all c.args.set.now (changes_of c.args.ahead.now) ∙
      ap (λ n. c.args.set.now.revision + n) (length-map c.args.ahead.now change_of)

pub returns-then-draw-revision : goal.returns-then-draw-revision
returns-then-draw-revision c = λ on.
    let first = ap (λ (g : Group). g.first) c.draw.view_is in let is = c.revision.ensures.revision in
    let here = ahead_is (goal.at.returns-then-draw-revision c).After-revision in let its = on.0 in
    absurd (c.if-draw-revision.true (omega (arith, first, is, here, its)))

pub returns-then-not-accepts_behind : goal.returns-then-not-accepts_behind
returns-then-not-accepts_behind c = λ on.
    let edits : changes_of c.deref.result.now ≡ c.args.draw.now.changes = ap changes_of c.deref.ensures.value ∙
    ap (λ (g : Group). g.changes) c.draw.view_is in
    let base = after_all c.args.set.now (changes_of c.args.ahead.now) in
    let yes = c.accepts_behind.ensures.1 (c.requires, subst (λ (l : List Change). Follows base l) (sym edits) on.1) in
    let none : false ≡ true = sym c.if-not-accepts_behind.true ∙ yes in absurd (cc none)

pub returns : goal.returns
returns c =
    let edits : changes_of c.deref.result.now ≡ c.args.draw.now.changes = ap changes_of c.deref.ensures.value ∙
    ap (λ (g : Group). g.changes) c.draw.view_is in
    let first = ap (λ (g : Group). g.first) c.draw.view_is in let is = c.revision.ensures.revision in
    let here = ahead_is (goal.at.returns c).After-revision in let same = c.if-draw-revision.false in
    let base = after_all c.args.set.now (changes_of c.args.ahead.now) in (
      omega (arith, first, is, here, same),
      subst (λ (l : List Change). Follows base l) edits
          (c.accepts_behind.ensures.0 c.if-not-accepts_behind.false).1,
    )
