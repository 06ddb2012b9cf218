use Rattle.std.proofs.Common.{rules, ◌≡◌, ◌<◌, ◌+◌, ◌^◌, List, length, sym, ap, subst, ◌∙◌, arith}
use Rattle.std.specs.Prelude.{IsTrue}
use Rattle.fp_edit.specs.Edits.{Change}
use Rattle.fp_edit.specs.Following.{changes_of}
use Rattle.fp_record.specs.Group.{Group}
use Rattle.fp_pending.specs.Following.{Follows}
use Rattle.fp_pending.proofs.Following.{follows_small}
use Rattle.fp_group_commit.proofs.draw.ready.Goals as goal

pub framed-requires-clause-revisions : goal.framed-requires-clause-revisions
framed-requires-clause-revisions c =
    let s = c.catch_up.new.set in
    let yes : IsTrue c.accepts.result = search rules in
    let here : changes_of c.deref.result.now ≡ c.args.draw.now.changes = ap changes_of c.deref.ensures.value ∙
    ap (λ (g : Group). g.changes) c.draw.view_is in
    let f : Follows s c.args.draw.now.changes = subst (λ (l : List Change). Follows s l) here (c.accepts.ensures.0 yes) in
    let first : c.args.draw.now.first ≡ c.revision.result + 1 = sym (ap (λ (g : Group). g.first) c.draw.view_is) ∙
    c.if-draw-revision.false in
    let is = c.revision.ensures.revision in let bounded = c.revision.ensures.bounded in
    let small : s.revision + length c.args.draw.now.changes < 2 ^ 63 =
    follows_small s c.args.draw.now.changes (omega (arith, is, bounded)) f in
    omega (arith, small, first, is)
