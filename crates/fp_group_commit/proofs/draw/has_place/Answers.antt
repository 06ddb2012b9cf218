use Rattle.std.proofs.Common.{List, sym, subst, ◌∙◌, arith}
use Rattle.std.specs.List.{AllByRecursion}
use Rattle.fp_edit.specs.Following.{change_of, changes_of}
use Rattle.fp_edit.specs.declared.edit.Edit.{Edit}
use Rattle.fp_recovery.specs.Stands.{IsAllowed}
use Rattle.fp_group_commit.proofs.Places.{allowed_at}
use Rattle.fp_group_commit.proofs.draw.has_place.Goals as goal

pub returns-in-Set : goal.returns-in-Set
returns-in-Set c = (
  λ h. absurd (cc h),
  λ all.
      let edits = c.deref-edit-items.result.now in
      let here = subst (λ (l : List Edit). AllByRecursion (IsAllowed c.args.version) (changes_of l))
      (sym c.deref-edit-items.ensures.value)
      (subst (λ d. AllByRecursion (IsAllowed c.args.version) d.changes) (sym c.draw.view_is) all) in
      let one = allowed_at c.args.version edits c.loop-edit.edit-index c.edit-item.result c.loop-edit-test.true here in
      let set = subst (λ (e : Edit). IsAllowed c.args.version (change_of e)) (sym c.edit-item.is ∙ c.in-Set.is) one in
      let first = c.if-version-gt-FIRST_VERSION.false in absurd (omega (arith, set, first)),
)
