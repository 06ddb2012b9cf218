use Rattle.std.proofs.Common.{◌≡◌, string_bytes, nat_cmp, sym, ap, ◌∙◌, unwrap_or}
use Rattle.std.specs.BTreeMap.{is_at}
use Rattle.std.specs.Cmp.Lexicographic.{slice_cmp}
use Rattle.std.specs.Map.{lookup}
use Rattle.fp_operators.specs.Data.{object, put}
use Rattle.fp_operators.specs.View.{view, members_view}
use Rattle.fp_operators.proofs.Variants.{view-Object}
use Rattle.fp_operators.proofs.Views.{members_view-insert_entry}
use Rattle.fp_targeting.specs.RuleData.{with_member}
use Rattle.fp_targeting.proofs.Rooms.{stands}
use Rattle.fp_targeting.proofs.data.with.Goals as goal

pub returns-in_ok-insert-in-Object-clause-value : goal.returns-in_ok-insert-in-Object-clause-value
returns-in_ok-insert-in-Object-clause-value c =
    let ms = members_view c.in-Object.members.entries in
    let d = view c.args.member in
    let whole : view c.args.datum ≡ object ms = ap view c.in-Object.is ∙ view-Object c.in-Object.members in
    let named : string_bytes c.in_ok-from_str-in-Object.field-0 ≡ c.args.name.now = c.in_ok-from_str-in-Object.ensures.ok in
    view-Object c.insert.new.self
    ∙ ap object (ap members_view c.in_ok-insert-in-Object.ensures.entries
    ∙ members_view-insert_entry c.in-Object.members.entries c.in_ok-from_str-in-Object.field-0 c.args.member
    ∙ ap (λ k. put k d ms) named)
    ∙ sym (ap (with_member c.args.name.now d) whole)

pub returns-in_ok-insert-in-Object-clause-member : goal.returns-in_ok-insert-in-Object-clause-member
returns-in_ok-insert-in-Object-clause-member c =
    let named : string_bytes c.in_ok-from_str-in-Object.field-0 ≡ c.args.name.now = c.in_ok-from_str-in-Object.ensures.ok in
    stands c.args.name.now c.args.member c.insert.new.self
    (λ d found. ap (λ o. unwrap_or o d) (sym found
    ∙ ap (λ n. lookup (is_at (λ s. slice_cmp nat_cmp n (string_bytes s))) c.insert.new.self.entries) (sym named)
    ∙ c.in_ok-insert-in-Object.ensures.updates.1))
