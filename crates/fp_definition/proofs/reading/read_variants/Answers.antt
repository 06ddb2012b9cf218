use Rattle.std.proofs.Common.{◌≡◌, ◌-◌, ◌∷◌, ◌++◌, [], Some, length, refl, sym, ap, subst, ◌∙◌}
use Rattle.std.proofs.Common.{false, true≢false, append_assoc, rules}
use Rattle.serde_json.specs.Data.{Data, Members, object}
use Rattle.serde_json.specs.Written.{compact_text, members_text}
use Rattle.fp_base.specs.TreeView.{tree_members, tree_view}
use Rattle.fp_base.proofs.Views.{view-Object}
use Rattle.fp_canonical.proofs.Next.{object_here}
use Rattle.fp_definition.specs.Numbers.{DEEPEST_DEFINITION}
use Rattle.fp_definition.specs.Spelled.{AreAt}
use Rattle.fp_definition.proofs.Passed.{past}
use Rattle.fp_definition.proofs.reading.read_variants.Goals as goal

same : (ms ns : Members) → Some (object ms) ≡ Some (object ns) → ms ≡ ns
same ms ns h = cc

pub returns-then-take-clause-noted : goal.returns-then-take-clause-noted
returns-then-take-clause-noted c = λ passed len ms is.
    let all = tree_members c.in_ok-members.members.now in
    let vs = c.in_ok-members.variants.items in
    let seen = view-Object c.in_ok-members.members in
    let opened = c.take.ensures.taken c.if-take.true in
    let text = past (passed ++ c.args.cursor.now) passed c.args.cursor.now (123 ∷ []) c.take.new.self refl opened in
    let noted = c.in_ok-members.ensures.noted (passed ++ 123 ∷ []) (len ∙ ap length text) in
    subst (AreAt _ vs) (same all ms (ap Some (sym seen) ∙ is))
    (subst (λ xs. AreAt xs vs all) (append_assoc passed (123 ∷ []) (members_text false all) ∙
    ap (λ d. passed ++ compact_text d) (sym seen)) noted)

unsome : (d e : Data) → Some d ≡ Some e → d ≡ e
unsome d e h = cc

pub returns-clause-noted : goal.returns-clause-noted
returns-clause-noted c = λ passed len ms is.
    let read = c.in_ok-value.ensures.read in
    let left = c.read_value.new.cursor in
    let opened = sym (c.take.ensures.kept c.if-take.false) ∙ read.spelled
    ∙ ap (λ d. compact_text d ++ left) (unsome (tree_view c.in_ok-value.value) (object ms) is) in
    absurd (true≢false (sym (c.take.ensures.next (members_text false ms ++ left) opened) ∙ c.if-take.false))

pub returns-in_err-members-clause-taken : goal.returns-in_err-members-clause-taken
returns-in_err-members-clause-taken c = λ d left reads ends.
    let here = object_here (DEEPEST_DEFINITION - 1) c.args.cursor.now c.take.new.self left d reads (c.take.ensures.taken c.if-take.true) in
    let is = c.in_err-members.ensures.taken here.0 left here.3 here.1 in search rules

pub returns-then-take-clause-taken : goal.returns-then-take-clause-taken
returns-then-take-clause-taken c = λ d left reads ends.
    let here = object_here (DEEPEST_DEFINITION - 1) c.args.cursor.now c.take.new.self left d reads (c.take.ensures.taken c.if-take.true) in
    c.in_ok-members.ensures.taken here.0 left here.3 here.1
