use Rattle.std.proofs.Common.{◌≡◌, length, sym, subst, ap, ◌∙◌, arith}
use Rattle.std.specs.Prelude.{OnOk}
use Rattle.serde_json.specs.Data.{no_members, put}
use Rattle.fp_base.specs.Gathered.{gathered, laid, IsFalling}
use Rattle.fp_base.specs.TreeView.{tree_view, tree_members}
use Rattle.fp_base.proofs.Gatherings.{alone-falls, alone-laid, none-ordered}
use Rattle.fp_base.proofs.gathering.Gathered.put_in_place.Goals as goal

pub put_falling-requires-then-len-eq1-clause-falling : goal.put_falling-requires-then-len-eq1-clause-falling
put_falling-requires-then-len-eq1-clause-falling c =
    let one : length c.args.self.now.ordered.items ≡ 1 = grind arith in
    subst (λ v. IsFalling v.items) (sym c.replace.ensures.value) (alone-falls c.args.self.now.ordered.items one)

pub returns-then-len-eq1-clause-members : goal.returns-then-len-eq1-clause-members
returns-then-len-eq1-clause-members c =
    let ordered = c.args.self.now.ordered.items in
    let waiting = c.args.self.now.waiting.items in
    let one : length ordered ≡ 1 = grind arith in
    let none : length waiting ≡ 0 = grind arith in
    let left : length c.replace.new.dest.items ≡ 0 = ap (λ v. length v.items) c.replace.ensures.after ∙ ap length c.new.ensures.items in
    let same : laid (tree_members c.replace.new.dest.items) c.replace.result.items ≡ laid (tree_members ordered) waiting =
    none-ordered c.replace.new.dest.items c.replace.result.items left
    ∙ ap (λ v. laid no_members v.items) c.replace.ensures.value
    ∙ alone-laid ordered waiting one none in
    subst (λ ms. OnOk c.put_falling-then-len-eq1.result
    (gathered c.put_falling-then-len-eq1.new.self ≡ put c.args.name.now (tree_view c.args.tree) ms)) same
    c.put_falling-then-len-eq1.ensures.members
