use Rattle.std.proofs.Common.{◌≡◌, ℕ, nat_lt, List, Option, Some, None, sym, ap, ◌∙◌, arith, le-leb}
use Rattle.std.specs.Int.{from_bool}
use Rattle.std.specs.FinMap as fin
use Rattle.fp_definition.specs.Key.{key_bytes}
use Rattle.fp_edit.specs.Flags.{cost_found, one_found}
use Rattle.fp_edit.specs.Lent.{lent}
use Rattle.fp_edit.specs.Parts.{part_key}
use Rattle.fp_documents.specs.declared.flags.Flag.{Flag}
use Rattle.fp_edit.proofs.Lending.{one_with}
use Rattle.fp_edit.proofs.Parts.{count-part, size-part}
use Rattle.fp_edit.proofs.sums.sums_after.Goals as goal

counts : (k : List ℕ) (o : Option Flag) (n there : ℕ) → n ≡ cost_found k o → there ≡ from_bool (nat_lt 0 n) → there ≡ one_found o
counts k None n there is h = h ∙ ap (λ (x : ℕ). from_bool (nat_lt 0 x)) is
counts k (Some f) n there is h = h ∙ ap from_bool (le-leb 1 n (omega (arith, is)))

none_there : (n there : ℕ) → n ≡ 0 → there ≡ from_bool (nat_lt 0 n) → there ≡ 0
none_there n there is h = h ∙ ap (λ (x : ℕ). from_bool (nat_lt 0 x)) is

pub returns-clause-after : goal.returns-clause-after
returns-clause-after c = λ r m count size found.
    let p = (lent c.args.part).part in
    let sizes = size-part r m p in let counted = count-part r m p in
    let cost = c.cost.ensures.cost r in
    let one = one_with r (key_bytes c.args.part.key.now) c.args.part.flag ∙ sym (ap from_bool c.is_some.ensures) in
    let puts = c.from.ensures in
    let there = counts (part_key p) (fin.get m (part_key p)) c.args.found c.from-2.result found c.from-2.ensures in
    (omega arith, omega arith)

pub returns-clause-most : goal.returns-clause-most
returns-clause-most c = λ none r m count size.
    let p = (lent c.args.part).part in
    let sizes = size-part r m p in let counted = count-part r m p in
    let cost = c.cost.ensures.cost r in
    let one = one_with r (key_bytes c.args.part.key.now) c.args.part.flag ∙ sym (ap from_bool c.is_some.ensures) in
    let puts = c.from.ensures in
    let there = none_there c.args.found c.from-2.result none c.from-2.ensures in
    (omega arith, omega arith)
