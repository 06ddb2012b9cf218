use Rattle.std.proofs.Common.{◌≡◌, ◌<◌, ◌-◌, true, List, [], ◌∷◌, length, take, drop, set, get_or, sym, subst, ap, ◌∙◌}
use Rattle.std.proofs.Common.{arith, tests, rules}
use Rattle.std.proofs.lemmas.Grind.{common_steps}
use Rattle.fp_documents.specs.Entries.{flags_of}
use Rattle.fp_edit.specs.Flags.{Flags}
use Rattle.fp_edit.specs.Parts.{proposed_of}
use Rattle.fp_edit.specs.Puts.{any_new}
use Rattle.fp_edit.specs.declared.edit.Change as code
use Rattle.fp_edit.proofs.Making.{new-more}
use Rattle.fp_edit.proofs.Parts.{parts_in}
use Rattle.fp_edit.proofs.walks.+make_puts.Goals as goal

-- the first change and those behind it, whatever takes its place
split : (cs : List code.Change) (c d : code.Change) → 0 < length cs
    → get_or cs 0 d ∷ take (length (set cs 0 c) - 1) (drop 1 (set cs 0 c)) ≡ cs
split [] c d some = absurd (omega (arith, some))
split (x ∷ xs) c d some = grind (arith, common_steps)

pub returns-in-Err-clause-new : goal.returns-in-Err-clause-new
returns-in-Err-clause-new n c =
    let m = flags_of c.args.flags.now.entries in
    let cs = c.args.changes.now in
    let x = c.index-changes-0.result in
    let new = c.make_put.new.change in
    let some : 0 < length cs = search (tests, rules) in
    let rest = take (length (set cs 0 new) - 1) (drop 1 (set cs 0 new)) in
    let more = ap (λ (f : Flags). any_new f (parts_in rest)) (sym c.in_ok-first.ensures.made) ∙ c.in-Err.ensures.new in
    subst (λ (l : List code.Change). any_new m (parts_in l) ≡ true) (split cs new x some)
    (new-more c.args.revision m (proposed_of (get_or cs 0 x)).part (parts_in rest) more)
