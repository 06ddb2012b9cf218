use Rattle.std.proofs.Common.{◌≡◌, ◌≤◌, rules, sym, subst, List, ℕ}
use Rattle.std.specs.FinMap.{entries, len}
use Rattle.fp_documents.specs.Entries.{entries_of}
use Rattle.fp_documents.specs.declared.flags.Flag.{Flag}
use Rattle.fp_record.specs.WellFormed.{IsOrdered}
use Rattle.fp_record.proofs.Sets.{set_in_order}
use Rattle.fp_edit.specs.declared.flag_set.TheConstants.{MOST_FLAGS}
use Rattle.fp_record.proofs.image.shared.Goals as goal

pub returns-clause-ordered : goal.returns-clause-ordered
returns-clause-ordered c =
    let set = c.args.set.now in
    let all : entries_of c.loop-key.flags.items ≡ entries set.flags = search rules in
    let few : len set.flags ≤ MOST_FLAGS = rw (← c.len-count.ensures.len) c.len-count.ensures.bounded in
    subst (λ (flags : List (List ℕ × Flag)). IsOrdered flags) (sym all)
    (set_in_order set.revision set.flags c.iter-key-items.result few c.iter-key-items.ensures.entries
    c.iter-key-items.ensures.changed)
