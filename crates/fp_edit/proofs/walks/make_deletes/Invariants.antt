use Rattle.std.proofs.Common.{◌≡◌, ◌+◌, ◌*◌, ◌≤◌, ◌^◌, ℕ, drop}
use Rattle.std.specs.BTreeMap.{IsOrdered}
use Rattle.fp_edit.specs.Admits.{parts_after}
use Rattle.fp_documents.specs.Entries.{flags_of}
use Rattle.fp_edit.specs.Puts.{deletes_of}
use Rattle.fp_edit.specs.Flags.{size}
use Rattle.fp_definition.specs.Key.{flag_cmp}
use Rattle.fp_edit.proofs.Parts.{parts_in}
use Rattle.fp_edit.proofs.walks.make_deletes.Given as goal

-- what is left decides for all
abbrev pub invariant-loop-change : goal.invariant-loop-change
invariant-loop-change l =
    let before = flags_of l.fn.flags.entries in
    let now = flags_of l.flags.entries in
    let rest = parts_in (drop l.change-index l.changes) in record {
      ordered : IsOrdered flag_cmp l.flags;
      left : (r : ℕ) → parts_after r now (deletes_of rest) ≡ parts_after r before (deletes_of (parts_in l.changes));
      sized : size now + l.gone ≡ size before;
      small : l.gone ≤ l.change-index * 2 ^ 66;
    }
