use Rattle.std.proofs.Common.{◌≡◌, ◌++◌, ℕ, false}
use Rattle.std.specs.FinMap as map
use Rattle.serde_json.specs.Data.{Data}
use Rattle.serde_json.specs.Written.{items_text}
use Rattle.fp_documents.specs.Entries.{entries_of}
use Rattle.fp_ofrep.specs.Bulk.{flag_items}
use Rattle.fp_targeting.specs.RuleData.{IsOfContext}
use Rattle.fp_ofrep.proofs.bulk.put_flags.Given as goal

-- what is put, and the text of the flags that are left, is the text of all
abbrev pub invariant-loop-key : goal.invariant-loop-key
invariant-loop-key l =
    ((context : Data) (now : ℕ) → IsOfContext context now l.initial.«data» → IsOfContext context now l.«data»)
    × ((context : Data) (now : ℕ) → IsOfContext context now l.initial.«data»
    → l.out.items ++ items_text l.later (flag_items (entries_of l.key-iterator) context now) ≡ l.initial.out.items ++
    items_text false (flag_items (map.entries l.set.flags) context now))
