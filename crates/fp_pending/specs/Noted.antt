-- What flags take, noted by their keys, behind edits that are not made.
use Rattle.std.specs.Prelude.{◌≡◌, ℕ, List, IfSome, unwrap_or}
use Rattle.std.specs.Borrow.{Bor}
use Rattle.std.specs.BTreeMap.{BTreeMap, get_by}
use Rattle.std.specs.FinMap as fin
use Rattle.fp_base.specs.Bytes.{bytes_cmp}
use Rattle.fp_edit.specs.Flags.{Flags, State, cost_found}
use Rattle.fp_pending.specs.declared.costs.Costs.{Costs}

-- what is noted at a key, and what it took before where nothing is
abbrev pub noted_at : BTreeMap (Bor (List ℕ)) ℕ → List ℕ → ℕ → ℕ
noted_at noted k before = unwrap_or (get_by (λ q. bytes_cmp k q.now) noted) before

-- this leads from what each flag took to what it takes
abbrev pub AreNoted : BTreeMap (Bor (List ℕ)) ℕ → Flags → Flags → Type 0
AreNoted noted before after =
    (k : List ℕ) → noted_at noted k (cost_found k (fin.get before k)) ≡ cost_found k (fin.get after k)

-- the same of two sets, where it is noted
abbrev pub IsNoted : Costs → State → State → Type 0
IsNoted costs s t = IfSome costs.noted (λ noted. AreNoted noted s.flags t.flags)
