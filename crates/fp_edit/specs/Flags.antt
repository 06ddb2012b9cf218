-- Sets of flags: what stays true of every set, and how their values are told apart.
use Rattle.std.specs.Prelude.{◌≡◌, ℕ, ◌<◌, ◌≤◌, List, Some, refl}
use Rattle.std.specs.Coded.{Coded, coded×, coded_ℕ, coded_list, code_by}
use Rattle.std.specs.FinMap as map
use Rattle.fp_documents.specs.Numbers.{IMAGE_HEAD}
use Rattle.fp_documents.specs.declared.flags.Flag.{Flag}
use Rattle.fp_edit.specs.Numbers.{REVISIONS_END}
use Rattle.fp_edit.specs.Numbers.{MOST_FLAGS}
-- the flags, what they take, and the set that they make
pub use Rattle.fp_documents.specs.Flags.{Flags, State, cost, total_cost, size}
pub use Rattle.fp_documents.specs.Flags.{cost_found, one_found}

-- a flag was changed by one of the edits up to a revision
abbrev pub IsChangedBy : ℕ → Flag → Type 0
IsChangedBy revision f = (1 ≤ f.changed) × (f.changed ≤ revision)

-- what stays true of a set and of the size that is kept of it
pub record IsTallied (flags : Flags) (revision limit kept : ℕ) : Type 0 where
  pub size : kept ≡ size flags
  pub few : map.len flags ≤ MOST_FLAGS
  pub numbered : revision < REVISIONS_END
  pub within : IMAGE_HEAD ≤ limit → kept ≤ limit
  pub changed : (k : List ℕ) (f : Flag) → map.get flags k ≡ Some f → IsChangedBy revision f

abbrev pub coded_flag : Coded Flag
coded_flag =
    code_by (List ℕ × ℕ) (coded× (coded_list coded_ℕ) coded_ℕ) (λ f. (f.definition, f.changed))
    (λ p. record { definition = p.0; changed = p.1 }) (λ _. refl)

abbrev pub coded_state : Coded State
coded_state =
    code_by (Flags × (ℕ × ℕ))
    (coded× (map.code (coded_list coded_ℕ) coded_flag) (coded× coded_ℕ coded_ℕ))
    (λ s. (s.flags, (s.revision, s.limit)))
    (λ p. record { flags = p.0; revision = p.1.0; limit = p.1.1 }) (λ _. refl)
