-- What is added to code, and what it then does.
use Rattle.std.specs.Prelude.{◌≡◌, ◌≤◌, ◌<◌, ◌+◌, ◌^◌, ℕ, List, [], ◌∷◌, ◌++◌, length, map, get_or}
use Rattle.std.specs.Prelude.{false, max, option_and_then}
use Rattle.fp_operators.specs.Data.{Data, null}
use Rattle.fp_operators.specs.Path.{named_by}
use Rattle.fp_operators.specs.View.{view}
use Rattle.fp_operators.specs.declared.datum.Datum.{Datum}
use Rattle.fp_machine.specs.Frugal.{IsFrugal}
use Rattle.fp_machine.specs.Machine.{Env, Turn, look, run, found_at}
use Rattle.fp_machine.specs.Meaning.{meaning, meanings, value_of_operator}
use Rattle.fp_machine.specs.Memory.{needs_memory}
use Rattle.fp_targeting.specs.Nesting.{nesting}
use Rattle.fp_targeting.specs.Places.{places, all_places}
use Rattle.fp_machine.specs.Reading.{operand_rule, read, in_order}
use Rattle.fp_machine.specs.Rule.{Rule, apply}
use Rattle.fp_machine.specs.Stack.{onto}
use Rattle.fp_machine.specs.View.{rules_of}
use Rattle.fp_machine.specs.declared.operator.Operator.{Operator}
use Rattle.fp_machine.specs.declared.code.Code.{Code}
use Rattle.fp_machine.specs.declared.code.Operand.{Operand}
use Rattle.fp_machine.specs.declared.code.Step.{Step}
use Rattle.fp_machine.specs.Numbers.{DEEPEST_RULE}

-- the code, or what it becomes, has this pool, of which each place has its number of 16 bits, and
-- this room
pub record Has (env : Env) (code : Code) : Type 0 where
  pub more : List Data
  pub pool : env.pool ≡ map view code.pool.items ++ more
  pub fits : length env.pool ≤ 2 ^ 16
  pub room : code.room ≤ env.room

pub record Grows (old new : Code) : Type 0 where
  pub more : List Step
  pub steps : new.steps.items ≡ old.steps.items ++ more
  pub within : (env : Env) → Has env new → Has env old

-- one instruction was added, to be done first
pub record Pushed (step : Step) (old new : Code) : Type 0 where
  pub steps : new.steps.items ≡ old.steps.items ++ step ∷ []
  pub pool : new.pool ≡ old.pool
  pub room : new.room ≡ old.room

-- an instruction that keeps one more result is to be done first; with it, so many are kept
pub record Raised (step : Step) (height : ℕ) (old new : Code) : Type 0 where
  pub steps : new.steps.items ≡ old.steps.items ++ step ∷ []
  pub pool : new.pool ≡ old.pool
  pub room : new.room ≡ max old.room height

-- a datum stands at this place in the pool
pub record Stands (n : ℕ) (d : Data) (pool : List Datum) : Type 0 where
  pub within : n < length pool
  pub is : get_or (map view pool) n null ≡ d

-- a datum has this place in the pool, and was put there where it hadn't
pub record IsPlaced (n : ℕ) (d : Data) (old new : Code) : Type 0 where
  pub grows : Grows old new
  pub steps : new.steps ≡ old.steps
  pub room : new.room ≡ old.room
  pub few : length new.pool.items ≤ length old.pool.items + 1
  pub is : (env : Env) → Has env new → get_or env.pool n null ≡ d

-- the operand stands for a rule that no instruction is needed for
pub record IsOperand (o : Operand) (r : Rule) (old new : Code) : Type 0 where
  pub grows : Grows old new
  pub steps : new.steps ≡ old.steps
  pub room : new.room ≡ old.room
  pub looks : (env : Env) → Has env new → (root v : Data) → look env root v o ≡ meaning root r
  pub few : length new.pool.items ≤ length old.pool.items + 1
  pub reads : (env : Env) → Has env new → (t : List Rule) → operand_rule env o t ≡ (r, t)

-- code of a rule was added, to be done first: behind it the rule's result is at hand. So many
-- results are kept when it begins.
pub record Adds (height : ℕ) (r : Rule) (old new : Code) : Type 0 where
  pub grows : Grows old new
  pub few : length new.pool.items ≤ length old.pool.items + places r
  pub runs : (env : Env) → Has env new → (root v : Data) (s : List Data) → length s ≡ height
      → run env root (in_order new) 0 v s ≡ run env root (in_order old) 0 (meaning root r) s
  pub reads : (env : Env) → Has env new → (t : List Rule)
      → read env (in_order new) t ≡ read env (in_order old) (r ∷ t)
  pub frugal : needs_memory r ≡ false → height + nesting r ≤ DEEPEST_RULE → IsFrugal old
      → IsFrugal new

-- code of an operator at rules was added, and no place but for what its arguments take
pub record AddsAlone (height : ℕ) (o : Operator) (rs : List Rule) (old new : Code) : Type 0 where
  pub adds : Adds height (apply o (rules_of rs)) old new
  pub alone : length new.pool.items ≤ length old.pool.items + all_places (rules_of rs)

-- code of a rule was added: behind it the rule's result is kept
pub record KeepsOne (height : ℕ) (r : Rule) (old new : Code) : Type 0 where
  pub grows : Grows old new
  pub few : length new.pool.items ≤ length old.pool.items + places r
  pub runs : (env : Env) → Has env new → (root v : Data) (s : List Data) → length s ≡ height
      → (w : Data) × (run env root (in_order new) 0 v s
      ≡ run env root (in_order old) 0 w (meaning root r ∷ s))
  pub reads : (env : Env) → Has env new → (t : List Rule)
      → read env (in_order new) t ≡ read env (in_order old) (r ∷ t)

-- code of rules was added: behind it their results are kept
pub record Keeps (height : ℕ) (rs : List Rule) (old new : Code) : Type 0 where
  pub grows : Grows old new
  pub few : length new.pool.items ≤ length old.pool.items + all_places (rules_of rs)
  pub runs : (env : Env) → Has env new → (root v : Data) (s : List Data) → length s ≡ height
      → (w : Data) × (run env root (in_order new) 0 v s
      ≡ run env root (in_order old) 0 w (onto (meanings root (rules_of rs)) s))
  pub reads : (env : Env) → Has env new → (t : List Rule)
      → read env (in_order new) t ≡ read env (in_order old) (onto rs t)

-- code of an operator's arguments was added: behind it the operator's result is at hand
pub record Decides (o : Operator) (height : ℕ) (rs : List Rule) (old new : Code) : Type 0 where
  pub grows : Grows old new
  pub few : length new.pool.items ≤ length old.pool.items + all_places (rules_of rs)
  pub runs : (env : Env) → Has env new → (root v : Data) (s : List Data) → length s ≡ height
      → run env root (in_order new) 0 v s
      ≡ run env root (in_order old) 0 (value_of_operator o root (meanings root (rules_of rs))) s
  pub reads : (env : Env) → Has env new → (t : List Rule)
      → read env (in_order new) t ≡ read env (in_order old) (onto rs t)
  pub frugal : needs_memory (apply o (rules_of rs)) ≡ false
      → height + nesting (apply o (rules_of rs)) ≤ DEEPEST_RULE → IsFrugal old → IsFrugal new

-- code of a path was added: behind it, what the path names is at hand and so many instructions
-- are skipped, or null is at hand
pub record Finds (skip height : ℕ) (p : Rule) (old new : Code) : Type 0 where
  pub grows : Grows old new
  pub few : length new.pool.items ≤ length old.pool.items + places p
  pub runs : (env : Env) → Has env new → (root v : Data) (s : List Data) → length s ≡ height
      → run env root (in_order new) 0 v s
      ≡ option_and_then (λ (t : Turn). run env root (in_order old) t.0 t.1 t.2)
      (found_at skip s (named_by (meaning root p) root))
  pub reads : (env : Env) → Has env new → (t : List Rule)
      → read env (in_order new) t ≡ read env (in_order old) (p ∷ t)
  pub frugal : needs_memory p ≡ false → height + nesting p ≤ DEEPEST_RULE → IsFrugal old
      → IsFrugal new
