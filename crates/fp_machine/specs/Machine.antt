-- What instructions do. One result is at hand, and others are kept on a stack.
use Rattle.std.specs.Prelude.{ℕ, zero, suc, List, [], ◌∷◌, length, get_or}
use Rattle.std.specs.Prelude.{Option, Some, None, option_and_then, nat_le, nat_lt, if◌then◌else◌}
use Rattle.fp_operators.specs.Data.{Data, null, boolean, whole, text, list, object}
use Rattle.fp_operators.specs.Data as values
use Rattle.fp_operators.specs.Path.{at_text, found_or, named_by}
use Rattle.fp_operators.specs.Text.{concatenation}
use Rattle.fp_operators.specs.Truth.{truth}
use Rattle.fp_operators.specs.View.{items_of}
use Rattle.fp_machine.specs.Meaning.{or_null}
use Rattle.fp_machine.specs.Operators.{result_of_few}
use Rattle.fp_machine.specs.Rule.{Rules}
use Rattle.fp_machine.specs.Split.{chosen, text_in, own_key}
use Rattle.fp_machine.specs.Stack.{off}
use Rattle.fp_machine.specs.declared.operator.Operator.{Operator}
use Rattle.fp_machine.specs.declared.code.Operand.{Operand}
use Rattle.fp_machine.specs.declared.code.Operand.TheVariants.{Constant, Variable, All, AtHand}
use Rattle.fp_machine.specs.declared.code.Step.{Step}
use Rattle.fp_machine.specs.declared.code.Step.TheVariants.{Load, LoadNull, LoadWhole, Keep, KeepOf}
use Rattle.fp_machine.specs.declared.code.Step.TheVariants.{Skip, SkipIfFalse, SkipIfTrue, Find}
use Rattle.fp_machine.specs.declared.code.Step.TheVariants.{FindVariable, One, Two, Three}
use Rattle.fp_machine.specs.declared.code.Step.TheVariants.{Second, Third, Join, Collect, Split}
use Rattle.fp_machine.specs.declared.code.Step.TheVariants.{SplitByOwnKey, Wrap, End}

-- what instructions name, and how many results may be kept at once
pub record Env : Type 0 where
  pub pool : List Data
  pub room : ℕ

abbrev pub text_bytes : Data → List ℕ
text_bytes null = []
text_bytes (boolean b) = []
text_bytes (whole z) = []
text_bytes (text s) = s
text_bytes (list ds) = []
text_bytes (object ms) = []

abbrev pub path_at : Env → ℕ → List ℕ
path_at env n = text_bytes (get_or env.pool n null)

abbrev pub look : Env → Data → Data → Operand → Data
look env root v (Constant n) = get_or env.pool n null
look env root v (Variable n) = found_or null (at_text (path_at env n) root)
look env root v All = root
look env root v AtHand = v

abbrev pub few : Operator → List Data → Data
few o ds = or_null (result_of_few o ds)

-- how many instructions are skipped next, what is at hand, and what is kept
abbrev pub Turn : Type 0
Turn = ℕ × Data × List Data

abbrev pub found_at : ℕ → List Data → Option Data → Option Turn
found_at n s None = Some (0, null, s)
found_at n s (Some d) = Some (n, d, s)

abbrev pub second : Operator → Data → List Data → Option Turn
second o c [] = None
second o c (b ∷ s) = Some (0, few o (b ∷ c ∷ []), s)

abbrev pub third : Operator → Data → List Data → Option Turn
third o c [] = None
third o c (b ∷ []) = None
third o c (b ∷ a ∷ s) = Some (0, few o (a ∷ b ∷ c ∷ []), s)

abbrev pub of_kept : (List Data → Data) → ℕ → List Data → Option Turn
of_kept f n s =
    if nat_le n (length s) then Some (0, f (off n s []).0, (off n s []).1) else None

abbrev pub list_of : List Data → Data
list_of ds = values.list (items_of ds)

abbrev pub share_of_key : Rules → Option (List ℕ) → Data
share_of_key pairs key = found_or null (option_and_then (chosen pairs) key)

-- what is at hand where what the operand is was taken
abbrev pub left_by : Operand → Data → Data
left_by (Constant n) v = v
left_by (Variable n) v = v
left_by All v = v
left_by AtHand v = null

-- one more result is kept, and another one is at hand next
abbrev pub kept : Env → Data → Data → List Data → Option Turn
kept env next d s = if nat_lt (length s) env.room then Some (0, next, d ∷ s) else None

-- what one instruction does; none where an operand is missing, or the stack is full
abbrev pub act : Env → Data → Step → Data → List Data → Option Turn
act env root (Load o) v s = Some (0, look env root v o, s)
act env root LoadNull v s = Some (0, null, s)
act env root (LoadWhole z) v s = Some (0, whole z, s)
act env root Keep v s = kept env null v s
act env root (KeepOf o) v s = kept env (left_by o v) (look env root v o) s
act env root (Skip n) v s = Some (n, v, s)
act env root (SkipIfFalse n) v s = Some (if truth v then 0 else n, v, s)
act env root (SkipIfTrue n) v s = Some (if truth v then n else 0, v, s)
act env root (Find n) v s = found_at n s (named_by v root)
act env root (FindVariable path n) v s = found_at n s (at_text (path_at env path) root)
act env root (One o a) v s = Some (0, few o (look env root v a ∷ []), s)
act env root (Two o a b) v s =
    Some (0, few o (look env root v a ∷ look env root v b ∷ []), s)
act env root (Three o a b) v s =
    Some (0, few o (look env root v a ∷ look env root v b ∷ v ∷ []), s)
act env root (Second o) v s = second o v s
act env root (Third o) v s = third o v s
act env root (Join n) v s = of_kept concatenation n s
act env root (Collect n) v s = of_kept list_of n s
act env root Wrap v s = Some (0, list_of (v ∷ []), s)
act env root (Split a pairs) v s =
    Some (0, share_of_key pairs (text_in (look env root v a)), s)
act env root (SplitByOwnKey pairs) v s = Some (0, share_of_key pairs (own_key root), s)
act env root (End o n) v s = Some (0, v, s)

-- what instructions give, where so many are skipped first; none where that is more than there are
abbrev pub run : Env → Data → List Step → ℕ → Data → List Data → Option Data
run env root [] zero v s = Some v
run env root [] (suc n) v s = None
run env root (c ∷ cs) (suc n) v s = run env root cs n v s
run env root (c ∷ cs) zero v s =
    option_and_then (λ t. run env root cs t.0 t.1 t.2) (act env root c v s)
