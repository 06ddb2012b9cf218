-- Code that may read the moment of an evaluation.
use Rattle.std.specs.Prelude.{ℕ, List, [], ◌∷◌, Bool, true, false, not, ◌&&◌, ◌||◌}
use Rattle.std.specs.Prelude.{bytes_eq, codes}
use Rattle.fp_operators.specs.Path.{parts}
use Rattle.fp_machine.specs.Machine.{Env, path_at}
use Rattle.fp_machine.specs.declared.code.Operand.{Operand}
use Rattle.fp_machine.specs.declared.code.Operand.TheVariants.{Constant, Variable, All, AtHand}
use Rattle.fp_machine.specs.declared.code.Step.{Step}
use Rattle.fp_machine.specs.declared.code.Step.TheVariants.{Load, LoadNull, LoadWhole, Keep, KeepOf}
use Rattle.fp_machine.specs.declared.code.Step.TheVariants.{Skip, SkipIfFalse, SkipIfTrue, Find}
use Rattle.fp_machine.specs.declared.code.Step.TheVariants.{FindVariable, One, Two, Three}
use Rattle.fp_machine.specs.declared.code.Step.TheVariants.{Second, Third, Join, Collect, Split}
use Rattle.fp_machine.specs.declared.code.Step.TheVariants.{SplitByOwnKey, Wrap, End}

-- of what is told about the evaluation, the flag's key alone is the same at any moment
abbrev pub is_of_the_moment : List (List ℕ) → Bool
is_of_the_moment [] = true
is_of_the_moment (p ∷ ps) = not (bytes_eq p (codes "flagKey"))

-- the parts of a path may name what depends on the moment
abbrev pub parts_read : List (List ℕ) → Bool
parts_read [] = true
parts_read (p ∷ ps) = bytes_eq p (codes "$flagd") && is_of_the_moment ps

-- the empty text names all data
abbrev pub path_reads : List ℕ → Bool
path_reads [] = true
path_reads (b ∷ bs) = parts_read (parts (b ∷ bs))

abbrev pub operand_reads : Env → Operand → Bool
operand_reads env (Constant n) = false
operand_reads env (Variable n) = path_reads (path_at env n)
operand_reads env All = true
operand_reads env AtHand = false

-- the instruction may read the moment: what a computed path names isn't known
abbrev pub step_reads : Env → Step → Bool
step_reads env (Load o) = operand_reads env o
step_reads env LoadNull = false
step_reads env (LoadWhole z) = false
step_reads env Keep = false
step_reads env (KeepOf o) = operand_reads env o
step_reads env (Skip n) = false
step_reads env (SkipIfFalse n) = false
step_reads env (SkipIfTrue n) = false
step_reads env (Find n) = true
step_reads env (FindVariable path n) = path_reads (path_at env path)
step_reads env (One o a) = operand_reads env a
step_reads env (Two o a b) = operand_reads env a || operand_reads env b
step_reads env (Three o a b) = operand_reads env a || operand_reads env b
step_reads env (Second o) = false
step_reads env (Third o) = false
step_reads env (Join n) = false
step_reads env (Collect n) = false
step_reads env Wrap = false
step_reads env (Split a pairs) = operand_reads env a
step_reads env (SplitByOwnKey pairs) = false
step_reads env (End o n) = false

abbrev pub any_reads : Env → List Step → Bool
any_reads env [] = false
any_reads env (c ∷ cs) = step_reads env c || any_reads env cs
