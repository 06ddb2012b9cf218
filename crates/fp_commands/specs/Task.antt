-- What the program's words ask for, and how it ends.
use Rattle.std.specs.Prelude.{◌≡◌, ◌≤◌, ℕ, ◌+◌, List, [], ◌∷◌, ◌++◌, codes, bytes_eq, Option}
use Rattle.std.specs.Prelude.{Some, None, IfSome, Result, Ok, Err, if◌then◌else◌}
use Rattle.std.specs.FinMap as fin
use Rattle.fp_edit.specs.Flags.{State}
use Rattle.fp_streams.specs.Failures.{Stream}
use Rattle.fp_streams.specs.Said.{AppendsLine}
use Rattle.fp_commands.specs.Faults.{fault_text}
use Rattle.fp_commands.specs.declared.fault.CommandFault.{CommandFault}
use Rattle.fp_commands.specs.Numbers.{IMAGE_LIMIT}
use Rattle.fp_commands.specs.declared.program.Task as code
use Rattle.fp_commands.specs.declared.program.Task.TheVariants.{Apply, Init, ApplyFile, Show}
use Rattle.fp_commands.specs.declared.program.Task.TheVariants.{Import, Eval}

-- what words ask for: `apply` is over memory, and all others over the file at this path
pub data Task : Type 0 where
  apply : Task
  init : List ℕ → Task
  apply_file : List ℕ → Task
  show : List ℕ → Task
  import : List ℕ → Task
  -- the path, and the key of a flag
  eval : List ℕ → List ℕ → Task

abbrev pub task_seen : code.Task → Task
task_seen Apply = apply
task_seen (Init path) = init path.now
task_seen (ApplyFile path) = apply_file path.now
task_seen (Show path) = show path.now
task_seen (Import path) = import path.now
task_seen (Eval path key) = eval path.now key.now

-- a command's name with the path of a file behind it
abbrev pub over_file : List ℕ → List ℕ → Option Task
over_file word path =
    if bytes_eq word (codes "init") then Some (init path) else
    if bytes_eq word (codes "apply") then Some (apply_file path) else
    if bytes_eq word (codes "show") then Some (show path) else
    if bytes_eq word (codes "import") then Some (import path) else None

-- a command's name with the key of a flag behind the path; the empty key is none
abbrev pub of_flag : List ℕ → List ℕ → List ℕ → Option Task
of_flag word path [] = None
of_flag word path key = if bytes_eq word (codes "eval") then Some (eval path key) else None

-- all other words are no command
abbrev pub task_of_words : List (List ℕ) → Option Task
task_of_words (word ∷ []) = if bytes_eq word (codes "apply") then Some apply else None
task_of_words (word ∷ path ∷ []) = over_file word path
task_of_words (word ∷ path ∷ key ∷ []) = of_flag word path key
task_of_words words = None

-- what a run over memory starts from, and what a new disk stands for
abbrev pub no_flags : State
no_flags = record { flags = fin.empty; revision = 0; limit = IMAGE_LIMIT }

-- ---- how a task ends

-- neither the reader nor the writer failed
abbrev pub NoneFailed : {R W : Type 0} → Stream R → Stream R → Stream W → Stream W → Type 0
NoneFailed r0 r w0 w = r.failures + w.failures ≤ r0.failures + w0.failures

-- ---- what is told on the error stream

-- this line, unless the stream failed
abbrev pub WritesLine : {E : Type 0} → (E → Option (List ℕ)) → Stream E → Stream E → List ℕ → Type 0
WritesLine contents old new line = new.failures ≡ old.failures
    → AppendsLine (contents old.inner) (contents new.inner) line

abbrev pub usage : List ℕ
usage = codes
    "usage: flagplane init FILE | apply [FILE] | show FILE | eval FILE KEY | import FILE | serve FILE OFREP EDIT STREAM | watch ADDR"

-- the line of a fault of this text
abbrev pub fault_line : List ℕ → List ℕ
fault_line text = codes "flagplane: " ++ text

-- a fault that may have ended the task, by its own text
abbrev pub TellsFault : {E : Type 0} → (E → Option (List ℕ)) → Stream E → Stream E → (CommandFault
    → Type 0) → Type 0
TellsFault contents old new MayEnd = (f : CommandFault) × MayEnd f
    × WritesLine contents old new (fault_line (fault_text f))

-- The status of what ended so, and what is told of it: 0 and nothing where it ended well, and else
-- 1 and the line of its fault, by the fault's own text
abbrev pub IsStatusOf : {E F : Type 0} → (F → Option (List ℕ)) → (E → Option (List ℕ)) → Stream E
    → Stream E → Result (Unit {0}) F → ℕ → Type 0
IsStatusOf text contents old new (Ok x) status = (status ≡ 0) × (new ≡ old)
IsStatusOf text contents old new (Err f) status = (status ≡ 1)
    × IfSome (text f) (λ t. WritesLine contents old new (fault_line t))
