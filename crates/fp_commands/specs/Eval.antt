-- What the evaluation of one flag of a file comes to.
use Rattle.std.specs.Prelude.{ℕ, List, [], ◌∷◌, ◌++◌, decimal, Option, Some, IfSome}
use Rattle.std.specs.Io.KnownBytes.{Appends}
use Rattle.fp_edit.specs.Flags.{State}
use Rattle.fp_ofrep.specs.Reply.{reply_for}
use Rattle.fp_ofrep.specs.Response.{Response}
use Rattle.fp_recovery.specs.Stands.{StandsFor}

-- the status, a space, the body and a newline
abbrev pub reply_line : Response → List ℕ
reply_line r = decimal r.status ++ 32 ∷ r.body ++ 10 ∷ []

-- a writer holds the reply to what was read, for the flag of this key in a set, at a moment
abbrev pub IsAnswered : State → List ℕ → ℕ → Option (List ℕ) → Option (List ℕ) → Option (List ℕ)
    → Type 0
IsAnswered flags key now left old new = IfSome left (λ body. Appends old new (reply_line
    (reply_for flags key (Some body) now)))

-- the same in the set that the bytes stand for
pub record IsEvaluated (is_honest : Type 0) (bytes key : List ℕ) (now : ℕ) (left old new : Option
    (List ℕ)) : Type 0 where
  pub flags : State
  pub stood : is_honest → StandsFor bytes flags
  pub answered : IsAnswered flags key now left old new
