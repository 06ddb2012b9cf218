-- Runs over what is asked: the reply to each, where it leads the flags, and what is written.
use Rattle.std.specs.Prelude.{◌≡◌, ◌≤◌, ℕ, ◌+◌, List, [], ◌∷◌, ◌++◌, decimal, length, map, Bool}
use Rattle.std.specs.Prelude.{false, Option, None, Some, Ok, Err}
use Rattle.std.specs.List.{list_all}
use Rattle.std.specs.Io.KnownBytes.{Appends}
use Rattle.fp_edit.specs.Admits.{refusal, next}
use Rattle.fp_documents.specs.Document.{document}
use Rattle.fp_edit.specs.Edits.{Proposal, change_in}
use Rattle.fp_edit.specs.Flags.{State}
use Rattle.fp_edit.specs.declared.edit.EditFault.{EditFault}
use Rattle.fp_session.specs.Asks.{Ask}
use Rattle.fp_session.specs.Reply.{Reply, revision, conflict, conflict_in, set_too_large}
use Rattle.fp_session.specs.Reply.{revisions_used, no_edit, out_of_memory, store_failed, refusal_of, told_if}
use Rattle.fp_session.specs.Reply.{texts_of, is_told}
use Rattle.fp_session.specs.declared.fault.ApplyFault.{ApplyFault}
use Rattle.fp_session.specs.declared.fault.ApplyFault.TheVariants.{Device, StoreFailed, Memory}
use Rattle.fp_session.specs.declared.fault.ApplyFault.TheVariants.{CommitMemory}

abbrev pub verdict_on_edit : State → Proposal → Option EditFault → Reply × State
verdict_on_edit s p None = (revision (s.revision + 1), next s (change_in p))
verdict_on_edit s p (Some e) = (refusal_of e, s)

-- by the flags that it comes upon: the reply to what is asked, and the flags after it
abbrev pub verdict : State → Ask → Reply × State
verdict s (Ok p) = verdict_on_edit s p (refusal s p)
verdict s (Err f) = (no_edit f, s)

-- ---- where memory never wants

-- the flags after all that is asked
abbrev pub after : State → List Ask → State
after s [] = s
after s (x ∷ xs) = after (verdict s x).1 xs

-- each is judged after those before it
abbrev pub replies_to : State → List Ask → List Reply
replies_to s [] = []
replies_to s (x ∷ xs) = (verdict s x).0 ∷ replies_to (verdict s x).1 xs

-- the revision and the document
abbrev pub show_line : State → List ℕ
show_line s = decimal s.revision ++ 32 ∷ document s.flags ++ 10 ∷ []

-- what is written: the replies, and then the flags
abbrev pub script : State → List Ask → List ℕ
script s xs = texts_of (replies_to s xs) ++ show_line (after s xs)

-- ---- with want of memory, which a reply may tell anywhere

-- a reply, and the flags after it: the verdict, or want of memory, which changes nothing
abbrev pub Answers : State → Ask → Reply → State → Type 0
Answers s x out_of_memory t = t ≡ s
Answers s x store_failed t = ⊥
Answers s x (revision n) t = verdict s x ≡ (revision n, t)
Answers s x (conflict current) t = verdict s x ≡ (conflict current, t)
Answers s x (conflict_in at current) t = verdict s x ≡ (conflict_in at current, t)
Answers s x set_too_large t = verdict s x ≡ (set_too_large, t)
Answers s x revisions_used t = verdict s x ≡ (revisions_used, t)
Answers s x (no_edit f) t = verdict s x ≡ (no_edit f, t)

-- a reply to each, in order
abbrev pub IsRun : State → List Ask → List Reply → State → Type 0
IsRun s [] [] t = t ≡ s
IsRun s [] (r ∷ rs) t = ⊥
IsRun s (x ∷ xs) [] t = ⊥
IsRun s (x ∷ xs) (r ∷ rs) t = (u : State) × Answers s x r u × IsRun u xs rs t

-- a writer that held `old` holds a reply to each behind it, and then the flags
pub record IsRunWritten (start : State) (xs : List Ask) (told : Bool) (old new : Option (List ℕ))
    (now : State) : Type 0 where
  pub replies : List Reply
  pub run : IsRun start xs replies now
  pub written : Appends old new (texts_of replies ++ show_line now)
  pub told_is : told ≡ list_all is_told replies

-- the flags are as some first of them leave them
pub record IsAfterPrefix (start : State) (xs : List Ask) (now : State) : Type 0 where
  pub done : List Ask
  pub later : List Ask
  pub replies : List Reply
  pub split : xs ≡ done ++ later
  pub run : IsRun start done replies now

-- ---- where it breaks off

-- what is told of a batch that isn't known to be kept, by the fault that ended the run: where it
-- couldn't be kept each reply, but no revision, and where memory was wanting to tell of it nothing
abbrev pub last_replies : ApplyFault → List Reply → List Reply
last_replies StoreFailed waiting = map (told_if false) waiting
last_replies CommitMemory waiting = map (told_if false) waiting
last_replies Memory waiting = []
last_replies Device waiting = []

-- how much such a batch may ask: nothing where a stream failed
abbrev pub most_open : ApplyFault → ℕ → ℕ
most_open Device most = 0
most_open StoreFailed most = most
most_open Memory most = most
most_open CommitMemory most = most

-- The text is the replies to some first of them, which these flags hold, and what is told of a
-- batch behind them, of whose edits they hold some first. All that was taken is among them: it
-- leads to the flags at the end
pub record IsTold (start : State) (xs : List Ask) (most : ℕ) (fault : ApplyFault) (text : List ℕ)
    (taken flags : State) : Type 0 where
  pub done : List Ask
  pub batch : List Ask
  pub later : List Ask
  pub kept : State
  pub replies : List Reply
  pub waiting : List Reply
  pub split : xs ≡ done ++ (batch ++ later)
  pub run : IsRun start done replies kept
  pub on : IsRun kept batch waiting taken
  pub few : length batch ≤ most_open fault most
  pub holds : IsAfterPrefix kept batch flags
  pub written : text ≡ texts_of (replies ++ last_replies fault waiting)

-- what a writer that held `old` holds behind it is such a text
abbrev pub IsToldBy : State → List Ask → ℕ → ApplyFault → Option (List ℕ) → Option (List ℕ) → State
    → State → Type 0
IsToldBy start xs most fault old new taken flags = (text : List ℕ) × Appends old new text
    × IsTold start xs most fault text taken flags
