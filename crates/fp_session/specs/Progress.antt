-- How far what is asked was answered.
use Rattle.std.specs.Prelude.{◌≡◌, ◌⊎◌, ℕ, List, ◌++◌, map, take, Bool, Option, Ok}
use Rattle.std.specs.Prelude.{Err, Result, OnOk}
use Rattle.std.specs.List.{list_all}
use Rattle.std.specs.Io.KnownBytes.{Appends}
use Rattle.fp_edit.specs.Edits.{proposal_of}
use Rattle.fp_edit.specs.Flags.{State}
use Rattle.fp_edit.specs.Spelled.{Tells}
use Rattle.fp_edit.specs.declared.edit.Edit.{Edit}
use Rattle.fp_edit.specs.declared.line.LineFault.{LineFault}
use Rattle.fp_session.specs.Asks.{Ask}
use Rattle.fp_session.specs.Reply.{Reply, reply_of_code, texts_of, is_told, told_if}
use Rattle.fp_session.specs.Run.{Answers, IsRun, IsAfterPrefix, IsRunWritten, IsTold, IsToldBy}
use Rattle.fp_session.specs.Run.{show_line}
use Rattle.fp_session.specs.StoreRun.{StoreRun}
use Rattle.fp_session.specs.declared.edit_store.EditStore.{Ghosts}
use Rattle.fp_session.specs.declared.fault.ApplyFault.{ApplyFault}
use Rattle.fp_session.specs.declared.replies.Replies.{Replies}
use Rattle.fp_session.specs.declared.replies.Telling.{Telling}
use Rattle.fp_session.specs.declared.reply.Reply as code

-- ---- whatever is asked

-- an edit asks for itself, and a fault for what it is told of
abbrev pub AsksFor : Result Edit LineFault → Ask → Type 0
AsksFor (Ok edit) x = x ≡ Ok (proposal_of edit)
AsksFor (Err fault) x = Tells fault (λ f. x ≡ Err f)

-- an edit was answered, and waits to be kept where it was accepted
pub record Takes {E : Type 0} (store : Ghosts E) (a : E) (x : Ask) (reply : Reply)
    (b : E) : Type 0 where
  pub answered : Answers (store.state a) x reply (store.state b)
  pub ahead : (flags : State) → store.may_stand b flags
      → store.may_stand a flags ⊎ (flags ≡ store.state b)
  pub leaves : store.leaves a b (store.may_stand a)
  pub goes_on : store.continues_to a b

-- what was asked was answered: what is kept, with texts of which `sent` was sent,
-- and behind it a batch whose replies wait
pub record At {E : Type 0} (store : Ghosts E) (first now : E) (asked : List Ask)
    (sent text : List ℕ) (waiting : List Reply) (is_told_all : Bool) : Type 0 where
  pub done : List Ask
  pub batch : List Ask
  pub kept : State
  pub replies : List Reply
  pub split : asked ≡ done ++ batch
  pub run : IsRun (store.state first) done replies kept
  pub on : IsRun kept batch waiting (store.state now)
  pub ahead : (flags : State) → store.may_stand now flags → IsAfterPrefix kept batch flags
  pub written : sent ++ text ≡ texts_of replies
  pub told : is_told_all ≡ list_all is_told replies
  pub led : store.continues_to first now
  pub leaves : store.leaves first now (IsAfterPrefix (store.state first) asked)

abbrev pub IsAt : {E : Type 0} → Ghosts E → E → E → List Ask → List ℕ → Replies → Type 0
IsAt store first now asked sent r = At store first now asked sent r.text.items
    (map reply_of_code r.waiting.items) r.is_told

-- where it broke off
pub record StopsAt {E : Type 0} (store : Ghosts E) (first now : E) (asked : List Ask)
    (fault : ApplyFault) : Type 0 where
  pub left : IsAfterPrefix (store.state first) asked (store.state now)
  pub course : StoreRun {A = Unit {0}} store (IsAfterPrefix (store.state first) asked) first now
      (Err fault)
  pub leaves : store.leaves first now (IsAfterPrefix (store.state first) asked)

-- it broke off: of all that was asked the texts tell, but for so many
-- at most that aren't known to be kept
pub record IsBroken {E : Type 0} (store : Ghosts E) (most : ℕ) (first now : E) (asked : List Ask)
    (sent : List ℕ) (r : Replies) (fault : ApplyFault) : Type 0 where
  pub told : (flags : State) → store.may_stand now flags
      → IsTold (store.state first) asked most fault (sent ++ r.text.items) (store.state now) flags
  pub stops : StopsAt store first now asked fault

-- all of it was answered and is kept, nothing goes on beside it, and the flags are shown
pub record IsEnded {E : Type 0} (store : Ghosts E) (first now : E) (asked : List Ask)
    (sent : List ℕ) (r : Replies) : Type 0 where
  pub replies : List Reply
  pub run : IsRun (store.state first) asked replies (store.state now)
  pub kept : (flags : State) → store.may_stand now flags → flags ≡ store.state now
  pub written : sent ++ r.text.items ≡ texts_of replies ++ show_line (store.state now)
  pub told : r.is_told ≡ list_all is_told replies
  pub rests : store.rests now
  pub led : store.continues_to first now
  pub leaves : store.leaves first now (IsAfterPrefix (store.state first) asked)

-- the first of the replies that wait are told by a text
pub record IsToldUpTo (is_kept : Bool) (waiting : List code.Reply) (t : Telling)
    (n : ℕ) : Type 0 where
  pub texts : t.text.items ≡ texts_of (map (told_if is_kept) (map reply_of_code (take n waiting)))
  pub tells : t.is_told
      ≡ list_all is_told (map (told_if is_kept) (map reply_of_code (take n waiting)))

-- ---- with a writer that held `before` and holds `now_held`, and failed so often

pub record IsAtWith {E : Type 0} (store : Ghosts E) (first now : E) (asked : List Ask)
    (before now_held : Option (List ℕ)) (r : Replies) : Type 0 where
  pub sent : List ℕ
  pub appended : Appends before now_held sent
  pub at : IsAt store first now asked sent r

-- of the texts `sent` and what waited behind it more was sent, or nothing
pub record IsSentFurther (before now_held : Option (List ℕ)) (sent : List ℕ)
    (old new : Replies) : Type 0 where
  pub all : List ℕ
  pub appended : Appends before now_held all
  pub same : all ++ new.text.items ≡ sent ++ old.text.items
  pub waiting : new.waiting ≡ old.waiting
  pub told : new.is_told ≡ old.is_told

-- it broke off, and unless the writer failed it holds all that the texts tell
pub record IsBrokenWith {E : Type 0} (store : Ghosts E) (most : ℕ) (first now : E)
    (asked : List Ask) (before now_held : Option (List ℕ)) (f0 f : ℕ) (fault : ApplyFault)
    : Type 0 where
  pub told : f ≡ f0 → (flags : State) → store.may_stand now flags
      → IsToldBy (store.state first) asked most fault before now_held (store.state now) flags
  pub stops : StopsAt store first now asked fault

-- all was answered, kept, shown and sent, and nothing goes on beside it
pub record IsDone {E : Type 0} (store : Ghosts E) (first now : E) (asked : List Ask)
    (before now_held : Option (List ℕ)) (told : Bool) : Type 0 where
  pub written : IsRunWritten (store.state first) asked told before now_held (store.state now)
  pub kept : (flags : State) → store.may_stand now flags → flags ≡ store.state now
  pub rests : store.rests now
  pub led : store.continues_to first now
  pub leaves : store.leaves first now (IsAfterPrefix (store.state first) asked)

-- how a run ends
abbrev pub Ends : {E : Type 0} → Ghosts E → ℕ → E → E → List Ask → Option (List ℕ)
    → Option (List ℕ) → ℕ → ℕ → Result Bool ApplyFault → Type 0
Ends store most first now asked before now_held f0 f (Ok told) =
    IsDone store first now asked before now_held told
Ends store most first now asked before now_held f0 f (Err fault) =
    IsBrokenWith store most first now asked before now_held f0 f fault

-- ---- over a source

-- how a run over a source of edits ends: over some first things of all that it asks, and where it
-- is done over all
pub record EndsOver {E : Type 0} (store : Ghosts E) (most : ℕ) (first now : E)
    (asks : List Ask → Type 0) (before now_held : Option (List ℕ)) (f0 f : ℕ)
    (outcome : Result Bool ApplyFault) : Type 0 where
  pub asked : List Ask
  pub part : (all : List Ask) → asks all → (later : List Ask) × (asked ++ later ≡ all)
  pub whole : OnOk outcome ((all : List Ask) → asks all → asked ≡ all)
  pub ends : Ends store most first now asked before now_held f0 f outcome
