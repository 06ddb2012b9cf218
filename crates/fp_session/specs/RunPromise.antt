-- What a run over edits promises, wherever they come from.
use Rattle.std.specs.Prelude.{◌≡◌, ℕ, List, Bool, true, Option, Result, IfErr, IfOk, OnOk}
use Rattle.std.specs.Io.KnownBytes.{Appends}
use Rattle.fp_edit.specs.Flags.{State}
use Rattle.fp_session.specs.Asks.{Ask}
use Rattle.fp_session.specs.Run.{IsAfterPrefix, IsRunWritten, IsToldBy}
use Rattle.fp_session.specs.Run as asked
use Rattle.fp_session.specs.StoreRun.{StoreRun}
use Rattle.fp_session.specs.declared.edit_store.EditStore.{Ghosts}
use Rattle.fp_session.specs.declared.fault.ApplyFault.{ApplyFault}

-- `Of` says of a predicate that it holds of what is asked, where that is known;
-- and at most so much waits to be kept at once
pub record RunPromise {E : Type 0} (store : Ghosts E) (Of : (List Ask → Type 0) → Type 0) (most : ℕ)
    (first now : E) (old new : Option (List ℕ)) (f0 f : ℕ) (outcome : Result Bool ApplyFault)
    : Type 0 where
  -- `Ok(true)`: what was written is exactly the script of what is asked.
  pub script : IfOk outcome (λ told. told ≡ true
      → Of (λ asks. Appends old new (asked.script (store.state first) asks)))
  -- `Ok(true)`: the flags that come back are as what is asked leaves them.
  pub flags : IfOk outcome (λ told. told ≡ true
      → Of (λ asks. store.state now ≡ asked.after (store.state first) asks))
  -- `Ok`: a reply to each thing asked was written, and then the flags; true exactly where no reply
  -- says `out-of-memory`, which changes nothing.
  pub run : IfOk outcome (λ told.
      Of (λ asks. IsRunWritten (store.state first) asks told old new (store.state now)))
  -- `Ok`: no other flags may stand.
  pub kept : OnOk outcome ((u : State) → store.may_stand now u → u ≡ store.state now)
  -- At a fault, unless the writer failed: what was written is the replies to some first of what is
  -- asked, which any flags that may stand hold, and those to one batch at most behind them: no
  -- revision of it is told, and `store-failed` in its place. Of that batch nothing is told at
  -- `Memory`, and there is none at `Device`. All edits that were taken are among these.
  pub told : IfErr outcome (λ fault. f ≡ f0 → (u : State) → store.may_stand now u → Of (λ asks.
      IsToldBy (store.state first) asks most fault old new (store.state now) u))
  -- Whatever comes back, the flags are as some first of what is asked leaves them.
  pub left : Of (λ asks. IsAfterPrefix (store.state first) asks (store.state now))
  -- So are those that a crash leaves at any moment of the run.
  pub any_moment : store.leaves first now
      (λ u. Of (λ asks. IsAfterPrefix (store.state first) asks u))
  -- `Ok`: nothing goes on beside the edits.
  pub rests : OnOk outcome (store.rests now)
  -- What keeps the flags went on; at `StoreFailed`, and where memory was wanting to keep them,
  -- until it failed to keep edits that had been asked of it.
  pub course : StoreRun store (λ u. Of (λ asks. IsAfterPrefix (store.state first) asks u))
      first now outcome
