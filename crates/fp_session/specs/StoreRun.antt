-- What becomes of the store over a run.
use Rattle.std.specs.Prelude.{Result, Ok, Err}
use Rattle.fp_edit.specs.Flags.{State}
use Rattle.fp_committer.specs.declared.fault.CommitFault.{CommitFault}
use Rattle.fp_committer.specs.declared.fault.CommitFault.TheVariants as commit
use Rattle.fp_session.specs.declared.edit_store.EditStore.{Ghosts}
use Rattle.fp_session.specs.declared.fault.ApplyFault.{ApplyFault}
use Rattle.fp_session.specs.declared.fault.ApplyFault.TheVariants.{Device, StoreFailed, Memory}
use Rattle.fp_session.specs.declared.fault.ApplyFault.TheVariants.{CommitMemory}

-- it went on until it failed to keep edits that had been asked of it
pub record FailsFrom {E : Type 0} (store : Ghosts E) (IsAsked : State
    → Type 0) (fault : CommitFault) (first now : E) : Type 0 where
  pub before : E
  pub led : store.continues_to first before
  pub asked : (flags : State) → store.may_stand before flags → IsAsked flags
  pub failed : store.fails_on fault before now

-- it goes on, but where it failed
abbrev pub StoreRun : {E A : Type 0} → Ghosts E → (State → Type 0) → E → E → Result A ApplyFault
    → Type 0
StoreRun store IsAsked a b (Ok told) = store.continues_to a b
StoreRun store IsAsked a b (Err Device) = store.continues_to a b
StoreRun store IsAsked a b (Err Memory) = store.continues_to a b
StoreRun store IsAsked a b (Err StoreFailed) = FailsFrom store IsAsked commit.StoreFailed a b
StoreRun store IsAsked a b (Err CommitMemory) = FailsFrom store IsAsked commit.Memory a b
