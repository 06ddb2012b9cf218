-- Reading a disk in pieces.
use Rattle.std.specs.Prelude.{◌≡◌, ◌⊎◌, List, [], ◌∷◌, ◌++◌, Result, Ok, Err}
use Rattle.fp_disk.specs.History.{MakesSome}
use Rattle.fp_disk.specs.Outcomes.{IsOutcome}
use Rattle.fp_disk.specs.Word.{KeepsWord}
use Rattle.fp_disk.specs.declared.disk.Disk.{Ghosts}
use Rattle.fp_disk.specs.declared.history.CallKind.{CallKind}
use Rattle.fp_disk.specs.declared.history.CallKind.TheVariants.{Read}

-- ---- the calls
abbrev pub AreReads : List CallKind → Type 0
AreReads [] = Unit {0}
AreReads (kind ∷ kinds) = (kind ≡ Read) × AreReads kinds

-- these calls were made, in this order, and behind them reads alone
abbrev pub ThenReads : List CallKind → (old new : List CallKind) → Type 0
ThenReads kinds old new = (more : List CallKind) × AreReads more × (new ≡ old ++ (kinds ++ more))

-- the same, or none but some first of these calls
abbrev pub ThenSomeReads : List CallKind → (old new : List CallKind) → Type 0
ThenSomeReads kinds old new = MakesSome kinds old new ⊎ ThenReads kinds old new

-- the one where it ends well, and the other where it doesn't
abbrev pub MakesThenReads : {T E : Type 0} → List CallKind → (old new : List CallKind) → Result T E
    → Type 0
MakesThenReads kinds old new (Ok x) = ThenReads kinds old new
MakesThenReads kinds old new (Err e) = ThenSomeReads kinds old new

-- ---- the disk
-- Nothing but reads were made: the disk is as it was, and so is what a crash leaves of it
pub record OnlyReads {D : Type 0} (disk : Ghosts D) (old new : D) : Type 0 where
  -- H: what is read and pending stays.
  pub same : disk.honest old → (disk.bytes new ≡ disk.bytes old)
      × (disk.unsynced new ≡ disk.unsynced old)
  -- H: a crash at any moment leaves what one could leave before. The disk is honest after it
  -- exactly if it was before.
  pub word : KeepsWord disk old new (IsOutcome (disk.unsynced old))
  -- No calls of the disk but reads.
  pub called : ThenReads [] (disk.calls old) (disk.calls new)
