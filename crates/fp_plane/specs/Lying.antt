-- The store's half of a plane, where nobody seals.
use Rattle.std.specs.Prelude.{◌≡◌, ◌∷◌, [], Bool, true, false, List}
use Rattle.fp_disk.specs.Crashes.{EachCrash}
use Rattle.fp_disk.specs.declared.disk.Disk.{Ghosts}
use Rattle.fp_committer.specs.Course.{Course}
use Rattle.fp_committer.specs.Halves.{Names}
use Rattle.fp_committer.specs.StoreHalf.{KeptBy, StoreHalfState}
use Rattle.fp_group_commit.specs.Tokens.{Identity}
use Rattle.fp_plane.specs.Flushing.{HasBroken, IsResting}
use Rattle.fp_hall.specs.Hall.{IsStoreOf}

-- what who takes its lock finds: the half, whether sealing broke off, whether whoever was told last
-- was alone, and whether an editor owes a step of a compaction behind its batch
pub record LyingState (D : Type 0) : Type 0 where
  pub half : StoreHalfState D
  pub broken : Bool
  pub alone : Bool
  pub owes_step : Bool

-- The half is the plane's, and came by a course from the one half that the list has: nothing of it
-- is drawn and no call of the disk failed since, or sealing broke off, for one of the two reasons
-- for that
pub record IsLeft {D : Type 0} (disk : Ghosts D) (store : Identity) (desk_lists store_lists : Names)
    (half : StoreHalfState D) (broken : Bool) (began : List (StoreHalfState D)) : Type 0 where
  pub first : StoreHalfState D
  pub only : began ≡ first ∷ []
  pub exit : EachCrash disk first.store.disk (KeptBy first)
  pub course : Course disk first half
  pub ours : IsStoreOf store desk_lists store_lists half
  pub rest : broken ≡ false → IsResting half
  pub no_failure : broken ≡ false → disk.faults half.store.disk ≡ disk.faults first.store.disk
  pub cause : broken ≡ true → HasBroken disk first.store.disk half.store.disk half
