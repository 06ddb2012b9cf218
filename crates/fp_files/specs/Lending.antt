-- What becomes of files and their disks, as one of them is opened and closed.
use Rattle.std.specs.Prelude.{◌≡◌, ◌⊎◌, ◌<◌, ℕ, List, [], ◌∷◌, ◌++◌, Some, None}
use Rattle.fp_disk.specs.declared.disk.Disk.{Ghosts as DiskGhosts}
use Rattle.fp_files.specs.Openings.{KeepsAll, KeepsOthers}
use Rattle.fp_files.specs.declared.files.DiskFiles.{Ghosts}
use Rattle.fp_files.specs.declared.openings.Purpose.{Purpose}

-- the file at the path was to be opened for this and wasn't, which was counted
pub record IsNotOpened {F D : Type 0} (files : Ghosts F D) (old new : F)
    (path : List ℕ) (purpose : Purpose) : Type 0 where
  pub asked : files.asked new ≡ files.asked old ++ (path, purpose) ∷ []
  pub same : KeepsAll files.at old new
  pub counted : files.faults old < files.faults new

-- the disk at the path was opened for this, and no other, once, and stands there as `after` now
pub record IsLentOnce {F D : Type 0} (files : Ghosts F D) (disk : DiskGhosts D) (old new : F)
    (path : List ℕ) (purpose : Purpose) (after : D) : Type 0 where
  pub asked : files.asked new ≡ files.asked old ++ (path, purpose) ∷ []
  pub others : KeepsOthers files.at old new path
  pub kept : disk.honest after → files.at new path ≡ Some after
  pub no_failure : files.faults new ≡ files.faults old

-- this disk is at the path
abbrev pub IsThere : {F D : Type 0} → Ghosts F D → F → List ℕ → D → Type 0
IsThere files old path before = files.at old path ≡ Some before

-- it is, or there was none and it is empty
abbrev pub IsThereOrNew : {F D : Type 0} → Ghosts F D → DiskGhosts D → F → List ℕ → D → Type 0
IsThereOrNew files disk old path before =
    IsThere files old path before ⊎ ((files.at old path ≡ None)
    × (disk.honest before → disk.bytes before ≡ []))
