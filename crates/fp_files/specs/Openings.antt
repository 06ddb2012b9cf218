-- What is asked of a folder of disks, and which disk stands where.
use Rattle.std.specs.Prelude.{◌≡◌, ◌≢◌, ℕ, List, Option, None, Bool, true, false, bytes_eq, if◌then◌else◌}
use Rattle.fp_files.specs.declared.openings.Purpose.{Purpose}
use Rattle.fp_files.specs.declared.openings.Purpose.TheVariants.{Making, Writing, Reading}

-- what it is opened for: with it goes the lock, and the file may be made
abbrev pub writes : Purpose → Bool
writes Making = true
writes Writing = true
writes Reading = false

abbrev pub makes : Purpose → Bool
makes Making = true
makes Writing = false
makes Reading = false

-- the paths that were to be opened and what for, in order, and how often that failed
pub record Openings : Type 0 where
  pub asked : List (List ℕ × Purpose)
  pub faults : ℕ

-- one disk at one path; it is `None` while it is lent
pub record OneFile (D : Type 0) : Type 0 where
  pub path : List ℕ
  pub disk : Option D
  pub openings : Openings

-- the disk at a path, where all other paths have none
abbrev pub disk_at : {D : Type 0} → OneFile D → List ℕ → Option D
disk_at f path = if bytes_eq path f.path then f.disk else None

-- ---- what becomes of the disks of a folder

-- at each path but this one there is what was there
abbrev pub KeepsOthers : {F D : Type 0} → (F → List ℕ → Option D) → F → F → List ℕ → Type 0
KeepsOthers at old new path = (other : List ℕ) → other ≢ path → at new other ≡ at old other

-- at each path there is what was there
abbrev pub KeepsAll : {F D : Type 0} → (F → List ℕ → Option D) → F → F → Type 0
KeepsAll at old new = (path : List ℕ) → at new path ≡ at old path
