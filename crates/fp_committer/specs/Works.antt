-- The calls of a disk that batches and compactions make, one work after another.
use Rattle.std.specs.Prelude.{◌≡◌, ◌++◌, Bool, List, [], ◌∷◌, ℕ}
use Rattle.fp_disk.specs.History.{MakesSome}
use Rattle.fp_disk.specs.declared.disk.Disk.{Ghosts}
use Rattle.fp_disk.specs.declared.history.CallKind.{CallKind}
use Rattle.fp_disk.specs.declared.history.CallKind.TheVariants.{Sync, Write}
use Rattle.fp_slots.specs.State.{IsEarly}
use Rattle.fp_slots.specs.declared.slots.Step.{Step}
use Rattle.fp_compaction.specs.Steps as compaction
use Rattle.fp_group_commit.specs.Store.{StoreState}

-- what makes calls of the disk: a batch, or a step of a compaction,
-- before which the other slot's gate may be open or isn't
pub data Work : Type 0 where
  whole_batch : Work
  compaction_step : Step → Bool → Work

abbrev pub batch_calls : List CallKind
batch_calls = Write ∷ Sync ∷ Write ∷ Sync ∷ []

abbrev pub work_calls : Work → List CallKind
work_calls whole_batch = batch_calls
work_calls (compaction_step p may_open) = compaction.calls_of p may_open

-- one after another
abbrev pub calls_of : List Work → List CallKind
calls_of [] = []
calls_of (w ∷ works) = work_calls w ++ calls_of works

-- a batch may be sealed before the tail of a compaction is written,
-- and of its steps the next one is taken
abbrev pub MayCome : Step → Work → Type 0
MayCome next whole_batch = IsEarly next
MayCome next (compaction_step p may_open) = p ≡ next

-- from where this step is next to where that one is, each may come in its turn
abbrev pub Leads : Step → List Work → Step → Type 0
Leads next [] last = last ≡ next
Leads next (whole_batch ∷ works) last = MayCome next whole_batch × Leads next works last
Leads next (compaction_step p may_open ∷ works) last = MayCome next (compaction_step p may_open)
    × (left : ℕ) × Leads (compaction.next_step next left) works last

-- the calls from one to the other were those of such works
pub record Works {D : Type 0} (disk : Ghosts D) (a b : StoreState D) : Type 0 where
  pub works : List Work
  pub lead : Leads a.compaction.next works b.compaction.next
  pub calls : disk.calls b.disk ≡ disk.calls a.disk ++ calls_of works

-- and then some first ones of a work that may come behind them
pub record BreaksOff {D : Type 0} (disk : Ghosts D) (a b : StoreState D) : Type 0 where
  pub works : List Work
  pub next : Step
  pub last : Work
  pub lead : Leads a.compaction.next works next
  pub may : MayCome next last
  pub calls : MakesSome (work_calls last) (disk.calls a.disk ++ calls_of works) (disk.calls b.disk)
