-- A store as it was made.
use Rattle.std.specs.Prelude.{refl}
use Rattle.fp_edit.specs.Flags.{State}
use Rattle.fp_group_commit.specs.Store.{StoreState, IsFresh}

-- the set that a store was made with is the one that its identity names
pub at_its_start : {D : Type 0} (s : StoreState D) (set : State) → IsFresh s set → IsFresh s s.store.start
at_its_start s set f = record {
  start = refl;
  sealed = f.sealed;
  phase = f.phase;
  shut = f.shut;
  well =
      f.well;
  none_runs = f.none_runs;
  most = f.most;
  room = f.room;
}
