-- The faults that end a run.
use Rattle.std.specs.Prelude.{ℕ, List, codes}
use Rattle.fp_committer.specs.declared.fault.CommitFault.{CommitFault}
use Rattle.fp_committer.specs.declared.fault.CommitFault.TheVariants as commit
use Rattle.fp_session.specs.declared.fault.ApplyFault.{ApplyFault}
use Rattle.fp_session.specs.declared.fault.ApplyFault.TheVariants.{Device, StoreFailed, Memory}
use Rattle.fp_session.specs.declared.fault.ApplyFault.TheVariants.{CommitMemory}

-- what wasn't kept ends it
abbrev pub of_commit : CommitFault → ApplyFault
of_commit commit.StoreFailed = StoreFailed
of_commit commit.Memory = CommitMemory

-- the texts
abbrev pub text_of : ApplyFault → List ℕ
text_of Device = codes "device fault"
text_of StoreFailed = codes "store failed"
text_of Memory = codes "out of memory"
text_of CommitMemory = codes "out of memory"
