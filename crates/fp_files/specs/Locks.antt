-- What the system's answer to a wish for a file's lock comes to.
use Rattle.std.specs.Prelude.{◌≡◌, ◌⊎◌, pos, Some, Result, Ok, Err}
use Rattle.std.specs.IoError.{error_kind, raw_os_error}
use Rattle.std.specs.declared.fs.locks.TryLockError.{TryLockError}
use Rattle.std.specs.declared.fs.locks.TryLockError.TheVariants.{Error, WouldBlock}
use Rattle.std.specs.declared.io.Error.{Error as IoError}
use Rattle.std.specs.declared.io.ErrorKind.TheVariants.{Unsupported}

-- the file system has no locks: it says so, or that it has none left to give, as one over a network
-- does whose server keeps none
abbrev pub HasNoLocks : IoError → Type 0
HasNoLocks fault = (error_kind fault ≡ Unsupported) ⊎ (raw_os_error fault ≡ Some (pos 37))

-- The file may be written: its lock was taken, or there is none to take. Where another program has
-- it, or the system fails to tell, it may not
abbrev pub MayWrite : Result (Unit {0}) TryLockError → Type 0
MayWrite (Ok x) = Unit {0}
MayWrite (Err WouldBlock) = ⊥
MayWrite (Err (Error fault)) = HasNoLocks fault
