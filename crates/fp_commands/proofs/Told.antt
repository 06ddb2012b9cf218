-- What the program tells, and what it shows.
use Rattle.std.proofs.Common.{◌≢◌, List, ℕ, Option, IfSome, arith}
use Rattle.fp_layout.specs.declared.fault.OpenFault.{OpenFault}
use Rattle.fp_layout.specs.declared.fault.OpenFault.TheVariants.{Unformatted, UnknownVersion, Damaged, Device, Memory}
use Rattle.fp_session.specs.declared.fault.ApplyFault.{ApplyFault}
use Rattle.fp_recovery.specs.Refusals.{RefusesBytes, IsUnlessWanting}
use Rattle.fp_commands.specs.declared.fault.CommandFault.{CommandFault}
use Rattle.fp_commands.specs.declared.fault.CommandFault.TheVariants as command
use Rattle.fp_commands.specs.Faults.{of_open, of_run}
use Rattle.fp_commands.specs.Disks.{IsShowingFault, IsApplyingFault, IsStreamFault, IfFileRefused, IfRefused}

-- what opening refuses
pub showing-open : (is_honest : Type 0) (c : List ℕ) (f : OpenFault) → (is_honest → RefusesBytes c f) →
    (is_honest → IsUnlessWanting c f) → IsShowingFault is_honest c (of_open f)
showing-open is_honest c Unformatted r none = λ h. (r h, none h)
showing-open is_honest c (UnknownVersion v) r none = λ h. (r h, none h)
showing-open is_honest c (Damaged at) r none = λ h. (r h, none h)
showing-open is_honest c Device r none = tt
showing-open is_honest c Memory r none = tt

pub applying-open : (is_honest : Type 0) (c : List ℕ) (f : OpenFault) → (is_honest → RefusesBytes c f) →
    (is_honest → IsUnlessWanting c f) → IsApplyingFault is_honest c (of_open f)
applying-open is_honest c Unformatted r none = λ h. (r h, none h)
applying-open is_honest c (UnknownVersion v) r none = λ h. (r h, none h)
applying-open is_honest c (Damaged at) r none = λ h. (r h, none h)
applying-open is_honest c Device r none = tt
applying-open is_honest c Memory r none = tt

-- what a stream refuses
pub showing-stream : (is_honest : Type 0) (c : List ℕ) (f : CommandFault) → IsStreamFault f → IsShowingFault is_honest c f
showing-stream is_honest c f h = grind arith

-- what ends a run
pub applying-run : (is_honest : Type 0) (c : List ℕ) (f : ApplyFault) → IsApplyingFault is_honest c (of_run f)
applying-run is_honest c f = grind arith

-- no store fails where none was opened
pub open_not_failed : (f : OpenFault) → of_open f ≢ command.StoreFailed
open_not_failed f = grind arith

-- ---- what is shown

pub some_both : {A : Type 0} (o : Option A) (P Q : A → Type 0) → IfSome o P → IfSome o Q → IfSome o (λ x. P x × Q x)
some_both o P Q p q = grind arith

-- ---- what was refused

-- what holds whatever failed
pub if_refused : (P : Type 0) (f : CommandFault) → P → IfRefused P f
if_refused P f p = grind arith

pub if_file_refused : (P : Type 0) (f : CommandFault) → P → IfFileRefused P f
if_file_refused P f p = grind arith

-- a run refuses neither bytes nor what was read
pub refused-run : (P : Type 0) (f : ApplyFault) → IfRefused P (of_run f)
refused-run P f = grind arith

pub file_refused-run : (P : Type 0) (f : ApplyFault) → IfFileRefused P (of_run f)
file_refused-run P f = grind arith
