-- What failed, as a whole command counts it.
use Rattle.std.proofs.Common.{◌≡◌, ◌<◌, ◌+◌, ℕ, Bool, Result, Err, refl, arith}
use Rattle.fp_layout.specs.declared.fault.OpenFault.{OpenFault}
use Rattle.fp_layout.specs.declared.fault.OpenFault.TheVariants as opening
use Rattle.fp_session.specs.Streams as plane
use Rattle.fp_session.specs.declared.fault.ApplyFault.{ApplyFault}
use Rattle.fp_commands.specs.Disks.{Blames, BlamesRun}
use Rattle.fp_commands.specs.Faults.{of_open, of_run}
use Rattle.fp_commands.specs.declared.fault.CommandFault.{CommandFault}
use Rattle.fp_commands.specs.declared.fault.CommandFault.TheVariants as command

-- a run over streams, beside no disk
pub blames-alone : (A B : Type 0) (s t : ℕ) (f : ApplyFault) → plane.Blames {A = A} s t (Err f) → BlamesRun {A = B} s t (Err (of_run f))
blames-alone A B s t f h = grind arith

-- a run over a writer alone, beside a reader that didn't fail
pub blames-beside : (r0 r w0 w : ℕ) (o : Result Bool ApplyFault) → r ≡ r0 → plane.Blames w0 w o → plane.Blames (r0 + w0) (r + w) o
blames-beside r0 r w0 w o same h = grind arith

-- a disk that wasn't opened, beside streams that weren't used
pub blames-open : (s t n : ℕ) (f : OpenFault) → (f ≡ opening.Device → s < t) → BlamesRun {A = Bool} (s + n) (t + n) (Err (of_open f))
blames-open s t n f h = grind arith

-- nor where memory was wanting for that
pub wants-open : (f : OpenFault) (P : Type 0) → (f ≡ opening.Memory → P) → of_open f ≡ command.Memory → P
wants-open opening.Memory P h is = h refl
wants-open opening.Unformatted P h is = absurd cc
wants-open (opening.UnknownVersion version) P h is = absurd cc
wants-open (opening.Damaged at) P h is = absurd cc
wants-open opening.Device P h is = absurd cc

-- a reader alone, beside a disk and a writer that didn't fail
pub blames-read : (s t r0 r w : ℕ) (f : CommandFault) → t ≡ s → Blames {A = Unit {0}} r0 r (Err f) →
    BlamesRun {A = Bool} (s + (r0 + w)) (t + (r + w)) (Err f)
blames-read s t r0 r w command.Device same h = omega (arith, same, h)
blames-read s t r0 r w f same h = grind arith
