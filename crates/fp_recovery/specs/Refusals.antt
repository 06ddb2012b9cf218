-- What is read of a disk, and what is refused there.
use Rattle.std.specs.Prelude.{◌≡◌, ℕ, List, Err, refl}
use Rattle.std.specs.Coded.{Coded, coded×, coded_ℕ, code_by}
use Rattle.std.specs.FinMap as map
use Rattle.fp_edit.specs.Flags.{State, coded_state}
use Rattle.fp_journal.specs.declared.chain.BodyFault.{BodyFault}
use Rattle.fp_journal.specs.declared.chain.BodyFault.TheVariants as body
use Rattle.fp_layout.specs.Opening.{RefusesDisk}
use Rattle.fp_layout.specs.declared.fault.OpenFault.{OpenFault}
use Rattle.fp_layout.specs.declared.fault.OpenFault.TheVariants.{Unformatted, UnknownVersion}
use Rattle.fp_layout.specs.declared.fault.OpenFault.TheVariants.{Damaged, Device, Memory}
use Rattle.fp_record.specs.declared.fault.RecordFault.{RecordFault}
use Rattle.fp_record.specs.declared.fault.RecordFault.TheVariants as record_fault
use Rattle.fp_recovery.specs.Reading.{image_under, batch_onto}
use Rattle.fp_slots.specs.Numbers.{FIRST_VERSION}
use Rattle.fp_recovery.specs.Stands.{IsImageOf, TakesBatch, StandsFor}

-- what was read so far: the slot's version, and the set
pub record Replayed : Type 0 where
  pub version : ℕ
  pub set : State

abbrev pub coded_replayed : Coded Replayed
coded_replayed = code_by (ℕ × State) (coded× coded_ℕ coded_state) (λ r. (r.version, r.set))
    (λ p. record { version = p.0; set = p.1 }) (λ _. refl)

-- whatever was read before, the image says all
abbrev pub BeginsWith : Replayed → ℕ → ℕ → ℕ → List ℕ → Replayed → Type 0
BeginsWith before version base limit bytes after = (after.version ≡ version)
    × IsImageOf base limit bytes after.set

-- the first field of the image that can't stand begins there
abbrev pub RejectsImage : Replayed → ℕ → ℕ → ℕ → List ℕ → ℕ → Type 0
RejectsImage before version base limit bytes at = image_under base limit bytes ≡ Err at

-- a batch leads the set on, in the same slot
abbrev pub TakesBody : Replayed → List ℕ → Replayed → Type 0
TakesBody before bytes after = (after.version ≡ before.version)
    × TakesBatch before.version before.set bytes after.set

-- the first field of the batch that can't stand, or the first edit that the set doesn't accept,
-- begins there
abbrev pub RefusesBatch : Replayed → List ℕ → ℕ → Type 0
RefusesBatch before bytes at = batch_onto before.version before.set bytes ≡ Err at

-- a fault of a record, as one of the body that it is
abbrev pub body_fault : RecordFault → BodyFault
body_fault (record_fault.BadRecord at) = body.BadBody at
body_fault record_fault.Memory = body.Memory

-- where reading begins
abbrev pub nothing_read : Replayed
nothing_read = record {
  version = FIRST_VERSION;
  set = record { flags = map.empty; revision = 0; limit = 0 };
}

-- why these bytes can't be opened: the first fault in the order of the layout
abbrev pub RefusesBytes : List ℕ → OpenFault → Type 0
RefusesBytes c fault =
    RefusesDisk BeginsWith RejectsImage TakesBody RefusesBatch c nothing_read fault

abbrev pub StandsForNone : List ℕ → Type 0
StandsForNone c = (s : State) → StandsFor c s → ⊥

-- bytes that stand for a set are refused only where the device did or memory ran out
abbrev pub IsUnlessWanting : List ℕ → OpenFault → Type 0
IsUnlessWanting c Unformatted = StandsForNone c
IsUnlessWanting c (UnknownVersion v) = StandsForNone c
IsUnlessWanting c (Damaged at) = StandsForNone c
IsUnlessWanting c Device = Unit {0}
IsUnlessWanting c Memory = Unit {0}
