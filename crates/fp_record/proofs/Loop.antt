-- Faults of readings, as a loop meets them.
use Rattle.std.proofs.Common.{◌≡◌, ℕ, ◌<◌, List, Result, Ok, Err, ap}
use Rattle.fp_record.specs.declared.fault.RecordFault.{RecordFault}
use Rattle.fp_record.specs.declared.fault.RecordFault.TheVariants as fault
use Rattle.fp_base.specs.Steps.{◌>>=◌}
use Rattle.fp_record.specs.Fields.{Tells}
use Rattle.fp_record.specs.Reading.{many_from}
use Rattle.fp_record.proofs.Many.{many_stops}

-- what is read ends so
abbrev pub Fails : {A : Type 0} → RecordFault → Result A ℕ → Type 0
Fails e read = Tells e (λ at. read ≡ Err at)

-- the one behind those that were read
pub ends : {A S : Type 0} (step : S → Result (A × S) ℕ) (e : RecordFault) (n count : ℕ) (s : S) (x : List A × S) →
    n < count → many_from step n s ≡ Ok x → Fails e (step x.1) → Fails e (many_from step count s)
ends step fault.Memory n count s x lt so_far h = tt
ends step (fault.BadRecord at) n count s x lt so_far h = many_stops step n count s x at lt so_far h

-- a fault stays, whatever was to follow
pub fails_on : {A B : Type 0} (e : RecordFault) (read : Result A ℕ) (f : A → Result B ℕ) → Fails e read → Fails e (read >>= f)
fails_on fault.Memory read f h = tt
fails_on (fault.BadRecord at) read f h = ap (λ r. r >>= f) h
