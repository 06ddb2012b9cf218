-- That a call fails exactly where the device did, from the call of the disk to the caller's answer.
use Rattle.std.proofs.Common.{ℕ, List, Ok, Err, refl}
use Rattle.fp_disk.specs.Outcomes.{CountsFaults}
use Rattle.fp_disk.specs.declared.disk.Disk.{Ghosts}
use Rattle.fp_disk.specs.declared.disk.DiskFault.{DiskFault}
use Rattle.fp_journal.specs.Calls.{KeepsApart}

pub answers_still : {T : Type 0} {now : ℕ} {y : T} → CountsFaults now now (Ok y)
answers_still = record { well = λ _. refl; ill = λ no. absurd (cc no) }

pub answers_ok : {S T : Type 0} {before now : ℕ} {x : S} {y : T} → CountsFaults before now (Ok x) → CountsFaults before now (Ok y)
answers_ok a = record { well = λ _. a.well refl; ill = λ no. absurd (cc no) }

pub answers_err : {S T : Type 0} {before now : ℕ} {e f : DiskFault} → CountsFaults {T = S} before now (Err e) →
    CountsFaults {T = T} before now (Err f)
answers_err a = record { well = λ no. absurd (cc no); ill = λ _. a.ill refl }

-- and what the call kept is kept by the caller
module _ {D S T : Type 0} {disk : Ghosts D} {old new : D} {P : List ℕ → Type 0} {Out : ℕ → ℕ → Type 0} where
  pub keeps_ok : {x : S} {y : T} → KeepsApart disk old new P Out (Ok x) → KeepsApart disk old new P Out (Ok y)
  keeps_ok k = record { word = k.word; apart = k.apart; cause = answers_ok k.cause }

  pub keeps_err : {e f : DiskFault} → KeepsApart {T = S} disk old new P Out (Err e) → KeepsApart {T = T} disk old new P Out (Err f)
  keeps_err k = record { word = k.word; apart = k.apart; cause = answers_err k.cause }
