-- A disk is opened again.
use Rattle.std.proofs.Common.{◌≡◌, ◌⊎◌, ◌<◌, ℕ, List, ◌∷◌, [], inl, inr, refl}
use Rattle.std.specs.Prelude.{Result, Ok, Err, IfOk, IfErr, MatchResult}
use Rattle.fp_disk.specs.Crashes.{SameHonesty}
use Rattle.fp_disk.specs.Outcomes.{IsOutcome, LeavesOnly}
use Rattle.fp_disk.specs.declared.disk.Disk.{Ghosts}
use Rattle.fp_disk.specs.declared.history.CallKind.TheVariants.{Length, Sync}
use Rattle.fp_edit.specs.Flags.{State}
use Rattle.fp_journal.specs.Pieces.{ThenReads, ThenSomeReads}
use Rattle.fp_layout.specs.declared.fault.OpenFault.{OpenFault}
use Rattle.fp_layout.specs.declared.fault.OpenFault.TheVariants as opening
use Rattle.fp_recovery.specs.Refusals.{IsUnlessWanting}
use Rattle.fp_recovery.specs.Stands.{StandsFor}
use Rattle.fp_group_commit.specs.Store.{StoreState}
use Rattle.fp_group_commit.specs.Tokens.{Identity}
use Rattle.fp_world.specs.World.{Opens}

pub wanting : (c : List ℕ) (t : State) (e : OpenFault) → StandsFor c t → IsUnlessWanting c e → (e ≡ opening.Device) ⊎ (e ≡ opening.Memory)
wanting c t opening.Unformatted stands none = absurd (none t stands)
wanting c t (opening.UnknownVersion v) stands none = absurd (none t stands)
wanting c t (opening.Damaged at) stands none = absurd (none t stands)
wanting c t opening.Device stands none = inl refl
wanting c t opening.Memory stands none = inr refl

-- what opening leaves of a disk, by how it ended
module _ {D : Type 0} (disk : Ghosts D) (old : D) where
  abbrev Behind : (D → Type 0) → Result (StoreState D × Identity) (OpenFault × D) → Type 0
  Behind P r = MatchResult r (λ x. P x.0.disk) (λ e. P e.1)

  pub opens : (r : Result (StoreState D × Identity) (OpenFault × D)) →
      (disk.honest old → Behind (λ new. disk.bytes new ≡ disk.bytes old) r) →
      (disk.honest old → Behind (λ new. LeavesOnly disk.moment disk.crash_states_since old new
      (IsOutcome (disk.unsynced old))) r) → Behind (λ new. SameHonesty disk old new) r
      → MatchResult r (λ x. ThenReads (Sync ∷ Length ∷ []) (disk.calls old) (disk.calls x.0.disk))
      (λ e. ThenSomeReads (Sync ∷ Length ∷ []) (disk.calls old) (disk.calls e.1))
      → IfOk r (λ x. disk.faults x.0.disk ≡ disk.faults old) →
      IfErr r (λ e. e.0 ≡ opening.Device → disk.faults old < disk.faults e.1) →
      IfErr r (λ e. e.0 ≡ opening.Memory → disk.faults e.1 ≡ disk.faults old) → Opens disk old r
  opens (Ok x) same any_moment honest called no_failure cause memory =
      record {
        same = same;
        any_moment = any_moment;
        honest = honest;
        called = called;
        no_failure =
            no_failure;
        cause = cause;
        memory = memory;
      }
  opens (Err e) same any_moment honest called no_failure cause memory =
      record {
        same = same;
        any_moment = any_moment;
        honest = honest;
        called = called;
        no_failure =
            no_failure;
        cause = cause;
        memory = memory;
      }
