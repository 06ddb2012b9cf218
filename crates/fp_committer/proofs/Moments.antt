-- One stretch of time and the next.
use Rattle.std.proofs.Common.{◌≡◌, List, ℕ, inl, inr}
use Rattle.fp_disk.specs.Crashes.{AtAnyMoment, SameHonesty}
use Rattle.fp_disk.specs.Moments.{leaves_map, leaves_then}
use Rattle.fp_disk.specs.declared.disk.Disk.{Ghosts}
use Rattle.fp_group_commit.specs.declared.phase.Phase.TheVariants.{Idle}
use Rattle.fp_recovery.specs.Stands.{StandsFor}
use Rattle.fp_group_commit.specs.Store.{Leaves, StoreState, sealed_set}

module _ {D : Type 0} (disk : Ghosts D) where
  -- what has P has Q
  pub weaker : (a b : D) (P Q : List ℕ → Type 0) → ((c : List ℕ) → P c → Q c) → AtAnyMoment disk a b P → AtAnyMoment disk a b Q
  weaker a b P Q f l = λ h. leaves_map disk.moment disk.crash_states_since a b P Q f (l h)

  pub next_moment : (a b c : D) (P : List ℕ → Type 0) → SameHonesty disk a b → AtAnyMoment disk a b P →
      AtAnyMoment disk b c P → AtAnyMoment disk a c P
  next_moment a b c P same first second = λ h. leaves_then disk.moment disk.crash_states_since a b c P (first h) (second (same.0 h))

  pub honest_on : (a b c : D) → SameHonesty disk a b → SameHonesty disk b c → SameHonesty disk a c
  honest_on a b c h k = (λ x. k.0 (h.0 x), λ x. h.1 (k.1 x))

pub idle_keeps : {D : Type 0} (s : StoreState D) → s.phase ≡ Idle → (c : List ℕ) → Leaves s c → StandsFor c (sealed_set s)
idle_keeps s idle c (inl stands) = stands
idle_keeps s idle c (inr both) = absurd (both.0 idle)
