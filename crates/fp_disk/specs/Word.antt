-- A disk from one moment to another: its word, and what a crash leaves meanwhile.
use Rattle.std.specs.Prelude.{◌≤◌, ℕ, List}
use Rattle.fp_disk.specs.Crashes.{AtAnyMoment, EachCrash, SameHonesty}
use Rattle.fp_disk.specs.Moments.{leaves_call, leaves_map, leaves_still, leaves_then}
use Rattle.fp_disk.specs.Outcomes.{Elapses, IsOutcome, PendingState}
use Rattle.fp_disk.specs.declared.disk.Disk.{Ghosts}

-- The disk keeps its word at `new` exactly where it did at `old`, and then whatever a crash leaves at
-- any moment from the one to the other has P
pub record KeepsWord {D : Type 0} (disk : Ghosts D) (old new : D) (P : List ℕ → Type 0) : Type 0 where
  pub any_moment : AtAnyMoment disk old new P
  pub honest : SameHonesty disk old new

-- ---- what each disk promises
-- since this moment there is no outcome but those now
abbrev pub OnlyNow : {D : Type 0} → Ghosts D → Type 0
OnlyNow {D} disk = (d : D) (c : List ℕ) → disk.honest d
    → disk.crash_states_since d (disk.moment d) c → IsOutcome (disk.unsynced d) c

-- and those now are some of those since an earlier one
abbrev pub CountsNow : {D : Type 0} → Ghosts D → Type 0
CountsNow {D} disk = (d : D) (t : ℕ) (c : List ℕ) → disk.honest d → t ≤ disk.moment d
    → IsOutcome (disk.unsynced d) c → disk.crash_states_since d t c

-- a call adds these outcomes and no other
abbrev pub Adds : {D : Type 0} → Ghosts D → (old new : D) → PendingState → Type 0
Adds disk old new u = disk.honest old → Elapses (disk.moment old) (disk.moment new)
    (disk.crash_states_since old) (disk.crash_states_since new) (IsOutcome u)

-- ---- laws
module _ {D : Type 0} {disk : Ghosts D} {old new : D} {P : List ℕ → Type 0} where
  -- what has P has Q
  pub word_map : {Q : List ℕ → Type 0} → (disk.honest old → (c : List ℕ) → P c → Q c)
      → KeepsWord disk old new P → KeepsWord disk old new Q
  word_map {Q} weaker word = record {
    any_moment = λ h. leaves_map disk.moment disk.crash_states_since old new P Q (weaker h)
        (word.any_moment h);
    honest = word.honest;
  }

  -- one stretch of time and the next
  pub word_then : {between : D} → KeepsWord disk old between P → KeepsWord disk between new P
      → KeepsWord disk old new P
  word_then {between} first second = record {
    any_moment = λ h. leaves_then disk.moment disk.crash_states_since old between new P
        (first.any_moment h) (second.any_moment (first.honest.0 h));
    honest = (λ h. second.honest.0 (first.honest.0 h), λ h. first.honest.1 (second.honest.1 h));
  }

module _ {D : Type 0} (disk : Ghosts D) where
  -- no time goes by
  pub word_still : OnlyNow disk → {d : D} {P : List ℕ → Type 0} → EachCrash disk d P
      → KeepsWord disk d d P
  word_still only_now {d} {P} now = record {
    any_moment = λ h. leaves_still disk.moment disk.crash_states_since d P
        (λ c left. now h c (only_now d c h left));
    honest = (λ h. h, λ h. h);
  }

  -- one call, where each outcome before it has P, and so has each that it adds
  pub word_call : OnlyNow disk → {old new : D} {u : PendingState} {P : List ℕ → Type 0}
      → SameHonesty disk old new → Adds disk old new u → EachCrash disk old P
      → (disk.honest old → (c : List ℕ) → IsOutcome u c → P c) → KeepsWord disk old new P
  word_call only_now {old} {new} {u} {P} honest time before after = record {
    any_moment = λ h. leaves_call disk.moment disk.crash_states_since old new
        (IsOutcome (disk.unsynced old)) (IsOutcome u) P (time h)
        (λ c left. only_now old c h left) (before h) (after h);
    honest = honest;
  }

  -- what a crash leaves now has P too
  pub word_now : CountsNow disk → {old new : D} {P : List ℕ → Type 0} → KeepsWord disk old new P
      → EachCrash disk new P
  word_now counts_now {old} {new} word h c out = let l = word.any_moment (word.honest.1 h) in
      l.each c (counts_now new (disk.moment old) c h l.later out)

  -- and behind that a call that adds no outcome
  pub word_quiet : OnlyNow disk → CountsNow disk → {old between new : D} {P : List ℕ → Type 0}
      → KeepsWord disk old between P → SameHonesty disk between new
      → Adds disk between new (disk.unsynced between) → KeepsWord disk old new P
  word_quiet only_now counts_now word honest time = let now = word_now counts_now word in
      word_then word (word_call only_now honest time now now)
