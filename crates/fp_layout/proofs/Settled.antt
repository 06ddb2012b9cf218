-- A disk on which all is synced.
use Rattle.std.proofs.Common.{◌≡◌, List, ℕ, inr, length, arith, sym, subst}
use Rattle.std.proofs.lemmas.List.{ext_get_or}
use Rattle.fp_disk.specs.Crashes.{EachCrash, SameHonesty}
use Rattle.fp_disk.specs.Outcomes.{PendingState, IsOutcome, all_synced, with_write}
use Rattle.fp_disk.specs.Word.{Adds, KeepsWord, OnlyNow, word_call, word_then}
use Rattle.fp_disk.specs.declared.disk.Disk.{Ghosts}

-- a crash leaves what a read gives
pub settled_one : (b c : List ℕ) → IsOutcome (all_synced b) c → c ≡ b
settled_one b c o =
    let low = o.no_shorter in let high = o.no_longer in let len : length c ≡ length b = omega (arith, low, high) in
    ext_get_or 0 c b len (λ k lt. o.kept k (omega (arith, lt, len)) (λ none. none))

-- and nothing that it couldn't have left before
pub settled_outcome : (u v : PendingState) (b c : List ℕ) → v ≡ all_synced b → IsOutcome u b → IsOutcome v c → IsOutcome u c
settled_outcome u v b c sure now o =
    subst (λ (x : List ℕ). IsOutcome u x)
    (sym (settled_one b c (subst (λ (w : PendingState). IsOutcome w c) sure o))) now

-- ---- a write, and a sync
touched_outcome : (u : PendingState) (at n : ℕ) (c : List ℕ) → IsOutcome u c → IsOutcome (with_write u at n) c
touched_outcome u at n c o = let high = o.no_longer in record {
  bytes = o.bytes;
  no_shorter = o.no_shorter;
  no_longer = omega (arith, high);
  kept = λ k lt out. o.kept k lt (λ covers. out (inr covers));
}

module _ {D : Type 0} (disk : Ghosts D) (only_now : OnlyNow disk) {old middle : D} {at n : ℕ}
    (honest : SameHonesty disk old middle) (time : Adds disk old middle (with_write (disk.unsynced old) at n)) where
  abbrev Touched : List ℕ → Type 0
  Touched c = IsOutcome (with_write (disk.unsynced old) at n) c

  pub write_word : KeepsWord disk old middle Touched
  write_word = word_call disk only_now honest time (λ h. touched_outcome (disk.unsynced old) at n) (λ h c out. out)

  pub written_word : {new : D} → (disk.honest old → disk.unsynced middle ≡ with_write (disk.unsynced old) at n) →
      SameHonesty disk middle new → Adds disk middle new (disk.unsynced middle) → KeepsWord disk old new Touched
  written_word touch same later = let now : EachCrash disk middle Touched =
      λ h c out. subst (λ (u : PendingState). IsOutcome u c) (touch (honest.1 h)) out in
      word_then write_word (word_call disk only_now same later now now)
