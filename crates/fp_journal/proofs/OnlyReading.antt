-- Reads of a disk, one after another.
use Rattle.std.proofs.Common.{◌≡◌, ◌+◌, ◌≤◌, ℕ, List, [], ◌∷◌, ◌++◌, length, take, drop, refl, sym, ◌∙◌, ap, subst, arith, append_assoc}
use Rattle.std.specs.Prelude.{slice_range}
use Rattle.std.proofs.lemmas.Grind.{common_steps}
use Rattle.std.proofs.lemmas.List.{append-nil}
use Rattle.fp_disk.specs.Crashes.{SameHonesty}
use Rattle.fp_disk.specs.Outcomes.{PendingState, IsOutcome}
use Rattle.fp_disk.specs.Word.{Adds, OnlyNow, word_call, word_map, word_still, word_then}
use Rattle.fp_disk.specs.declared.disk.Disk.{Ghosts}
use Rattle.fp_disk.specs.declared.history.CallKind.{CallKind}
use Rattle.fp_disk.specs.declared.history.CallKind.TheVariants.{Read}
use Rattle.fp_journal.specs.Holds.{Holds}
use Rattle.fp_journal.proofs.Holds.{holds_append, held_range}
use Rattle.fp_journal.specs.Pieces.{AreReads, ThenReads, OnlyReads}

-- ---- the calls
reads_none : (old : List CallKind) → ThenReads [] old old
reads_none old = ([], tt, sym (append-nil old))

reads_one : (old new : List CallKind) → new ≡ old ++ Read ∷ [] → ThenReads [] old new
reads_one old new is = (Read ∷ [], (refl, tt), is)

are_more : (xs ys : List CallKind) → AreReads xs → AreReads ys → AreReads (xs ++ ys)
are_more [] ys p q = q
are_more (x ∷ xs) ys p q = (p.0, are_more xs ys p.1 q)

-- more reads behind those
pub reads_behind : (kinds : List CallKind) (old middle new : List CallKind) → ThenReads kinds old middle →
    ThenReads [] middle new → ThenReads kinds old new
reads_behind kinds old middle new p q = (
  p.0 ++ q.0,
  are_more p.0 q.0 p.1 q.1,
  q.2 ∙ ap (λ (l : List CallKind). l ++ q.0) p.2
      ∙ append_assoc old (kinds ++ p.0) q.0
      ∙ ap (λ (l : List CallKind). old ++ l) (append_assoc kinds p.0 q.0),
)

-- ---- the disk
module _ {D : Type 0} (disk : Ghosts D) where
  pub only_then : (a b c : D) → OnlyReads disk a b → OnlyReads disk b c → OnlyReads disk a c
  only_then a b c p q = record {
    same = λ h. let x = p.same h in let y = q.same (p.word.honest.0 h) in (y.0 ∙ x.0, y.1 ∙ x.1);
    word = word_then p.word (word_map (λ h o out. subst (λ (u : PendingState). IsOutcome u o) (p.same (p.word.honest.1 h)).1 out) q.word);
    called = reads_behind [] (disk.calls a) (disk.calls b) (disk.calls c) p.called q.called;
  }

  pub only_none : OnlyNow disk → (a : D) → OnlyReads disk a a
  only_none only_now a = record {
    same = λ h. (refl, refl);
    word = word_still disk only_now (λ h c out. out);
    called = reads_none (disk.calls a);
  }

  pub only_one : OnlyNow disk → (a b : D) → SameHonesty disk a b
      → (disk.honest a → (disk.bytes b ≡ disk.bytes a) × (disk.unsynced b ≡ disk.unsynced a))
      → Adds disk a b (disk.unsynced a) → disk.calls b ≡ disk.calls a ++ Read ∷ [] → OnlyReads disk a b
  only_one only_now a b honest same time called = record {
    same = same;
    word = word_call disk only_now honest time (λ h c out. out) (λ h c out. out);
    called = reads_one (disk.calls a) (disk.calls b) called;
  }

-- ---- a part that was read
-- one piece more
pub piece_more : (c : List ℕ) (first count at n : ℕ) (old piece new : List ℕ) → Holds c first old →
    first + length old + count ≤ length c → at ≡ first + length old → n ≡ count → piece ≡ slice_range c at (at + n) →
    new ≡ old ++ piece → Holds c first new
piece_more c first count at n old piece new there le here all is grown =
    let more = (held_range c at n (omega (arith, le, here, all))).0 in
    subst (λ (t : List ℕ). Holds c first t) (sym grown)
    (holds_append c first old piece there
    (subst (λ (k : ℕ). Holds c k piece) here (subst (λ (t : List ℕ). Holds c at t) (sym is) more)))

-- what a slice as long as the list was filled with is the whole list
pub whole_back : (new items : List ℕ) (n : ℕ) → length new ≡ n → length items ≡ n → take n (new ++ drop (length new) items) ≡ new
whole_back new items n long all = grind (arith, common_steps)

-- as far as reading came
pub record IsReadOn {D : Type 0} (disk : Ghosts D) (old now : D) (first : ℕ) (before bytes : List ℕ) (count : ℕ) : Type 0 where
  pub within : length bytes ≤ length before + count
  pub kept : OnlyReads disk old now
  pub faults : disk.faults now ≡ disk.faults old
  pub stands : disk.honest old → Holds (disk.bytes old) first bytes
