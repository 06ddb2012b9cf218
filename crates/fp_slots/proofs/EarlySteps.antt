-- A batch on its way beside a compaction that is early, and a compaction that begins.
use Rattle.std.proofs.Common.{◌≡◌, ◌≢◌, inl, inr, ⊎_elim, ℕ, ◌+◌, ◌-◌, ◌<◌, ◌≤◌, List, [], ◌∷◌, ◌++◌, refl, sym, ap, ◌∙◌, subst, arith}
use Rattle.std.specs.Prelude.{Bool, true, false, Result, slice_index}
use Rattle.fp_disk.specs.Outcomes.{CountsFaults}
use Rattle.fp_disk.specs.Word.{KeepsWord, word_now}
use Rattle.fp_disk.specs.declared.disk.Disk.{Ghosts}
use Rattle.fp_disk.specs.declared.disk.DiskFault.{DiskFault}
use Rattle.fp_journal.specs.Calls.{KeepsAround}
use Rattle.fp_journal.specs.Holds.{Holds}
use Rattle.fp_journal.specs.State.{JournalState, ClaimsAt, CrashStates, HasAmong, HasChain, HasChainOrNext, Outside, SameSlot, has_begun}
use Rattle.fp_journal.specs.declared.journal.Phase.{Phase}
use Rattle.fp_journal.specs.declared.journal.Phase.TheVariants.{Idle, Failed}
use Rattle.fp_journal.proofs.Holds.{byte_held, holds_byte}
use Rattle.fp_slots.specs.Calls.{KeepsCompaction}
use Rattle.fp_slots.specs.declared.slots.Step.TheVariants.{Begin, Close}
use Rattle.fp_slots.specs.Rules.{Rules}
use Rattle.fp_slots.specs.State.{SlotsState, Keeps, Leaves, IsBeaten, IsBeside, IsCopied, IsPart, IsPlan, IsPlanned, IsStill}
use Rattle.fp_slots.proofs.Ruling.{claims_front}
use Rattle.fp_slots.proofs.Beside.{plan_within}
use Rattle.fp_slots.proofs.Steps.{Always, AtEarly, AtStep, Kept, Leave, beside_is, by_early, moved, older_on}
use Rattle.fp_slots.proofs.Steps.{older_rules, shut_on, shut_rules, within_other}

-- a sync reaches nothing, and leaves what the phase claims
pub synced : {D S : Type 0} {disk : Ghosts D} {old new : JournalState D} {r : Result S DiskFault} {q : Phase} →
    KeepsAround disk old new (CrashStates old) Always r → old.phase ≡ q →
    KeepsAround disk old new (ClaimsAt q old.begun old.slot old.front old.sealed old.staged) (Outside old.slot) r
synced {disk = disk} {old = old} {new = new} w at = record {
  same = w.same;
  call = record {
    word = subst (λ (p : Phase). KeepsWord disk old.disk new.disk
        (ClaimsAt p old.begun old.slot old.front old.sealed old.staged)) at w.call.word;
    apart = λ h from text out firm. w.call.apart h from text tt firm;
    cause = w.call.cause;
  };
  beside = λ h from text out there. w.beside h from text tt there;
}

chain_front : {D : Type 0} (s : SlotsState D) (bs : List (List ℕ)) (c : List ℕ) →
    HasChain s.journal.slot s.journal.front bs c → Holds c s.journal.slot.start s.journal.front
chain_front s bs c e = claims_front Idle false s.journal.slot s.journal.front bs [] c e

module _ {D : Type 0} {disk : Ghosts D} {s : SlotsState D} {may_open : Bool} {planned : List ℕ} {done : ℕ}
    {q : Phase} (a : AtEarly disk s may_open planned done q) where
  pub sealed_front : (c : List ℕ) → HasChain s.journal.slot s.journal.front s.journal.sealed c →
      Holds c s.journal.slot.start s.journal.front
  sealed_front = chain_front s s.journal.sealed

  pub next_front : (c : List ℕ) → HasChainOrNext s.journal.slot s.journal.front s.journal.sealed s.journal.staged c →
      Holds c s.journal.slot.start s.journal.front
  next_front c p = ⊎_elim (chain_front s s.journal.sealed c) (chain_front s (s.journal.sealed ++ s.journal.staged ∷ []) c) p

  -- the phase alone tells whether the gate began to open
  pub begun_is : s.journal.begun ≡ has_begun q s.journal.begun
  begun_is = sym a.at.kept.told ∙ ap (λ (p : Phase). has_begun p s.journal.begun) a.phase

-- ---- a call of the journal, which leaves P in its slot at each moment
module _ {D S : Type 0} {disk : Ghosts D} {s : SlotsState D} {may_open : Bool} {planned : List ℕ} {done : ℕ}
    {q : Phase} (a : AtEarly disk s may_open planned done q) {j : JournalState D} {P : List ℕ → Type 0}
    {r : Result S DiskFault} (w : KeepsAround disk s.journal j P (Outside s.journal.slot) r)
    (there : (c : List ℕ) → P c → Holds c s.journal.slot.start s.journal.front) where
  inside : (at n : ℕ) → s.other.start ≤ at → at + n ≤ s.other.stop → Outside s.journal.slot at n
  inside = within_other a.at

  gate : Outside s.journal.slot s.other.start 1
  gate = let wide = a.at.kept.wide in inside s.other.start 1 (omega arith) (omega (arith, wide))

  generation : Outside s.journal.slot (s.other.start + 1) 8
  generation = let wide = a.at.kept.wide in inside (s.other.start + 1) 8 (omega arith) (omega (arith, wide))

  -- the journal's slot rules all the time
  abbrev Ruling : List ℕ → Type 0
  Ruling c = Rules s.journal.slot.start s.other.start c × P c

  module _ (h : disk.honest s.journal.disk) where
    beaten_rules : (b : Bool) → IsBeaten b s.other.start s.generation (disk.unsynced s.journal.disk) → Leave a.at j w.same Ruling
    beaten_rules true x = older_rules a.at j w.same (Outside s.journal.slot) (w.call.apart h) P there
        (w.call.word.any_moment h) generation x
    beaten_rules false x = shut_rules a.at j w.same (Outside s.journal.slot) (w.call.apart h) P there (w.call.word.any_moment h) gate x

    rules : Leave a.at j w.same Ruling
    rules = by_early (λ p. IsBeside p s.other.start s.generation may_open planned done (disk.unsynced s.journal.disk)
        (disk.bytes s.journal.disk) → Leave a.at j w.same Ruling)
        (beaten_rules may_open) (beaten_rules may_open)
        (λ x. ⊎_elim (beaten_rules false) (λ y. beaten_rules true y.0) x) (λ x. beaten_rules false x.0)
        (λ x. beaten_rules false x.0) s.step a.early (beside_is a.at h)

    beaten_on : (b : Bool) → IsBeaten b s.other.start s.generation (disk.unsynced s.journal.disk) →
        IsBeaten b s.other.start s.generation (disk.unsynced j.disk)
    beaten_on true x = older_on a.at j w.same (Outside s.journal.slot) (w.call.apart h) generation x
    beaten_on false x = shut_on a.at j w.same (Outside s.journal.slot) (w.call.apart h) gate x

    copied_on : IsPlan s.other s.generation s.text planned × IsPart planned done →
        IsCopied s.other.start planned done (disk.bytes s.journal.disk) →
        IsCopied s.other.start planned done (disk.bytes j.disk)
    copied_on plan x =
        let long = x.long in let some = plan.1.some in let part = plan.1.part in
        let fits = plan_within s.other s.generation s.text planned plan.0 s.other.start refl in
        let b : List ℕ = disk.bytes s.journal.disk in
        let byte : (k : ℕ) → k < done → Holds (disk.bytes j.disk) (s.other.start + k) (slice_index b (s.other.start + k) ∷ []) = λ k lt.
        w.beside h (s.other.start + k) (slice_index b (s.other.start + k) ∷ [])
        (inside (s.other.start + k) 1 (omega arith) (omega (arith, fits, part, lt)))
        (holds_byte b (s.other.start + k) (omega (arith, long, lt))) in
        record {
          long = (let last = (byte (done - 1) (omega (arith, some))).long in omega (arith, last, some));
          same = λ k low lt. byte_held (disk.bytes j.disk) (s.other.start + k) (slice_index b (s.other.start + k)) []
              (byte k lt) ∙ x.same k low lt;
        }

    beside_on : IsBeside s.step s.other.start s.generation may_open planned done (disk.unsynced j.disk) (disk.bytes j.disk)
    beside_on = by_early (λ p. IsPlanned p s.other s.generation s.text planned done →
        IsBeside p s.other.start s.generation may_open planned done (disk.unsynced s.journal.disk)
        (disk.bytes s.journal.disk) → IsBeside p s.other.start s.generation may_open planned done
        (disk.unsynced j.disk) (disk.bytes j.disk))
        (λ plan x. beaten_on may_open x) (λ plan x. beaten_on may_open x)
        (λ plan x. ⊎_elim (λ y. inl (beaten_on false y))
        (λ y. inr (beaten_on true y.0, w.beside h s.other.start (0 ∷ []) gate y.1)) x)
        (λ plan x. (beaten_on false x.0, copied_on plan x.1)) (λ plan x. (beaten_on false x.0, copied_on plan x.1))
        s.step a.early a.at.kept.plan (beside_is a.at h)

  ruling : KeepsWord disk s.journal.disk j.disk Ruling
  ruling = record { any_moment = rules; honest = w.call.word.honest }

  on : (k : JournalState D) → SameSlot j k → SameSlot s.journal k
  on k same = (same.0 ∙ w.same.0, same.1 ∙ w.same.1, same.2 ∙ w.same.2, same.3 ∙ w.same.3)

  still : (p : Phase) → IsStill s.step p
  still p = by_early (λ t. IsStill t p) tt tt tt tt tt s.step a.early

  -- the invariant after a call that succeeded, and what follows it without a call of the disk
  pub early_done : (k : JournalState D) → SameSlot j k → k.disk ≡ j.disk → {t : Phase} → k.phase ≡ t → t ≢ Failed →
      {b : Bool} → k.begun ≡ b → has_begun t b ≡ b → Kept disk (record s { journal = k }) may_open planned done
  early_done k same e phase fine begun told =
      moved a.at k (on k same) (rw (phase, begun) told) s.step done s.left (still k.phase) a.at.kept.plan
      (λ h _. rw e (beside_on (w.call.word.honest.1 (subst disk.honest e h))))
      (λ h is. absurd (fine (sym phase ∙ is)))

  -- and after one that failed
  pub early_broke : ((c : List ℕ) → P c → HasAmong j.begun s.journal.slot s.journal.front j.sealed j.staged c) →
      j.phase ≡ Failed → Kept disk (record s { journal = j }) may_open planned done
  early_broke shows phase = moved a.at j w.same (rw phase refl) s.step done s.left (still j.phase) a.at.kept.plan
      (λ h no. absurd (no phase)) (λ h no c o. let x = word_now disk a.at.counts_now ruling h c o in
      let one : Keeps (record s { journal = j }) c = rw (w.same.1, w.same.2, phase) (x.0, shows c x.1) in
      by_early (λ p. Leaves p (record s { journal = j }) c) one one one one one s.step a.early)

  -- what it keeps, however it ended
  pub keeps_batch : {T : Type 0} {x : Result T DiskFault} (k : JournalState D) → SameSlot j k → k.disk ≡ j.disk →
      CountsFaults (disk.faults s.journal.disk) (disk.faults j.disk) x →
      KeepsCompaction disk s (record s { journal = k }) (λ c. Rules s.journal.slot.start s.other.start c × P c) x
  keeps_batch k same e cause = record {
    same = (on k same, refl, refl, refl, refl, refl, refl, refl, refl, refl);
    call =
        record {
          word = rw e ruling;
          apart = rw e (λ h at text out firm. w.call.apart h at text out.0 firm);
          cause =
              rw e cause;
        };
  }

-- ---- a compaction that begins
pub begins : {D : Type 0} {disk : Ghosts D} {s : SlotsState D} {may_open : Bool} {planned : List ℕ} {done : ℕ} →
    AtStep disk s may_open planned done Begin → (text next coming : List ℕ) (head left : ℕ) →
    IsPlan s.other s.generation text next →
    Kept disk (record s { step = Close; text = text; head = head; left = left; coming = coming }) may_open next 1
begins a text next coming head left plan =
    record {
      apart = a.kept.apart;
      wide = a.kept.wide;
      wide_too = a.kept.wide_too;
      front = a.kept.front;
      known =
          a.kept.known;
      small = a.kept.small;
      told = a.kept.told;
      plan = (plan, refl);
      still = tt;
      live =
          λ h fine. beside_is a h;
      failed = λ h no. absurd (a.alive no);
    }
