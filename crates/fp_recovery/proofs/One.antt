-- Bytes stand for one set at most: of a disk one front is read, and one ending behind it.
use Rattle.std.proofs.Common.{◌≡◌, ◌+◌, ◌/◌, ℕ, List, length, Result, Ok, Err, refl, sym, ap, subst, ◌∙◌}
use Rattle.fp_edit.specs.Flags.{State}
use Rattle.fp_journal.specs.declared.slot.Slot.{Slot}
use Rattle.fp_journal.specs.Reading.{StopsAt}
use Rattle.fp_layout.specs.Opening.{FoundFront}
use Rattle.fp_layout.specs.Size.{other_side, slot_of}
use Rattle.fp_recovery.specs.Refusals.{BeginsWith, RefusesBatch, Replayed, TakesBody, nothing_read}
use Rattle.fp_recovery.specs.Stands.{StandsFor}
use Rattle.fp_recovery.proofs.Chains.{Ending, chain_ending, one_ending, stop_ending}
use Rattle.fp_recovery.proofs.Parts.{HasFront, begun_one, front_one, most_small, moved_front}
use Rattle.fp_recovery.proofs.Restored.{bodies_read}
use Rattle.fp_recovery.proofs.Texts.{stands_read}

module _ (c : List ℕ) where
  pub front_there : {before middle : Replayed} {slot : Slot} {at : ℕ}
      (f : FoundFront BeginsWith c before middle slot at) →
      HasFront c f.size f.version f.generation f.base slot f.other f.image
  front_there f = record { header = f.header; active = f.active; head = f.head }

  -- the front of a disk that was read, and what is read behind it: a set, or the place of a fault
  pub record ReadsTo (out : Result Replayed ℕ) : Type 0 where
    pub middle : Replayed
    pub slot : Slot
    pub at : ℕ
    pub front : FoundFront BeginsWith c nothing_read middle slot at
    pub ending : Ending slot.most slot.stop c at middle out

  pub one_reading : (a b : Result Replayed ℕ) → ReadsTo a → ReadsTo b → a ≡ b
  one_reading a b p q =
      let f = p.front in let g = q.front in let slot = q.slot in
      let o = front_one c (front_there f) (front_there g) in
      let begun : BeginsWith nothing_read g.version g.base (g.size / 2) g.image p.middle =
      moved_front (λ n version base image. BeginsWith nothing_read version base (n / 2) image p.middle) o f.begun
      in
      let middle : p.middle ≡ q.middle = begun_one nothing_read g.version g.base (g.size / 2) g.image p.middle q.middle begun g.begun in
      let at : p.at ≡ q.at = f.place ∙ ap (λ (x : Slot). x.start + 22 + length f.image) o.slot_is ∙
      ap (λ (i : List ℕ). slot.start + 22 + length i) o.image_is ∙ sym g.place in
      let same : Ending slot.most slot.stop c q.at q.middle a =
      subst (λ (m : Replayed). Ending slot.most slot.stop c q.at m a) middle
      (subst (λ (n : ℕ). Ending slot.most slot.stop c n p.middle a)
      at (subst (λ (x : Slot). Ending x.most x.stop c p.at p.middle a) o.slot_is p.ending)) in
      one_ending slot.most slot.stop c (most_small c g.size slot g.other g.header g.active) q.at q.middle a b same q.ending

  -- what is read of a disk that stands for a set
  abbrev pub read_of : (s : State) → StandsFor c s → Replayed
  read_of s p = record { version = (stands_read c s p).version; set = s }

  pub stands_to : (s : State) (p : StandsFor c s) → ReadsTo (Ok (read_of s p))
  stands_to s p =
      let slot = slot_of p.size p.side in let r = stands_read c s p in let at = slot.start + 22 + length r.image in
      let first : Replayed = record { version = r.version; set = r.first } in record {
        middle = first;
        slot = slot;
        at = at;
        front = record {
          size = p.size;
          other = slot_of p.size (other_side p.side);
          version = r.version;
          generation =
              r.generation;
          base = r.base;
          image = r.image;
          header = r.header;
          active = r.active;
          head =
              r.head;
          begun = (refl, r.image_is);
          place = refl;
        };
        ending = chain_ending slot.most slot.stop c at first (read_of s p) r.batches r.chain
            (bodies_read r.version r.first s r.batches r.leads);
      }

  pub stops_to : (slot : Slot) (at : ℕ) (middle : Replayed) (k : ℕ) →
      FoundFront BeginsWith c nothing_read middle slot at →
      StopsAt TakesBody RefusesBatch slot.most at slot.stop c middle k → ReadsTo (Err k)
  stops_to slot at middle k f stops =
      record {
        middle = middle;
        slot = slot;
        at = at;
        front = f;
        ending =
            stop_ending slot.most slot.stop c at middle k stops;
      }

pub stands_one : (c : List ℕ) (s t : State) → StandsFor c s → StandsFor c t → s ≡ t
stands_one c s t p q =
    let one = read_of c s p in let other = read_of c t q in
    let both : ◌≡◌ {A = Result Replayed ℕ} (Ok one) (Ok other) = one_reading c (Ok one) (Ok other) (stands_to c s p) (stands_to c t q) in
    let same : one ≡ other = cc in
    ap (λ (r : Replayed). r.set) same
