-- A body behind the planned text, while that can grow.
use Rattle.std.proofs.Common.{◌≡◌, ◌≢◌, ℕ, ◌+◌, ◌<◌, List, [], ◌∷◌, ◌++◌, length, drop, sym, subst, arith, length-append}
use Rattle.std.specs.Prelude.{Bool, slice_range}
use Rattle.fp_disk.specs.Outcomes.{PendingState}
use Rattle.fp_disk.specs.declared.disk.Disk.{Ghosts}
use Rattle.fp_gate.specs.declared.gate.TheConstants.{OPEN}
use Rattle.fp_journal.specs.Chain.{body_of, with_length}
use Rattle.fp_journal.specs.declared.slot.Slot.{Slot}
use Rattle.fp_journal.specs.declared.journal.Phase.TheVariants.{Failed}
use Rattle.fp_slots.specs.declared.slots.Step.{Step}
use Rattle.fp_slots.specs.State.{SlotsState, IsBeside, IsCopied, IsGrowing, IsKept, IsPart, IsPlan, IsPlanned}
use Rattle.fp_slots.proofs.Beside.{plan_longer, copied_longer, part_longer}
use Rattle.fp_slots.proofs.Fronts.{InFront}
use Rattle.fp_slots.proofs.Steps.{Kept, by_growing}

module _ (slot : Slot) (generation done : ℕ) (text body planned : List ℕ)
    (fits : slot.start + length (text ++ OPEN ∷ with_length body) < slot.stop) where
  abbrev pub Longer : List ℕ
  Longer = text ++ OPEN ∷ with_length body

  longer : IsPlan slot generation text planned → IsPlan slot generation Longer (Longer ++ 0 ∷ [])
  longer p = plan_longer slot generation done text body [] (subst (λ (t : List ℕ). IsPlan slot generation text t) p.bytes_are p) fits

  part : IsPlan slot generation text planned × IsPart planned done →
      IsPlan slot generation Longer (Longer ++ 0 ∷ []) × IsPart (Longer ++ 0 ∷ []) done
  part x = (longer x.0, part_longer slot generation done text body [] (subst (λ (t : List ℕ). IsPart t done) x.0.bytes_are x.1))

  plan_at : (p : Step) → IsGrowing p → IsPlanned p slot generation text planned done →
      IsPlanned p slot generation Longer (Longer ++ 0 ∷ []) done
  plan_at = by_growing (λ p. IsPlanned p slot generation text planned done →
      IsPlanned p slot generation Longer (Longer ++ 0 ∷ []) done) (λ x. (longer x.0, x.1)) (λ x. (longer x.0, x.1))
      part part

  module _ (may_open : Bool) (u : PendingState) (b : List ℕ) where
    copied : IsPlan slot generation text planned × IsPart planned done → IsCopied slot.start planned done b →
        IsCopied slot.start (Longer ++ 0 ∷ []) done b
    copied x c = let q : IsPart (text ++ 0 ∷ []) done = subst (λ (t : List ℕ). IsPart t done) x.0.bytes_are x.1 in
        let short = q.part in let len = length-append text (0 ∷ []) in
        copied_longer slot generation done text body b (omega (arith, short, len))
        (subst (λ (t : List ℕ). IsCopied slot.start t done b) x.0.bytes_are c)

    beside_at : (p : Step) → IsGrowing p → IsPlanned p slot generation text planned done →
        IsBeside p slot.start generation may_open planned done u b →
        IsBeside p slot.start generation may_open (Longer ++ 0 ∷ []) done u b
    beside_at = by_growing (λ p. IsPlanned p slot generation text planned done →
        IsBeside p slot.start generation may_open planned done u b →
        IsBeside p slot.start generation may_open (Longer ++ 0 ∷ []) done u b)
        (λ _ y. y) (λ _ y. y) (λ x y. (y.0, copied x y.1)) (λ x y. (y.0, copied x y.1))

module _ {D : Type 0} (disk : Ghosts D) {s v : SlotsState D} {may_open : Bool} {planned : List ℕ} {done : ℕ}
    (seen : s ≡ v) (kept : IsKept disk.honest disk.bytes disk.unsynced s may_open planned done)
    (seen_growing : IsGrowing v.step) where
  growing : IsGrowing s.step
  growing = subst (λ (k : SlotsState D). IsGrowing k.step) (sym seen) seen_growing

  pub planned_is : planned ≡ s.text ++ 0 ∷ []
  planned_is = (by_growing (λ p. IsPlanned p s.other s.generation s.text planned done →
      IsPlan s.other s.generation s.text planned) (λ x. x.0) (λ x. x.0) (λ x. x.0) (λ x. x.0) s.step growing
      kept.plan).bytes_are

  module _ (live : v.journal.phase ≢ Failed) (new : List ℕ) (n : ℕ) where
    alive : s.journal.phase ≢ Failed
    alive = subst (λ (k : SlotsState D). k.journal.phase ≢ Failed) (sym seen) live

    -- as the front of these bytes
    fronted : (text coming : List ℕ) → InFront new text coming n →
        Kept disk (record s { text = text; coming = drop (n + 1) new }) may_open (text ++ 0 ∷ []) done →
        Kept disk (record s { text = slice_range new 0 n; coming = drop (n + 1) new }) may_open
        (slice_range new 0 (n + 1)) done
    fronted text coming f k = subst
        (λ (t : List ℕ). Kept disk (record s { text = t; coming = drop (n + 1) new }) may_open
        (slice_range new 0 (n + 1)) done) (sym f.front)
        (subst (λ (t : List ℕ). Kept disk (record s { text = text; coming = drop (n + 1) new }) may_open t done) (sym f.all) k)

    pub lengthened : (coming : List ℕ) →
        v.other.start + length (v.text ++ OPEN ∷ with_length (body_of v.coming)) < v.other.stop →
        InFront new (s.text ++ OPEN ∷ with_length (body_of s.coming)) coming n
        → Kept disk (record s { text = slice_range new 0 n; coming = drop (n + 1) new }) may_open (slice_range new 0 (n + 1)) done
    lengthened coming seen_fits f =
        let fits = subst (λ (k : SlotsState D). k.other.start + length
        (k.text ++ OPEN ∷ with_length (body_of k.coming)) < k.other.stop) (sym seen) seen_fits in
        fronted (s.text ++ OPEN ∷ with_length (body_of s.coming)) coming f (record {
          apart = kept.apart;
          wide = kept.wide;
          wide_too = kept.wide_too;
          front = kept.front;
          known = kept.known;
          small = kept.small;
          told = kept.told;
          plan = plan_at s.other s.generation done s.text (body_of s.coming) planned fits s.step growing kept.plan;
          still = kept.still;
          live = λ h fine. beside_at s.other s.generation done s.text (body_of s.coming) planned fits may_open
              (disk.unsynced s.journal.disk) (disk.bytes s.journal.disk) s.step growing kept.plan (kept.live h fine);
          failed = λ h no. absurd (alive no);
        })

    -- what is kept ready is in no claim
    pub readied : (coming : List ℕ) → InFront new s.text coming n →
        Kept disk (record s { text = slice_range new 0 n; coming = drop (n + 1) new }) may_open
        (slice_range new 0 (n + 1)) done
    readied coming f = fronted s.text coming f
        (subst (λ (t : List ℕ). Kept disk (record s { coming = drop (n + 1) new }) may_open t done) planned_is
        (record {
          apart = kept.apart;
          wide = kept.wide;
          wide_too = kept.wide_too;
          front = kept.front;
          known =
              kept.known;
          small = kept.small;
          told = kept.told;
          plan = kept.plan;
          still = kept.still;
          live =
              kept.live;
          failed = λ h no. absurd (alive no);
        }))
