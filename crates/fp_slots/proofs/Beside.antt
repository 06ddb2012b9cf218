-- The bytes of the other slot: copied, made sure of, opened.
use Rattle.std.proofs.Common.{append_assoc, refl, ◌≡◌, ◌⊎◌, inl, inr, ℕ, ◌+◌, ◌-◌, ◌<◌, ◌≤◌, ◌^◌, List, [], ◌∷◌, ◌++◌}
use Rattle.std.proofs.Common.{length, drop, sym, ◌∙◌, ap, subst, arith, length-append}
use Rattle.std.specs.Prelude.{slice_index, slice_range}
use Rattle.std.specs.Int.{w32, w64, to_be_bytes}
use Rattle.std.proofs.lemmas.Bool.{cases_lt, cases_eq}
use Rattle.std.proofs.lemmas.List.{get_or-drop, get_or_append_left, length-drop}
use Rattle.fp_disk.specs.Outcomes.{IsOutcome, PendingState, Written}
use Rattle.fp_gate.specs.declared.gate.TheConstants.{OPEN}
use Rattle.fp_journal.specs.Holds.{Holds}
use Rattle.fp_journal.specs.Chain.{Ends, with_length}
use Rattle.fp_journal.specs.declared.slot.Slot.{Slot}
use Rattle.fp_journal.proofs.Holds.{holds_front, holds_byte, byte_held, holds_append, held_range, holds_written}
use Rattle.fp_journal.proofs.Holds.{holds_apart, written_long, firm_outcome}
use Rattle.fp_slots.specs.Head.{head_text}
use Rattle.fp_slots.specs.declared.places.TheConstants.{IMAGE_PLACE, VERSION}
use Rattle.fp_slots.specs.Rules.{RulesWith, HasGeneration}
use Rattle.fp_slots.specs.State.{IsShut, IsCopied, IsPart, IsPlan, IsFrontOf}
use Rattle.fp_slots.proofs.Ruling.{front_there, front_generation, rules_shut}

-- ---- parts
-- at first nothing is copied
pub copied_none : (slot : ℕ) (bytes b : List ℕ) (u : PendingState) → IsShut slot u → IsOutcome u b → IsCopied slot bytes 1 b
copied_none slot bytes b u x o =
    record {
      long = (firm_outcome u slot (x.gate ∷ []) b x.firm o).long;
      same =
          λ k le lt. absurd (omega (arith, le, lt));
    }

module _ (slot : ℕ) (bytes old new : List ℕ) (done to : ℕ) (le : done ≤ to) (within : to ≤ length bytes)
    (c : IsCopied slot bytes done old) (w : Written old (slot + done) (slice_range bytes done to) new) where
  n : ℕ
  n = to - done

  back : done + (to - done) ≡ to
  back = omega (arith, le)

  piece : Holds bytes done (slice_range bytes done to) × (length (slice_range bytes done to) ≡ to - done)
  piece = let r = held_range bytes done (to - done) (omega (arith, le, within)) in
      subst (λ (k : ℕ). Holds bytes done (slice_range bytes done k) ×
      (length (slice_range bytes done k) ≡ to - done)) back r

  -- a part more is
  pub copied_more : IsCopied slot bytes to new
  copied_more = let long = c.long in let size = written_long old (slice_range bytes done to) new (slot + done) w in
      let len = piece.1 in record {
        long = omega (arith, size, len, le);
        same = λ k low high. elim (cases_lt k done) [
          | inl before ↦
              let byte : Holds old (slot + k) (slice_index old (slot + k) ∷ []) = holds_byte old (slot + k) (omega (arith, before, long)) in
              let kept = holds_apart old (slice_range bytes done to) new (slice_index old (slot + k) ∷ []) (slot + done)
              (slot + k) w (inr (omega (arith, before))) byte in
              byte_held new (slot + k) (slice_index old (slot + k)) [] kept ∙ c.same k low before
          | inr not_before ↦
              let there : slot + done + (k - done) ≡ slot + k = omega (arith, not_before) in
              let here : done + (k - done) ≡ k = omega (arith, not_before) in
              let lt : k - done < length (slice_range bytes done to) = omega (arith, not_before, high, len) in
              ap (λ (j : ℕ). slice_index new j) (sym there) ∙
              (holds_written old (slice_range bytes done to) new (slot + done) w).same (k - done) lt ∙
              sym (piece.0.same (k - done) lt) ∙ ap (λ (j : ℕ). slice_index bytes j) here
        ];
      }

-- in the end all is
pub copied_all : (slot : ℕ) (bytes b : List ℕ) → 1 ≤ length bytes → IsCopied slot bytes (length bytes) b → Holds b (slot + 1) (drop 1 bytes)
copied_all slot bytes b some c = let long = c.long in let len = length-drop 1 bytes in record {
  long = omega (arith, long, len, some);
  same = λ k lt. let there : slot + (1 + k) ≡ slot + 1 + k = omega arith in
      ap (λ (j : ℕ). slice_index b j) (sym there) ∙ c.same (1 + k) (omega arith) (omega (arith, lt, len)) ∙
      sym (get_or-drop 1 bytes k 0);
}

-- ---- the plan
module _ (slot : Slot) (generation : ℕ) (text bytes : List ℕ) (p : IsPlan slot generation text bytes) where
  abbrev Behind : List ℕ
  Behind = (to_be_bytes w64 (generation + 1) ++ VERSION ∷ p.rest) ++ 0 ∷ []

  planned : bytes ≡ OPEN ∷ Behind
  planned = p.bytes_are ∙ ap (λ (t : List ℕ). t ++ 0 ∷ []) p.text_is

  behind : drop 1 bytes ≡ Behind
  behind = ap (drop 1) planned

  pub plan_long : (length bytes ≡ length text + 1) × (9 ≤ length text)
  plan_long = let a : length bytes ≡ length (text ++ 0 ∷ []) = ap length p.bytes_are in
      let b = length-append text (0 ∷ []) in
      let c : length text ≡ length (OPEN ∷ (to_be_bytes w64 (generation + 1) ++ VERSION ∷ p.rest)) =
      ap length p.text_is in
      (omega (arith, a, b), omega (arith, c))

  pub plan_within : (start : ℕ) → start ≡ slot.start → start + length bytes ≤ slot.stop
  plan_within start is = let l = plan_long.0 in let f = p.fits in omega (arith, l, f, is)

  -- behind an open gate stands the new text
  pub opened_ends : (c : List ℕ) → slice_index c slot.start ≡ OPEN → Holds c (slot.start + 1) (drop 1 bytes) →
      Ends slot.start slot.stop text c
  opened_ends c is h =
      let long = h.long in
      let gate : Holds c slot.start (OPEN ∷ []) =
      subst (λ (x : ℕ). Holds c slot.start (x ∷ [])) is (holds_byte c slot.start (omega (arith, long))) in
      let all : Holds c slot.start (OPEN ∷ Behind) =
      holds_append c slot.start (OPEN ∷ []) Behind gate
      (subst (λ (t : List ℕ). Holds c (slot.start + 1) t) behind h) in record {
        gate = 0;
        shut = λ e. omega (arith, e);
        holds = subst (λ (t : List ℕ). Holds c slot.start t) (sym planned ∙ p.bytes_are) all;
        within = p.fits;
      }

  pub opened_generation : (c : List ℕ) → Holds c (slot.start + 1) (drop 1 bytes) → HasGeneration slot.start (generation + 1) c
  opened_generation c h = record {
    small = p.next;
    text = holds_front c (slot.start + 1) (to_be_bytes w64 (generation + 1)) (VERSION ∷ p.rest)
        (holds_front c (slot.start + 1) (to_be_bytes w64 (generation + 1) ++ VERSION ∷ p.rest) (0 ∷ [])
        (subst (λ (t : List ℕ). Holds c (slot.start + 1) t) behind h));
  }

  -- whatever the gate is, one of the slots rules, and what it holds is known
  pub either_tells : {version : ℕ} (mine : Slot) (front sealed c : List ℕ) → IsFrontOf version generation front →
      generation < 2 ^ 64 → Holds c mine.start front → Ends mine.start mine.stop sealed c →
      Holds c (slot.start + 1) (drop 1 bytes)
      → RulesWith mine slot sealed c ⊎ RulesWith slot mine text c
  either_tells mine front sealed c f small there e h = let long = h.long in elim (cases_eq (slice_index c slot.start) OPEN) [
    | inl opened ↦ inr (record {
      rules = record {
        there = front_there mine.start generation front c f there;
        opened = opened;
        over =
            inr (
              generation + 1,
              generation,
              opened_generation c h,
              front_generation mine.start generation front c f there small,
              omega arith,
            );
      };
      ends = opened_ends c opened h;
    })
    | inr shut ↦ inl (record {
      rules =
          rules_shut mine.start generation front c f there slot.start (slice_index c slot.start) shut
          (holds_byte c slot.start (omega (arith, long)));
      ends = e;
    })
  ]

-- ---- a head as a plan
pub head_long : (version generation base : ℕ) (image : List ℕ) →
    length (head_text version generation base image) ≡ IMAGE_PLACE + length image
head_long version generation base image = omega arith

pub head_plan : (slot : Slot) (generation base : ℕ) (image text bytes : List ℕ) → generation + 1 < 2 ^ 64 →
    slot.start + IMAGE_PLACE + length image < slot.stop
    → text ≡ head_text VERSION (generation + 1) base image → bytes ≡ text ++ 0 ∷ [] → IsPlan slot generation text bytes
head_plan slot generation base image text bytes next fits is all = record {
  rest = to_be_bytes w64 base ++ (to_be_bytes w32 (length image) ++ image);
  text_is = is;
  bytes_are = all;
  next = next;
  fits = (let a : length text ≡ length (head_text VERSION (generation + 1) base image) = ap length is in
      let b = head_long VERSION (generation + 1) base image in omega (arith, a, b, fits));
}

-- ---- a batch that is sealed meanwhile
module _ (slot : Slot) (generation done : ℕ) (text body b : List ℕ) where
  abbrev Longer : List ℕ
  Longer = text ++ OPEN ∷ with_length body

  pub plan_longer : IsPlan slot generation text (text ++ 0 ∷ []) → slot.start + length Longer < slot.stop →
      IsPlan slot generation Longer (Longer ++ 0 ∷ [])
  plan_longer p fits = record {
    rest = p.rest ++ OPEN ∷ with_length body;
    text_is = ap (λ (t : List ℕ). t ++ OPEN ∷ with_length body) p.text_is ∙
        ap (λ (t : List ℕ). OPEN ∷ t) (append_assoc (to_be_bytes w64 (generation + 1)) (VERSION ∷ p.rest)
        (OPEN ∷ with_length body));
    bytes_are = refl;
    next = p.next;
    fits = fits;
  }

  pub copied_longer : done ≤ length text → IsCopied slot.start (text ++ 0 ∷ []) done b → IsCopied slot.start (Longer ++ 0 ∷ []) done b
  copied_longer le c = record {
    long = c.long;
    same = λ k low lt. c.same k low lt ∙ get_or_append_left text (0 ∷ []) 0 k (omega (arith, le, lt)) ∙
        sym (get_or_append_left text (OPEN ∷ with_length body) 0 k (omega (arith, le, lt)))
        ∙ sym (get_or_append_left (text ++ OPEN ∷ with_length body) (0 ∷ []) 0 k
        (let len = length-append text (OPEN ∷ with_length body) in omega (arith, le, lt, len)));
  }

  pub part_longer : IsPart (text ++ 0 ∷ []) done → IsPart (Longer ++ 0 ∷ []) done
  part_longer q = let some = q.some in let part = q.part in let a = length-append text (0 ∷ []) in
      let l = length-append text (OPEN ∷ with_length body) in let z = length-append Longer (0 ∷ []) in
      record { some = some; part = omega (arith, part, a, l, z) }

pub plan_goes_on : (slot : Slot) (generation done : ℕ) (text body b : List ℕ) →
    IsPlan slot generation text (text ++ 0 ∷ []) → done ≤ length text → IsCopied slot.start (text ++ 0 ∷ []) done b →
    slot.start + length (text ++ OPEN ∷ with_length body) < slot.stop
    → IsPlan slot generation (text ++ OPEN ∷ with_length body) ((text ++ OPEN ∷ with_length body) ++ 0 ∷ []) ×
    IsCopied slot.start ((text ++ OPEN ∷ with_length body) ++ 0 ∷ []) done b
plan_goes_on slot generation done text body b p le c fits =
    (plan_longer slot generation done text body b p fits, copied_longer slot generation done text body b le c)
