-- A disk in the making: until the header's gate is open it is none, and then it is whole.
use Rattle.std.proofs.Common.{◌≡◌, inl, inr, ⊎_elim, ℕ, ◌+◌, ◌-◌, ◌<◌, ◌≤◌, List, [], ◌∷◌, ◌++◌, length, set, refl, sym}
use Rattle.std.proofs.Common.{◌∙◌, ap, subst, arith, replicate, lit<, lit≤}
use Rattle.std.specs.Prelude.{Result, Ok, slice_index, slice_range}
use Rattle.std.proofs.lemmas.Bool.{cases_eq}
use Rattle.std.specs.Int.{w32, w64, to_be_bytes}
use Rattle.std.proofs.lemmas.List.{get_or-replicate}
use Rattle.fp_journal.specs.Chain.{Ends}
use Rattle.fp_journal.specs.declared.journal.Phase.{Phase}
use Rattle.fp_journal.specs.declared.journal.Phase.TheVariants.{Failed, Idle}
use Rattle.fp_journal.specs.declared.slot.Slot.{Slot}
use Rattle.fp_layout.specs.Size.{IsSlotSize, first, first_slot, second_slot}
use Rattle.fp_disk.specs.Crashes.{IsUntouched, SameHonesty}
use Rattle.fp_disk.specs.Word.{Adds, KeepsWord, word_call, word_map, word_then}
use Rattle.fp_disk.specs.declared.disk.DiskFault.{DiskFault}
use Rattle.fp_disk.specs.declared.history.CallKind.{CallKind}
use Rattle.fp_disk.specs.declared.history.CallKind.TheVariants.{Sync, Write}
use Rattle.fp_layout.proofs.Calls.{calls_joined}
use Rattle.fp_disk.specs.Outcomes.{CountsFaults, Elapses, IsOutcome, LeavesOnly, PendingState, Written, all_synced, with_write}
use Rattle.fp_journal.specs.Holds.{Holds, IsSynced}
use Rattle.fp_journal.proofs.Holds.{holds_append, holds_front, holds_back, holds_byte, byte_held, holds_written}
use Rattle.fp_journal.proofs.Holds.{holds_apart, written_after, written_gap, written_long, firm_outcome, firm_touched}
use Rattle.fp_journal.proofs.Holds.{firm_settled}
use Rattle.fp_disk.specs.declared.disk.Disk.{Ghosts}
use Rattle.fp_disk.specs.Moments.{leaves_call, leaves_map}
use Rattle.fp_slots.specs.State as slots
use Rattle.fp_layout.specs.Layout.{magic, IsFormatted, IsHeader, IsHead, IsActive}
use Rattle.fp_slots.specs.Head.{IsVersion, slot_text}
use Rattle.fp_slots.specs.declared.places.TheConstants.{VERSION}
use Rattle.fp_layout.specs.declared.header.TheConstants.{HEADER_VERSION}
use Rattle.fp_layout.specs.NewDisk.{closed_bytes, header_text, empty_image, new_front, IsMade, IsNewDisk, IsNewOrNone}
use Rattle.fp_gate.specs.declared.gate.TheConstants.{OPEN}

pub no_bytes : (c : List ℕ) → length c ≡ 0 → c ≡ []
no_bytes [] is = refl
no_bytes (x ∷ xs) is = absurd (omega (arith, is))

module _ {D : Type 0} (disk : Ghosts D)
    (only_now : (d : D) (c : List ℕ) → disk.honest d → disk.crash_states_since d (disk.moment d) c →
    IsOutcome (disk.unsynced d) c) {old new : D} where
  -- a call that changes nothing
  pub untouched : disk.honest old → (disk.bytes new ≡ disk.bytes old) × (disk.unsynced new ≡ disk.unsynced old)
      → Elapses (disk.moment old) (disk.moment new) (disk.crash_states_since old) (disk.crash_states_since new)
      (IsOutcome (disk.unsynced old)) → IsUntouched disk old new
  untouched honest same time = record {
    stays = record {
      bytes = same.0;
      any_moment = leaves_call disk.moment disk.crash_states_since old new (IsOutcome (disk.unsynced old))
          (IsOutcome (disk.unsynced old)) (IsOutcome (disk.unsynced old)) time
          (λ c left. only_now old c honest left) (λ c out. out) (λ c out. out);
    };
    unsynced = same.1;
  }

-- ---- none yet
none_short : (c : List ℕ) → length c < 64 → IsFormatted c → ⊥
none_short c lt f = let l = f.long in omega (arith, lt, l)

none_shut : (c : List ℕ) → Holds c 0 (0 ∷ []) → IsFormatted c → ⊥
none_shut c h f = let zero : slice_index c 0 ≡ 0 = byte_held c 0 0 [] h in let gate = f.gate in omega (arith, zero, gate)

-- a write behind the closed gate of the header leaves none
pub shut_none : (size : ℕ) (u : PendingState) (from n : ℕ) (c : List ℕ) → 1 ≤ from → IsSynced u 0 (0 ∷ []) →
    IsOutcome (with_write u from n) c → IsNewOrNone size c
shut_none size u from n c le f o =
    inl (none_shut c (firm_outcome (with_write u from n) 0 (0 ∷ []) c
    (firm_touched u 0 from n (0 ∷ []) (inr (omega (arith, le))) f) o))

-- the first write leaves a byte at most
pub first_none : (size : ℕ) (c : List ℕ) → IsOutcome (with_write (all_synced []) 0 1) c → IsNewOrNone size c
first_none size c o = let l = o.no_longer in inl (none_short c (omega (arith, l)))

-- ---- the bytes after each write
module _ (size : ℕ) (b1 b2 b3 b4 : List ℕ) (large : 64 ≤ size) where
  abbrev tail : List ℕ
  tail = slot_text VERSION 1 0 empty_image

  abbrev Written1 : Type 0
  Written1 = Written [] 0 (0 ∷ []) b1

  abbrev Written2 : Type 0
  Written2 = Written b1 1 (header_text size ++ 0 ∷ (tail ++ 0 ∷ [])) b2

  abbrev Written3 : Type 0
  Written3 = Written b2 (64 + size) (0 ∷ []) b3

  abbrev Written4 : Type 0
  Written4 = Written b3 64 (OPEN ∷ []) b4

  pub made : Written1 → Written2 → Written3 → Written4 → IsMade size b4
  made w1 w2 w3 w4 =
      let n1 = written_long [] (0 ∷ []) b1 0 w1 in
      let n2 = written_long b1 (header_text size ++ 0 ∷ (tail ++ 0 ∷ [])) b2 1 w2 in
      let n3 = written_long b2 (0 ∷ []) b3 (64 + size) w3 in
      let n4 = written_long b3 (OPEN ∷ []) b4 64 w4 in
      let long2 : length b2 ≡ 91 = omega (arith, n1, n2) in
      let piece : Holds b3 1 (header_text size ++ 0 ∷ (tail ++ 0 ∷ [])) =
      holds_apart b2 (0 ∷ []) b3 (header_text size ++ 0 ∷ (tail ++ 0 ∷ [])) (64 + size) 1 w3
      (inr (omega (arith, large))) (holds_written b1 (header_text size ++ 0 ∷ (tail ++ 0 ∷ [])) b2 1 w2) in
      let back : Holds b3 64 (0 ∷ (tail ++ 0 ∷ [])) = holds_back b3 1 (header_text size) (0 ∷ (tail ++ 0 ∷ [])) piece in
      let header : Holds b4 1 (header_text size) =
      holds_apart b3 (OPEN ∷ []) b4 (header_text size) 64 1 w4 (inr (omega arith))
      (holds_front b3 1 (header_text size) (0 ∷ (tail ++ 0 ∷ [])) piece) in
      let rest : Holds b4 65 (tail ++ 0 ∷ []) =
      holds_apart b3 (OPEN ∷ []) b4 (tail ++ 0 ∷ []) 64 65 w4 (inl (omega arith))
      (holds_back b3 64 (0 ∷ []) (tail ++ 0 ∷ []) back) in
      let last : slice_index b4 90 ≡ 0 = byte_held b4 90 0 [] (holds_back b4 65 tail (0 ∷ []) rest) in
      record {
        long = omega (arith, long2, n3, n4);
        text = holds_append b4 1 (header_text size) new_front header
            (holds_append b4 64 (OPEN ∷ []) tail (holds_written b3 (OPEN ∷ []) b4 64 w4)
            (holds_front b4 65 tail (0 ∷ []) rest));
        zeros = λ k low high. elim (cases_eq k 90) [
          | inl is ↦ ap (λ (j : ℕ). slice_index b4 j) is ∙ last
          | inr not_is ↦ written_after b3 (OPEN ∷ []) b4 64 k w4 (omega (arith, low)) ∙ elim (cases_eq k (64 + size)) [
            | inl is ↦ ap (λ (j : ℕ). slice_index b3 j) is ∙ byte_held b3 (64 + size) 0 [] (holds_written b2 (0 ∷ []) b3 (64 + size) w3)
            | inr before ↦ written_gap b2 (0 ∷ []) b3 (64 + size) k w3 (omega (arith, long2, low, not_is)) (omega (arith, high, before))
          ]
        ];
      }

-- the last write leaves all but the gate as it is
pub made_outcome : (size : ℕ) (b c : List ℕ) → IsMade size b → IsOutcome (with_write (all_synced b) 0 1) c → IsMade size c
made_outcome size b c m o =
    let low = o.no_shorter in let high = o.no_longer in let long = m.long in record {
      long = omega (arith, low, high, long);
      text = firm_outcome (with_write (all_synced b) 0 1) 1 (header_text size ++ new_front) c
          (firm_touched (all_synced b) 1 0 1 (header_text size ++ new_front) (inl (omega arith))
          (firm_settled b 1 (header_text size ++ new_front) m.text)) o;
      zeros = λ k le lt. o.kept k (omega (arith, long, lt)) (λ covers. ⊎_elim (λ here. let x = here.1 in
          omega (arith, x, le)) (λ none. none) covers) ∙ m.zeros k le lt;
    }

pub last_new : (size : ℕ) (b c : List ℕ) → IsMade size b → IsOutcome (with_write (all_synced b) 0 1) c → IsNewOrNone size c
last_new size b c m o = elim (cases_eq (slice_index c 0) OPEN) [
  | inl opened ↦ inr (record { gate = opened; made = made_outcome size b c m o })
  | inr shut ↦ inl (λ f. shut f.gate)
]

pub new_written : (size : ℕ) (b new : List ℕ) → IsMade size b → Written b 0 (OPEN ∷ []) new → IsNewDisk size new
new_written size b new m w = let n = written_long b (OPEN ∷ []) new 0 w in let long = m.long in record {
  gate = byte_held new 0 OPEN [] (holds_written b (OPEN ∷ []) new 0 w);
  made = record {
    long = omega (arith, n, long);
    text = holds_apart b (OPEN ∷ []) new (header_text size ++ new_front) 0 1 w (inl (omega arith)) m.text;
    zeros = λ k le lt. written_after b (OPEN ∷ []) new 0 k w (omega (arith, le)) ∙ m.zeros k le lt;
  };
}

-- ---- the calls in turn
module _ {D : Type 0} (disk : Ghosts D)
    (present : (d : D) → disk.honest d → IsOutcome (disk.unsynced d) (disk.bytes d))
    (only_now : (d : D) (c : List ℕ) → disk.honest d → disk.crash_states_since d (disk.moment d) c →
    IsOutcome (disk.unsynced d) c) (size : ℕ) (start : D) where
  -- of an empty disk none or a new one
  abbrev pub IsOfEmpty : List ℕ → Type 0
  IsOfEmpty c = disk.unsynced start ≡ all_synced [] → IsNewOrNone size c

  pub empty_only : {d : D} → KeepsWord disk start d IsOfEmpty → disk.honest start →
      disk.unsynced start ≡ all_synced [] → LeavesOnly disk.moment disk.crash_states_since start d (IsNewOrNone size)
  empty_only {d} word h is = leaves_map disk.moment disk.crash_states_since start d IsOfEmpty (IsNewOrNone size)
      (λ c p. p is) (word.any_moment h)

  -- none of these calls failed, and now the header's gate is closed for sure
  pub record SoFar (d : D) (done : List CallKind) : Type 0 where
    pub word : KeepsWord disk start d IsOfEmpty
    pub called : disk.calls d ≡ disk.calls start ++ done
    pub faults : disk.faults d ≡ disk.faults start
    pub firm : disk.honest start → IsSynced (disk.unsynced d) 0 (0 ∷ [])

  pub empty_bytes : disk.honest start → disk.unsynced start ≡ all_synced [] → disk.bytes start ≡ []
  empty_bytes h is = let o : IsOutcome (all_synced []) (disk.bytes start) =
      subst (λ (u : PendingState). IsOutcome u (disk.bytes start)) is (present start h) in let high = o.no_longer in
      no_bytes (disk.bytes start) (omega (arith, high))

  pub empty_leaves : (d : D) → disk.honest start → disk.unsynced start ≡ all_synced [] →
      Elapses (disk.moment start) (disk.moment d) (disk.crash_states_since start) (disk.crash_states_since d)
      (IsOutcome (disk.unsynced start)) → LeavesOnly disk.moment disk.crash_states_since start d (IsNewOrNone size)
  empty_leaves d h is time = leaves_call disk.moment disk.crash_states_since start d
      (IsOutcome (disk.unsynced start)) (IsOutcome (disk.unsynced start)) (IsNewOrNone size) time
      (λ c left. only_now start c h left) none none
    where
      none : (c : List ℕ) → IsOutcome (disk.unsynced start) c → IsNewOrNone size c
      none c o = let p : IsOutcome (all_synced []) c = subst (λ (u : PendingState). IsOutcome u c) is o in
          let high = p.no_longer in inl (none_short c (omega (arith, high)))

  module _ {d : D} (word : KeepsWord disk start d (IsOutcome (with_write (disk.unsynced start) 0 1))) where
    pub first_word : KeepsWord disk start d IsOfEmpty
    first_word = word_map (λ h c o is. first_none size c (subst (λ (u : PendingState). IsOutcome (with_write u 0 1) c) is o)) word

    pub first_step : {S : Type 0} {x : S} → disk.calls d ≡ disk.calls start ++ Write ∷ Sync ∷ [] →
        CountsFaults (disk.faults start) (disk.faults d) (Ok x) →
        (disk.honest start → Written (disk.bytes start) 0 (0 ∷ []) (disk.bytes d)) →
        (disk.honest start → disk.unsynced d ≡ all_synced (disk.bytes d)) → SoFar d (Write ∷ Sync ∷ [])
    first_step called cause written sure = record {
      word = first_word;
      called = called;
      faults = cause.well refl;
      firm = λ h. subst (λ (u : PendingState). IsSynced u 0 (0 ∷ [])) (sym (sure h))
          (firm_settled (disk.bytes d) 0 (0 ∷ [])
          (holds_written (disk.bytes start) (0 ∷ []) (disk.bytes d) 0 (written h)));
    }

  module _ {d : D} {done : List CallKind} (s : SoFar d done) where
    pub cause_on : {e : D} {r : Result Unit DiskFault} → CountsFaults (disk.faults d) (disk.faults e) r →
        CountsFaults (disk.faults start) (disk.faults e) r
    cause_on {e} {r} cause = subst (λ (k : ℕ). CountsFaults k (disk.faults e) r) s.faults cause

    -- a write behind the closed gate of the header
    module _ (from n : ℕ) (behind : 1 ≤ from) where
      all_none : disk.honest start → (c : List ℕ) → IsOutcome (with_write (disk.unsynced d) from n) c → IsNewOrNone size c
      all_none h c o = shut_none size (disk.unsynced d) from n c behind (s.firm h) o

      module _ {e : D} (honest : SameHonesty disk d e) (time : Adds disk d e (with_write (disk.unsynced d) from n)) where
        pub write_word : KeepsWord disk start e IsOfEmpty
        write_word = word_then s.word (word_call disk only_now honest time
            (λ h c o is. inl (none_shut c (firm_outcome (disk.unsynced d) 0 (0 ∷ []) c (s.firm (s.word.honest.1 h))
            o))) (λ h c o is. all_none (s.word.honest.1 h) c o))

        pub write_step : disk.calls e ≡ disk.calls d ++ Write ∷ [] → {S : Type 0} {x : S} →
            CountsFaults (disk.faults d) (disk.faults e) (Ok x) →
            (disk.honest d → disk.unsynced e ≡ with_write (disk.unsynced d) from n) → SoFar e (done ++ Write ∷ [])
        write_step called cause touch = record {
          word = write_word;
          called = calls_joined done (Write ∷ []) (disk.calls start) (disk.calls d) (disk.calls e) s.called called;
          faults = cause.well refl ∙ s.faults;
          firm = λ h. subst (λ (u : PendingState). IsSynced u 0 (0 ∷ [])) (sym (touch (s.word.honest.0 h)))
              (firm_touched (disk.unsynced d) 0 from n (0 ∷ []) (inr (omega (arith, behind))) (s.firm h));
        }

      -- and a sync
      module _ {e : D} (word : KeepsWord disk d e (IsOutcome (with_write (disk.unsynced d) from n))) where
        pub sync_word : KeepsWord disk start e IsOfEmpty
        sync_word = word_then s.word (word_map (λ h c o is. all_none (s.word.honest.1 h) c o) word)

        pub sync_step : disk.calls e ≡ disk.calls d ++ Write ∷ Sync ∷ [] → {S : Type 0} {x : S} →
            CountsFaults (disk.faults d) (disk.faults e) (Ok x) → (piece : List ℕ) →
            (disk.honest d → Written (disk.bytes d) from piece (disk.bytes e)) →
            (disk.honest d → disk.unsynced e ≡ all_synced (disk.bytes e)) → SoFar e (done ++ Write ∷ Sync ∷ [])
        sync_step called cause piece written sure = record {
          word = sync_word;
          called = calls_joined done (Write ∷ Sync ∷ []) (disk.calls start) (disk.calls d) (disk.calls e) s.called called;
          faults = cause.well refl ∙ s.faults;
          firm = λ h. let h1 = s.word.honest.0 h in subst (λ (u : PendingState). IsSynced u 0 (0 ∷ [])) (sym (sure h1))
              (firm_settled (disk.bytes e) 0 (0 ∷ [])
              (holds_apart (disk.bytes d) piece (disk.bytes e) (0 ∷ []) from 0 (written h1)
              (inr (omega (arith, behind))) (firm_outcome (disk.unsynced d) 0 (0 ∷ []) (disk.bytes d) (s.firm h)
              (present d h1))));
        }

    -- the last one
    pub last_word : {e : D} → (disk.honest start → disk.bytes start ≡ [] → IsMade size (disk.bytes d)) →
        (disk.honest start → disk.unsynced d ≡ all_synced (disk.bytes d)) →
        KeepsWord disk d e (IsOutcome (with_write (disk.unsynced d) 0 1)) → KeepsWord disk start e IsOfEmpty
    last_word made sure word = word_then s.word (word_map (λ h c o is. let h0 = s.word.honest.1 h in
        last_new size (disk.bytes d) c (made h0 (empty_bytes h0 is))
        (subst (λ (u : PendingState). IsOutcome (with_write u 0 1) c) (sure h0) o)) word)

-- ---- what a new disk stands for
written_known : IsVersion VERSION
written_known = record { least = lit≤ tt; greatest = lit≤ tt }

module _ (size : ℕ) (c : List ℕ) (allowed : IsSlotSize size) (n : IsNewDisk size c) where
  header : Holds c 1 (header_text size)
  header = holds_front c 1 (header_text size) new_front n.made.text

  front : Holds c 64 new_front
  front = holds_back c 1 (header_text size) new_front n.made.text

  behind_magic : Holds c 9 (HEADER_VERSION ∷ (to_be_bytes w64 size ++ replicate 46 0))
  behind_magic = holds_back c 1 magic (HEADER_VERSION ∷ (to_be_bytes w64 size ++ replicate 46 0)) header

  size_and_zeros : Holds c 10 (to_be_bytes w64 size ++ replicate 46 0)
  size_and_zeros = holds_back c 9 (HEADER_VERSION ∷ []) (to_be_bytes w64 size ++ replicate 46 0) behind_magic

  pub new_header : IsHeader c size
  new_header = let long = n.made.long in let least = allowed.least in
      let zeros : Holds c 18 (replicate 46 0) =
      holds_back c 10 (to_be_bytes w64 size) (replicate 46 0) size_and_zeros in record {
        formatted = record {
          long = omega (arith, long, least);
          gate = n.gate;
          magic_text =
              holds_front c 1 magic (HEADER_VERSION ∷ (to_be_bytes w64 size ++ replicate 46 0)) header;
        };
        version = byte_held c 9 HEADER_VERSION (to_be_bytes w64 size ++ replicate 46 0) behind_magic;
        size_text = holds_front c 10 (to_be_bytes w64 size) (replicate 46 0) size_and_zeros;
        allowed = allowed;
        zeros = λ k low high. let there : 18 + (k - 18) ≡ k = omega (arith, low) in
            ap (λ (j : ℕ). slice_index c j) (sym there) ∙ zeros.same (k - 18) (omega (arith, low, high)) ∙
            get_or-replicate 46 (k - 18) 0 0 (omega (arith, low, high));
        long = omega (arith, long);
      }

  behind_gate : Holds c 65 (slot_text VERSION 1 0 empty_image)
  behind_gate = holds_back c 64 (OPEN ∷ []) (slot_text VERSION 1 0 empty_image) front

  abbrev Behind : List ℕ
  Behind = to_be_bytes w64 0 ++ (to_be_bytes w32 4 ++ empty_image)

  pub new_head : IsHead c 64 size VERSION 1 0 empty_image
  new_head = let least = allowed.least in
      let version : Holds c 73 (VERSION ∷ Behind) = holds_back c 65 (to_be_bytes w64 1) (VERSION ∷ Behind) behind_gate in
      let base : Holds c 74 Behind = holds_back c 73 (VERSION ∷ []) Behind version in
      let len : Holds c 82 (to_be_bytes w32 4 ++ empty_image) =
      holds_back c 74 (to_be_bytes w64 0) (to_be_bytes w32 4 ++ empty_image) base in
      let long = base.long in record {
        generation_is = record { small = lit< tt; text = holds_front c 65 (to_be_bytes w64 1) (VERSION ∷ Behind) behind_gate };
        version_is = record { long = omega (arith, long); is = byte_held c 73 VERSION Behind version; known = written_known };
        base_is = record { text = holds_front c 74 (to_be_bytes w64 0) (to_be_bytes w32 4 ++ empty_image) base; small = lit< tt };
        length_is = record { text = holds_front c 82 (to_be_bytes w32 4) empty_image len; small = omega (arith, least) };
        image_text = holds_back c 82 (to_be_bytes w32 4) empty_image len;
      }

  pub new_active : IsActive c size (first_slot size) (second_slot size)
  new_active = let least = allowed.least in let long = n.made.long in
      let zero : slice_index c (64 + size) ≡ 0 = n.made.zeros (64 + size) (omega (arith, least)) (omega arith) in record {
        side = first;
        slot_is = refl;
        other_is = refl;
        rules = record {
          there = omega (arith, long);
          opened =
              byte_held c 64 OPEN (slot_text VERSION 1 0 empty_image) front;
          over = inl (λ e. omega (arith, zero, e));
        };
      }

  -- the second slot is closed
  pub new_shut : (u : PendingState) → u ≡ all_synced c → slots.IsShut (64 + size) u
  new_shut u sure = let long = n.made.long in let least = allowed.least in
      let zero : slice_index c (64 + size) ≡ 0 = n.made.zeros (64 + size) (omega (arith, least)) (omega arith) in record {
        gate = 0;
        shut = λ e. omega (arith, e);
        firm = subst (λ (v : PendingState). IsSynced v (64 + size) (0 ∷ [])) (sym sure)
            (firm_settled c (64 + size) (0 ∷ [])
            (subst (λ (x : ℕ). Holds c (64 + size) (x ∷ [])) zero (holds_byte c (64 + size) (omega (arith, long)))));
      }

  pub new_ends : Ends 64 (64 + size) new_front c
  new_ends = let long = n.made.long in let least = allowed.least in
      let zero : slice_index c 90 ≡ 0 = n.made.zeros 90 (lit≤ tt) (omega (arith, least)) in record {
        gate = 0;
        shut = λ e. omega (arith, e);
        holds = holds_append c 64 new_front (0 ∷ []) front
            (subst (λ (x : ℕ). Holds c 90 (x ∷ [])) zero (holds_byte c 90 (omega (arith, long, least))));
        within = omega (arith, least);
      }

-- ---- what is handed to a journal and to slots: the bytes up to the first batch's gate, with the first slot's gate open
module _ (size : ℕ) (slot : Slot) (at : slot ≡ first_slot size) where
  module _ (items : List ℕ) (is : items ≡ closed_bytes size) where
    pub opened_place : (slot.start ≤ 90) × (90 ≤ length (set items 64 OPEN))
    opened_place = let long : length (set (closed_bytes size) 64 OPEN) ≡ 91 = refl in (
      subst (λ (s : Slot). s.start ≤ 90) (sym at) (lit≤ tt),
      subst (λ (t : List ℕ). 90 ≤ length (set t 64 OPEN)) (sym is) (omega (arith, long)),
    )

    pub opened_front : slice_range (set items 64 OPEN) slot.start 90 ≡ new_front
    opened_front = subst (λ (s : Slot). slice_range (set items 64 OPEN) s.start 90 ≡ new_front) (sym at)
        (subst (λ (t : List ℕ). slice_range (set t 64 OPEN) 64 90 ≡ new_front) (sym is) refl)

  pub first_within : IsSlotSize size → 90 < slot.stop
  first_within allowed = let least = allowed.least in subst (λ (s : Slot). 90 < s.stop) (sym at) (omega (arith, least))

  module _ (other : Slot) (beside : other ≡ second_slot size) where
    pub two_apart : slot.stop ≤ other.start
    two_apart = subst (λ (s : Slot). s.stop ≤ other.start) (sym at) (subst (λ (s : Slot). 64 + size ≤ s.start) (sym beside) (omega arith))

    pub two_wide : IsSlotSize size → (other.start + 9 ≤ other.stop) × (slot.start + 9 ≤ slot.stop)
    two_wide allowed = let least = allowed.least in (
      subst (λ (s : Slot). s.start + 9 ≤ s.stop) (sym beside) (omega (arith, least)),
      subst (λ (s : Slot). s.start + 9 ≤ s.stop) (sym at) (omega (arith, least)),
    )

pub new_is_front : (text : List ℕ) → text ≡ new_front → slots.IsFrontOf VERSION 1 text
new_is_front text is = record { rest = to_be_bytes w64 0 ++ (to_be_bytes w32 4 ++ empty_image); front_is = is }

pub idle_lives : (p : Phase) → p ≡ Idle → p ≡ Failed → ⊥
idle_lives p is failed = let no : Idle ≡ Failed = sym is ∙ failed in cc no
