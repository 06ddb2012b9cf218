-- What was read of a disk is what it stands for.
use Rattle.std.proofs.Common.{◌≡◌, ◌≤◌, ◌+◌, ◌/◌, ℕ, List, [], ◌∷◌, length, refl, sym, ap, subst, ◌∙◌, inl, inr, ⊎_elim}
use Rattle.std.proofs.Common.{arith, length-append, lit<, lit≤}
use Rattle.std.specs.Prelude.{slice_index, slice_range}
use Rattle.std.proofs.lemmas.List.{append-nil}
use Rattle.std.specs.FinMap as fin
use Rattle.std.specs.List.Sorted.{IsStrictlySortedBy}
use Rattle.fp_disk.specs.Moments.{leaves_map}
use Rattle.fp_disk.specs.Outcomes.{PendingState, IsOutcome, LeavesOnly, all_synced}
use Rattle.fp_disk.specs.declared.disk.Disk.{Ghosts}
use Rattle.fp_edit.specs.Flags.{State}
use Rattle.fp_journal.specs.Holds.{Holds}
use Rattle.fp_journal.specs.Reading.{IsChain, Reads}
use Rattle.fp_journal.specs.declared.slot.Slot.{Slot}
use Rattle.fp_journal.proofs.Holds.{holds_front, holds_byte, range_held}
use Rattle.fp_layout.specs.Size.{IsSlotSize, Side, first, second, other_side, slot_of, first_slot, second_slot}
use Rattle.fp_layout.specs.Layout.{IsHeader, IsHead, IsActive}
use Rattle.fp_layout.specs.NewDisk.{IsNewDisk, IsNewOrNone, new_front, empty_image}
use Rattle.fp_layout.specs.Opening.{FoundDisk}
use Rattle.fp_layout.proofs.Settled.{settled_one}
use Rattle.fp_layout.proofs.Making.{new_header, new_active, new_head}
use Rattle.fp_slots.specs.Rules.{RulesWith}
use Rattle.fp_slots.specs.declared.places.TheConstants.{VERSION}
use Rattle.fp_record.specs.WellFormed.{IsImage}
use Rattle.fp_record.specs.Encoding.{encoding_of_image}
use Rattle.fp_recovery.specs.Stands.{IsImageOf, TakesBatch, StandsFor, gate_of}
use Rattle.fp_recovery.specs.Refusals.{BeginsWith, Replayed, TakesBody}
use Rattle.fp_recovery.specs.Durable.{IsNewSetOrNone, IsDurable}
use Rattle.fp_recovery.proofs.Restored.{image_of, entries-empty, sets_read}
use Rattle.fp_recovery.proofs.Texts.{IsReadFrom, read_ends, read_stands, text_long, text_read}

-- a disk whose slot tells a text is as long as a header wants it
pub side_long : (size : ℕ) (side : Side) (text c : List ℕ) →
    RulesWith (slot_of size side) (slot_of size (other_side side)) text c → 65 + size ≤ length c
side_long size first text c t = let there = t.rules.there in omega (arith, there)
side_long size second text c t = let long = t.ends.holds.long in let len = length-append text (t.ends.gate ∷ []) in omega (arith, long, len)

module _ (c : List ℕ) (before after : Replayed) (slot : Slot) (front : List ℕ)
    (f : FoundDisk BeginsWith TakesBody c before after slot front) where
  -- what was read of a disk is what it stands for
  abbrev pub found_read : IsReadFrom c f.begun.size slot f.begun.other after.set
  found_read = record {
    version = f.begun.version;
    generation = f.begun.generation;
    base = f.begun.base;
    image = f.begun.image;
    first = f.middle.set;
    batches = f.chain.bodies;
    header = f.begun.header;
    active = f.begun.active;
    head = f.begun.head;
    image_is = f.begun.begun.1;
    chain = subst (λ (n : ℕ). IsChain slot.most n slot.stop f.chain.bodies c) f.begun.place f.chain.chain;
    leads = subst (λ (v : ℕ). Reads (TakesBatch v) f.middle.set f.chain.bodies after.set) f.begun.begun.0
        (sets_read f.middle after f.chain.bodies f.chain.reads);
  }

  pub found_stands : StandsFor c after.set
  found_stands = read_stands c f.begun.size slot f.begun.other after.set found_read

  pub found_front : front ≡ text_read c f.begun.size slot f.begun.other after.set found_read
  unfolding found_read
  found_front =
      let text = text_read c f.begun.size slot f.begun.other after.set found_read in
      let e = read_ends c f.begun.size slot f.begun.other after.set found_read in
      let there : Holds c slot.start text = holds_front c slot.start text (e.gate ∷ []) e.holds in
      let all = text_long c f.begun.size slot f.begun.other after.set found_read in let place = f.begun.place in let end = f.chain.place in
      let len : length front ≡ length text = omega (arith, all, place, end) in
      f.front_is ∙ ap (λ (n : ℕ). slice_range c slot.start (slot.start + n)) len ∙ range_held c slot.start text there

  -- and its slot, and the gate behind the text, are those of what it stands for
  pub found_at : (slot ≡ slot_of found_stands.size found_stands.side) × (slot.start + length front ≡ gate_of found_stands)
  unfolding found_stands read_stands found_read
  found_at =
      let is = f.begun.active.slot_is in (
        is,
        ap (λ (s : Slot). s.start + length front) is ∙
            ap (λ (t : List ℕ). (slot_of f.begun.size f.begun.active.side).start + length t) found_front,
      )

-- after a sync a crash leaves what stands for the set
pub settled_sure : (u : PendingState) (c : List ℕ) (set : State) → u ≡ all_synced c → StandsFor c set → IsDurable u set
settled_sure u c set sure stands =
    λ o left. subst (λ (x : List ℕ). StandsFor x set)
    (sym (settled_one c o (subst (λ (v : PendingState). IsOutcome v o) sure left))) stands

-- ---- a new disk
abbrev pub new_set : ℕ → State
new_set size = record { flags = fin.empty; revision = 0; limit = size / 2 }

no_image : IsImage []
unfolding IsStrictlySortedBy
no_image = record { few = lit≤ tt; ascending = tt; flags = tt }

empty_spelled : empty_image ≡ encoding_of_image []
unfolding encoding_of_image
empty_spelled = refl

pub new_image : (size : ℕ) → IsSlotSize size → IsImageOf 0 (size / 2) empty_image (new_set size)
new_image size allowed = let least = allowed.least in
    image_of 0 (size / 2) empty_image [] (new_set size) no_image empty_spelled
    (record { numbered = lit< tt; changed = tt; within = omega (arith, least) }) entries-empty refl refl

module _ (size : ℕ) (c : List ℕ) (allowed : IsSlotSize size) (made : IsNewDisk size c) (header : IsHeader c size)
    (active : IsActive c size (first_slot size) (second_slot size)) (head : IsHead c 64 size VERSION 1 0 empty_image)
  where
    abbrev pub new_read : IsReadFrom c size (first_slot size) (second_slot size) (new_set size)
    new_read = let long = header.long in let least = allowed.least in
        let zero : slice_index c 90 ≡ 0 = made.made.zeros 90 (lit≤ tt) (omega (arith, least)) in record {
          version = VERSION;
          generation = 1;
          base = 0;
          image = empty_image;
          first = new_set size;
          batches = [];
          header = header;
          active = active;
          head = head;
          image_is = new_image size allowed;
          chain = record {
            short = tt;
            ends =
                record {
                  gate = 0;
                  shut = λ e. omega (arith, e);
                  holds =
                      subst (λ (x : ℕ). Holds c 90 (x ∷ [])) zero (holds_byte c 90 (omega (arith, long, least)));
                  within =
                      omega (arith, least);
                };
          };
          leads = refl;
        }

    pub new_stands : StandsFor c (new_set size)
    new_stands = read_stands c size (first_slot size) (second_slot size) (new_set size) new_read

    -- and its text
    pub new_text : text_read c size (first_slot size) (second_slot size) (new_set size) new_read ≡ new_front
    unfolding new_read
    new_text = append-nil new_front

-- a disk in the making
new_or_none : (size : ℕ) → IsSlotSize size → (c : List ℕ) → IsNewOrNone size c → IsNewSetOrNone size c
new_or_none size allowed c is =
    ⊎_elim (λ none. inl none) (λ new. inr
    (new_stands size c allowed new (new_header size c allowed new) (new_active size c allowed new)
    (new_head size c allowed new))) is

pub new_left : {D : Type 0} (disk : Ghosts D) (old new : D) {n size : ℕ} → n ≡ size → IsSlotSize size →
    LeavesOnly disk.moment disk.crash_states_since old new (IsNewOrNone n) →
    LeavesOnly disk.moment disk.crash_states_since old new (IsNewSetOrNone size)
new_left disk old new {n} {size} is allowed left =
    leaves_map disk.moment disk.crash_states_since old new (IsNewOrNone size) (IsNewSetOrNone size)
    (new_or_none size allowed) (subst
    (λ (m : ℕ). LeavesOnly disk.moment disk.crash_states_since old new (IsNewOrNone m)) is left)
