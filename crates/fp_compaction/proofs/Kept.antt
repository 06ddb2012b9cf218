-- What slots keep, as sets of flags.
use Rattle.std.proofs.Common.{◌≡◌, ◌⊎◌, inl, inr, ⊎_elim, Bool, true, false, ℕ, ◌+◌, ◌-◌, ◌/◌, ◌^◌, ◌<◌, ◌≤◌, List, []}
use Rattle.std.proofs.Common.{◌∷◌, ◌++◌, length, take, drop, refl, sym, ◌∙◌, ap, subst, arith, append_assoc}
use Rattle.std.specs.Int.{w32, w64, from_be_bytes, to_be_bytes}
use Rattle.std.proofs.lemmas.List.{append-nil, take_at}
use Rattle.std.proofs.lemmas.Nat.{from_be_bytes-to_be_bytes_8}
use Rattle.fp_gate.specs.declared.gate.TheConstants.{OPEN}
use Rattle.fp_slots.specs.declared.places.TheConstants.{VERSION}
use Rattle.std.specs.Prelude.{slice_range}
use Rattle.fp_disk.specs.Outcomes.{LeavesOnly, PendingState, all_synced}
use Rattle.fp_disk.specs.Moments.{leaves_both, leaves_map}
use Rattle.fp_edit.specs.Flags.{State}
use Rattle.fp_journal.specs.Holds.{Holds, IsSynced}
use Rattle.fp_journal.specs.Chain.{Ends, spell}
use Rattle.fp_journal.specs.Moments.{KeepsFirm}
use Rattle.fp_journal.specs.State.{HasAmong, HasChain, JournalState, Outside, has_begun, room}
use Rattle.fp_journal.proofs.Holds.{firm_settled, held_range}
use Rattle.fp_journal.specs.declared.slot.Slot.{Slot}
use Rattle.fp_journal.proofs.Gates.{text-more}
use Rattle.fp_layout.specs.Layout.{HasVersion, IsHeader, IsHead, IsActive}
use Rattle.fp_layout.specs.NewDisk.{IsNewDisk, empty_image, new_front}
use Rattle.fp_layout.specs.Opening.{FoundDisk, ReadsSlot}
use Rattle.fp_layout.specs.Size.{IsSlotSize, Side, first, second, first_slot, second_slot, other_side, slot_of}
use Rattle.fp_recovery.specs.Refusals.{BeginsWith, Replayed, TakesBody}
use Rattle.fp_slots.specs.Rules.{Rules, RulesWith}
use Rattle.fp_slots.specs.State.{SlotsState, Keeps, KeepsEither, KeepsOrNext, IsFrontOf, KeepsSealed, OutsideBoth}
use Rattle.fp_slots.specs.State.{SameCompaction, SameSlots, sealed_text}
use Rattle.fp_edit.specs.Edits.{Change}
use Rattle.fp_journal.specs.Reading.{Reads}
use Rattle.fp_recovery.specs.Room.{HasNoRoom, IsFullFor}
use Rattle.fp_recovery.specs.Stands.{IsAllowed, Leads, Spells, StandsFor, TakesBatch}
use Rattle.fp_record.specs.Group.{Group}
use Rattle.std.specs.List.{AllByRecursion}
use Rattle.fp_recovery.proofs.Agreed.{agrees_range, header_agreed}
use Rattle.fp_recovery.proofs.Kept.{found_front, found_read, new_read, new_set, new_text, side_long}
use Rattle.fp_recovery.proofs.Texts.{IsReadFrom, read_spells, spells_on, text_read}
use Rattle.fp_compaction.specs.Sets.{IsKeptOn, IsKeptIn, IsPlaced, IsPlannedFor, IsTaken, LeavesSet}
use Rattle.fp_compaction.specs.Batches.{LeadsTo}

-- a text behind the front of a slot of a generation spells it as of that generation
spelled_generation : (size version n : ℕ) (front rest : List ℕ) (s : State) → n < 2 ^ 64 →
    IsFrontOf version n front → (p : Spells size (front ++ rest) s) → p.generation ≡ n
spelled_generation size version n front rest s small f p =
    let behind : List ℕ = p.version ∷ (to_be_bytes w64 p.base ++ (to_be_bytes w32 (length p.image) ++ p.image)) in
    let mine : front ++ rest ≡ OPEN ∷ (to_be_bytes w64 n ++ ((version ∷ f.rest) ++ rest)) =
    ap (λ (l : List ℕ). l ++ rest) f.front_is ∙
    ap (λ (l : List ℕ). OPEN ∷ l) (append_assoc (to_be_bytes w64 n) (version ∷ f.rest) rest) in
    let its : front ++ rest ≡ OPEN ∷ (to_be_bytes w64 p.generation ++ (behind ++ spell p.batches)) = p.text_is ∙
    ap (λ (l : List ℕ). OPEN ∷ l) (append_assoc (to_be_bytes w64 p.generation) behind (spell p.batches)) in
    let cut : (m : ℕ) (more : List ℕ) → take 8 (drop 1 (OPEN ∷ (to_be_bytes w64 m ++ more))) ≡ to_be_bytes w64 m =
    λ m more. take_at (to_be_bytes w64 m) more 8 refl in
    let same : to_be_bytes w64 p.generation ≡ to_be_bytes w64 n =
    sym (cut p.generation (behind ++ spell p.batches)) ∙
    ap (λ (l : List ℕ). take 8 (drop 1 l)) (sym its ∙ mine) ∙ cut n ((version ∷ f.rest) ++ rest) in
    sym (from_be_bytes-to_be_bytes_8 p.generation p.numbered) ∙ ap (λ (l : List ℕ). from_be_bytes w64 l) same ∙
    from_be_bytes-to_be_bytes_8 n small

-- the text spells the set as of this version
abbrev SpellsAs : ℕ → List ℕ → State → ℕ → Type 0
SpellsAs size text s version = (p : Spells size text s) × (p.version ≡ version)

module _ {D : Type 0} (u : PendingState) (slots : SlotsState D) (size : ℕ) (side : Side) (s : State)
    (k : IsKeptOn u slots size side s) where
  side_stands : (t : State) (x : Side) (text c : List ℕ) → Holds c 0 k.header → Spells size text t →
      RulesWith (slot_of size x) (slot_of size (other_side x)) text c → StandsFor c t
  side_stands t x text c h spells tells =
      record {
        size = size;
        side = x;
        text = text;
        header = k.is_header c h (side_long size x text c tells);
        tells =
            tells;
        spells = spells;
      }

  flipped : (x : Side) (text c : List ℕ) → Holds c 0 k.header → Spells size text s →
      RulesWith (slot_of size (other_side x)) (slot_of size x) text c → StandsFor c s
  flipped first text c h spells t = side_stands s second text c h spells t
  flipped second text c h spells t = side_stands s first text c h spells t

  moved : (a b x y : Slot) (text c : List ℕ) → a ≡ x → b ≡ y → RulesWith a b text c → RulesWith x y text c
  moved a b x y text c p q t = subst (λ (z : Slot). RulesWith z y text c) p (subst (λ (z : Slot). RulesWith a z text c) q t)

  -- the slot that rules, with a text that spells a set
  mine_stands : (t : State) (text c : List ℕ) → Holds c 0 k.header → Spells size text t →
      Rules slots.journal.slot.start slots.other.start c →
      Ends slots.journal.slot.start slots.journal.slot.stop text c → StandsFor c t
  mine_stands t text c h spells rules ends =
      side_stands t side text c h spells
      (moved slots.journal.slot slots.other (slot_of size side) (slot_of size (other_side side)) text c k.mine k.its
      (record { rules = rules; ends = ends }))

  -- with a batch more behind it
  longer_as : (t : State) (body : List ℕ) → TakesBatch slots.version s body t → length body ≤ size / 8 - 6 →
      SpellsAs size (slots.journal.front ++ spell (slots.journal.sealed ++ body ∷ [])) t slots.version
  longer_as t body takes short =
      subst (λ (x : List ℕ). SpellsAs size x t slots.version)
      (sym (text-more slots.journal.front slots.journal.sealed body)) (
        spells_on size (sealed_text slots.journal) body s t k.sealed
            (subst (λ (v : ℕ). TakesBatch v s body t) (sym k.version_is) takes) short,
        k.version_is,
      )

  longer : (t : State) (body : List ℕ) → TakesBatch slots.version s body t → length body ≤ size / 8 - 6 →
      Spells size (slots.journal.front ++ spell (slots.journal.sealed ++ body ∷ [])) t
  longer t body takes short = (longer_as t body takes short).0

  pub keeps_stands : (t : State) → IsTaken slots size s t → (c : List ℕ) → Holds c 0 k.header → Keeps slots c →
      LeavesSet slots.journal s t c
  keeps_stands t taken c h p = among (has_begun slots.journal.phase slots.journal.begun) p.1 taken
    where
      among : (b : Bool) → HasAmong b slots.journal.slot slots.journal.front slots.journal.sealed
          slots.journal.staged c → (b ≡ true → TakesBatch slots.version s slots.journal.staged t ×
          (length slots.journal.staged ≤ size / 8 - 6))
          → StandsFor c s ⊎ ((b ≡ true) × StandsFor c t)
      among false e taken = inl (mine_stands s (sealed_text slots.journal) c h k.sealed p.0 e)
      among true (inl e) taken = inl (mine_stands s (sealed_text slots.journal) c h k.sealed p.0 e)
      among true (inr e) taken = let leads = taken refl in
          inr (
            refl,
            mine_stands t (slots.journal.front ++ spell (slots.journal.sealed ++ slots.journal.staged ∷ []))
                c h (longer t slots.journal.staged leads.0 leads.1) p.0 e,
          )

  pub either_stands : IsPlannedFor slots size s → (c : List ℕ) → Holds c 0 k.header → KeepsEither slots c → StandsFor c s
  either_stands planned c h p = ⊎_elim
      (λ t. mine_stands s (sealed_text slots.journal) c h k.sealed t.rules t.ends)
      (λ t. flipped side slots.text c h planned.0
      (moved slots.other slots.journal.slot (slot_of size (other_side side)) (slot_of size side) slots.text c
      k.its k.mine t)) p

  -- a slot that has no room has none in what a crash leaves, and is of the generation that it is of
  pub sealed_full : IsFrontOf slots.version slots.generation slots.journal.front → slots.generation < 2 ^ 64 →
      (group : Group) → HasNoRoom slots.journal.slot.most (room slots.journal) slots.version group → (c : List ℕ) →
      Holds c 0 k.header → Rules slots.journal.slot.start slots.other.start c →
      HasChain slots.journal.slot slots.journal.front slots.journal.sealed c → IsFullFor c s group slots.generation
  sealed_full front small group none c h rules ends =
      let same : k.sealed.generation ≡ slots.generation =
      spelled_generation size slots.version slots.generation slots.journal.front (spell slots.journal.sealed) s
      small front k.sealed in
      let tells = moved slots.journal.slot slots.other (slot_of size side) (slot_of size (other_side side))
      (sealed_text slots.journal) c k.mine k.its (record { rules = rules; ends = ends }) in record {
        stands = record {
          size = size;
          side = side;
          text = sealed_text slots.journal;
          header =
              k.is_header c h (side_long size side (sealed_text slots.journal) c tells);
          tells = tells;
          spells =
              k.sealed;
        };
        full = ⊎_elim
            (λ long. let most = ap (λ (z : Slot). z.most) k.mine in inl (omega (arith, long, most)))
            (λ other. inr (⊎_elim
            (λ narrow. let start = ap (λ (z : Slot). z.start) k.mine in
            let stop = ap (λ (z : Slot). z.stop) k.mine in inl (omega (arith, narrow, start, stop)))
            (λ never. inr (λ allowed. never
            (subst (λ (v : ℕ). AllByRecursion (IsAllowed v) group.changes) k.version_is allowed))) other)) none;
        generation_is = same;
      }

  pub sealed_stands : (c : List ℕ) → Holds c 0 k.header → KeepsSealed slots c → StandsFor c s
  sealed_stands c h p = mine_stands s (sealed_text slots.journal) c h k.sealed p.0 p.1

  pub next_stands : (t : State) → LeadsTo slots size s t → (c : List ℕ) → Holds c 0 k.header →
      KeepsOrNext slots slots.journal.staged c → StandsFor c s ⊎ StandsFor c t
  next_stands t leads c h p = ⊎_elim
      (λ e. inl (mine_stands s (sealed_text slots.journal) c h k.sealed p.0 e))
      (λ e. inr (mine_stands t (slots.journal.front ++ spell (slots.journal.sealed ++ slots.journal.staged ∷ [])) c h
      (longer t slots.journal.staged leads.0 leads.1) p.0 e)) p.1

  -- and with the batch behind its open gate
  pub opened_stands : (t : State) → LeadsTo slots size s t → (c : List ℕ) → Holds c 0 k.header →
      Rules slots.journal.slot.start slots.other.start c →
      HasChain slots.journal.slot slots.journal.front (slots.journal.sealed ++ slots.journal.staged ∷ []) c →
      StandsFor c t
  opened_stands t leads c h rules chain =
      mine_stands t (slots.journal.front ++ spell (slots.journal.sealed ++ slots.journal.staged ∷ [])) c h
      (longer t slots.journal.staged leads.0 leads.1) rules chain

  -- the header lies in front of both slots
  in_front : (x : Side) (slot : Slot) → slot ≡ slot_of size x → Outside slot 0 (length k.header)
  in_front first slot is = let len = k.header_long in let at : slot.start ≡ 64 = ap (λ (z : Slot). z.start) is in
      inl (omega (arith, len, at))
  in_front second slot is = let len = k.header_long in
      let at : slot.start ≡ 64 + size = ap (λ (z : Slot). z.start) is in inl (omega (arith, len, at))

  pub header_outside : OutsideBoth slots 0 (length k.header)
  header_outside = (in_front side slots.journal.slot k.mine, in_front (other_side side) slots.other k.its)

  module _ (moment : D → ℕ) (crash_states_since : D → ℕ → List ℕ → Type 0) (unsynced : D → PendingState)
      (old new : D) (is : unsynced old ≡ u)
      (frame : KeepsFirm moment crash_states_since unsynced old new (OutsideBoth slots)) where
    firm_old : IsSynced (unsynced old) 0 k.header
    firm_old = subst (λ (v : PendingState). IsSynced v 0 k.header) (sym is) k.firm

    pub leaves_stands : (P Q : List ℕ → Type 0) → ((c : List ℕ) → Holds c 0 k.header → P c → Q c) →
        LeavesOnly moment crash_states_since old new P → LeavesOnly moment crash_states_since old new Q
    leaves_stands P Q shows leaves = let Head : List ℕ → Type 0 = λ c. Holds c 0 k.header in
        leaves_map moment crash_states_since old new (λ c. P c × Head c) Q (λ c p. shows c p.1 p.0)
        (leaves_both moment crash_states_since old new P Head leaves (frame 0 k.header header_outside firm_old).1)

    -- the slots as they are afterwards
    kept_as : (after : SlotsState D) (x : Side) (t : State) → after.journal.slot ≡ slot_of size x →
        after.other ≡ slot_of size (other_side x) → SpellsAs size (sealed_text after.journal) t after.version →
        IsKeptOn (unsynced new) after size x t
    kept_as after x t mine its spells = record {
      header = k.header;
      is_header = k.is_header;
      header_long = k.header_long;
      firm = (frame 0 k.header header_outside firm_old).0;
      mine = mine;
      its = its;
      sealed = spells.0;
      version_is = spells.1;
    }

    same_text : (after : SlotsState D) (bodies : List (List ℕ)) → after.journal.front ≡ slots.journal.front →
        after.journal.sealed ≡ bodies → sealed_text after.journal ≡ slots.journal.front ++ spell bodies
    same_text after bodies front is = ap (λ (t : List ℕ). t ++ spell after.journal.sealed) front ∙
        ap (λ (l : List (List ℕ)). slots.journal.front ++ spell l) is

    pub kept_on : (after : SlotsState D) → SameSlots slots after → IsKeptOn (unsynced new) after size side s
    kept_on after same = kept_as after side s (same.0.1 ∙ k.mine) (same.3 ∙ k.its)
        (subst (λ (t : List ℕ). SpellsAs size t s after.version)
        (sym (same_text after slots.journal.sealed same.0.2 same.1)) (k.sealed, k.version_is ∙ sym same.5))

    pub kept_beside : (after : SlotsState D) → SameCompaction slots after →
        after.journal.sealed ≡ slots.journal.sealed → IsKeptOn (unsynced new) after size side s
    kept_beside after same sealed =
        kept_as after side s (same.0.1 ∙ k.mine) (same.1 ∙ k.its)
        (subst (λ (t : List ℕ). SpellsAs size t s after.version)
        (sym (same_text after slots.journal.sealed same.0.2 sealed)) (k.sealed, k.version_is ∙ sym same.3))

    -- and with the batch that was on its way
    pub kept_next : (after : SlotsState D) (t : State) → LeadsTo slots size s t →
        after.journal.slot ≡ slots.journal.slot → after.journal.front ≡ slots.journal.front →
        after.other ≡ slots.other → after.version ≡ slots.version →
        after.journal.sealed ≡ slots.journal.sealed ++ slots.journal.staged ∷ []
        → IsKeptOn (unsynced new) after size side t
    kept_next after t leads slot front other version sealed = kept_as after side t (slot ∙ k.mine) (other ∙ k.its)
        (subst (λ (v : ℕ). SpellsAs size (sealed_text after.journal) t v) (sym version)
        (subst (λ (x : List ℕ). SpellsAs size x t slots.version)
        (sym (same_text after (slots.journal.sealed ++ slots.journal.staged ∷ []) front sealed))
        (longer_as t slots.journal.staged leads.0 leads.1)))

    twice : (x : Side) → other_side (other_side x) ≡ x
    twice first = refl
    twice second = refl

    pub turned : (after : SlotsState D) → IsPlannedFor slots size s → after.journal.slot ≡ slots.other →
        after.journal.front ≡ slots.text → after.journal.sealed ≡ [] → after.other ≡ slots.journal.slot →
        after.version ≡ VERSION → IsKeptOn (unsynced new) after size (other_side side) s
    turned after planned slot front none other version =
        kept_as after (other_side side) s (slot ∙ k.its)
        (other ∙ k.mine ∙ sym (ap (λ (x : Side). slot_of size x) (twice side)))
        (subst (λ (t : List ℕ). SpellsAs size t s after.version)
        (sym (ap (λ (l : List (List ℕ)). after.journal.front ++ spell l) none ∙ append-nil after.journal.front ∙
        front)) (planned.0, planned.1 ∙ sym version))

-- slots with the same journal, beside the same slot
pub kept_still : {D : Type 0} {u : PendingState} {old new : SlotsState D} {size : ℕ} {s : State} →
    new.journal ≡ old.journal → new.other ≡ old.other → new.version ≡ old.version → IsKeptIn u old size s →
    IsKeptIn u new size s
kept_still {D} {old = old} {new = new} {size = size} {s = s} journal other version k = let spells =
    subst (λ (j : JournalState D). SpellsAs size (sealed_text j) s new.version) (sym journal)
    (k.1.sealed, k.1.version_is ∙ sym version) in (
      k.0,
      record {
        header = k.1.header;
        is_header = k.1.is_header;
        header_long = k.1.header_long;
        firm = k.1.firm;
        mine = ap (λ (j : JournalState D). j.slot) journal ∙ k.1.mine;
        its = other ∙ k.1.its;
        sealed = spells.0;
        version_is = spells.1;
      },
    )

-- ---- a disk as it is opened
-- of two sizes and sides with one slot
size_same : (n m : ℕ) (x y : Side) → slot_of n x ≡ slot_of m y → n ≡ m
size_same n m first first is = let e = ap (λ (z : Slot). z.stop) is in omega (arith, e)
size_same n m first second is = let b = ap (λ (z : Slot). z.start) is in let e = ap (λ (z : Slot). z.stop) is in omega (arith, b, e)
size_same n m second first is = let b = ap (λ (z : Slot). z.start) is in let e = ap (λ (z : Slot). z.stop) is in omega (arith, b, e)
size_same n m second second is = let b = ap (λ (z : Slot). z.start) is in omega (arith, b)

-- a journal that goes on behind what was read
read_kept : {D : Type 0} (u : PendingState) (slots : SlotsState D) (c : List ℕ) (size : ℕ) (slot other : Slot)
    (s : State) (r : IsReadFrom c size slot other s) → slots.journal.front ≡ text_read c size slot other s r →
    slots.journal.sealed ≡ [] → u ≡ all_synced c
    → slots.version ≡ r.version → (side : Side) → slots.journal.slot ≡ slot_of size side →
    slots.other ≡ slot_of size (other_side side) → IsKeptIn u slots size s
read_kept u slots c size slot other s r front none sure version side mine its =
    let spells = subst (λ (t : List ℕ). SpellsAs size t s slots.version)
    (sym (ap (λ (l : List (List ℕ)). slots.journal.front ++ spell l) none ∙ append-nil slots.journal.front ∙
    front)) (read_spells c size slot other s r, sym version) in
    let long = r.header.long in let range = held_range c 0 64 (omega (arith, long)) in (
      side,
      record {
        header = slice_range c 0 64;
        is_header = λ o h l. header_agreed c o size r.header (agrees_range c o 0 64 (omega (arith, long)) h) l;
        header_long = range.1;
        firm = subst (λ (v : PendingState). IsSynced v 0 (slice_range c 0 64)) (sym sure) (firm_settled c 0 (slice_range c 0 64) range.0);
        mine = mine;
        its = its;
        sealed = spells.0;
        version_is = spells.1;
      },
    )

-- in slots of a size that was found elsewhere
pub found_kept : {D : Type 0} (u : PendingState) (slots : SlotsState D) (c : List ℕ) (before after : Replayed)
    (f : FoundDisk BeginsWith TakesBody c before after slots.journal.slot slots.journal.front) →
    slots.journal.sealed ≡ [] → u ≡ all_synced c
    → HasVersion c slots.journal.slot.start slots.version → (n : ℕ) (side : Side) →
    slots.journal.slot ≡ slot_of n side → slots.other ≡ slot_of n (other_side side) → IsKeptIn u slots n after.set
found_kept u slots c before after f none sure version n side mine its =
    let size = f.begun.size in let same : n ≡ size = size_same n size side f.begun.active.side (sym mine ∙ f.begun.active.slot_is) in
    subst (λ (z : ℕ). IsKeptIn u slots z after.set) (sym same)
    (read_kept u slots c size slots.journal.slot f.begun.other after.set
    (found_read c before after slots.journal.slot slots.journal.front f)
    (found_front c before after slots.journal.slot slots.journal.front f) none sure
    (sym version.is ∙ f.begun.head.version_is.is)
    side (subst (λ (z : ℕ). slots.journal.slot ≡ slot_of z side) same mine)
    (subst (λ (z : ℕ). slots.other ≡ slot_of z (other_side side)) same its))

-- on a new disk
pub new_kept : {D : Type 0} (u : PendingState) (slots : SlotsState D) (size : ℕ) (c : List ℕ)
    (allowed : IsSlotSize size) (made : IsNewDisk size c) (header : IsHeader c size)
    (active : IsActive c size (first_slot size) (second_slot size)) (head : IsHead c 64 size VERSION 1 0 empty_image)
    → slots.version ≡ VERSION
    → slots.journal.slot ≡ first_slot size → slots.other ≡ second_slot size → slots.journal.front ≡ new_front →
    slots.journal.sealed ≡ [] → u ≡ all_synced c → IsKeptIn u slots size (new_set size)
new_kept u slots size c allowed made header active head version mine its front none sure =
    read_kept u slots c size (first_slot size) (second_slot size) (new_set size)
    (new_read size c allowed made header active head)
    (front ∙ sym (new_text size c allowed made header active head)) none sure version first mine its

-- ---- the limit of a set
limit_led : (s t : State) (cs : List Change) → Leads s cs t → t.limit ≡ s.limit
limit_led s t [] led = ap (λ (x : State). x.limit) led
limit_led s t (c ∷ cs) led = limit_led led.0 t cs led.2 ∙ ap (λ (x : State). x.limit) led.1.1

limit_read : (s t : Replayed) (bodies : List (List ℕ)) → Reads TakesBody s bodies t → t.set.limit ≡ s.set.limit
limit_read s t [] r = ap (λ (x : Replayed). x.set.limit) (sym r)
limit_read s t (b ∷ bs) r = limit_read r.0 t bs r.2 ∙ limit_led s.set r.0.set r.1.1.group.changes r.1.1.leads

-- what was read is of slots of the size that the header says
pub placed : {D : Type 0} (slots : SlotsState D) (before s : Replayed)
    (r : ReadsSlot BeginsWith TakesBody before s slots.journal.slot slots.other slots.version slots.generation
    slots.journal.front) → IsPlaced r.begun.size slots s.set.limit
placed slots before s r = record {
  allowed = r.begun.allowed;
  side = r.begun.side;
  mine = r.begun.slot_is;
  its = r.begun.other_is;
  half =
      limit_read r.middle s r.bodies r.reads ∙ r.begun.begun.1.limit_is;
}
