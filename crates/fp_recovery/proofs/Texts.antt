-- Texts of slots, whole and place by place.
use Rattle.std.proofs.Common.{◌≡◌, ◌≤◌, ◌+◌, ◌-◌, ◌/◌, ℕ, List, [], ◌∷◌, ◌++◌, length, refl, sym, ap, subst, ◌∙◌, arith}
use Rattle.std.proofs.Common.{length-append, append_assoc}
use Rattle.fp_edit.specs.Flags.{State}
use Rattle.fp_gate.specs.declared.gate.TheConstants.{OPEN}
use Rattle.fp_journal.specs.Holds.{Holds}
use Rattle.fp_journal.specs.Chain.{Ends, with_length, spell}
use Rattle.fp_journal.specs.Reading.{IsChain, Reads}
use Rattle.fp_journal.specs.State.{AllShort}
use Rattle.fp_journal.specs.declared.slot.Slot.{Slot}
use Rattle.fp_journal.proofs.Holds.{holds_append, holds_front, holds_back}
use Rattle.fp_journal.proofs.Gates.{text-more}
use Rattle.fp_journal.proofs.Links.{reads_more}
use Rattle.fp_journal.proofs.Steps.{All-push}
use Rattle.fp_layout.specs.Size.{Side, first, second, slot_of, other_side}
use Rattle.fp_layout.specs.Layout.{IsHeader, IsHead, IsActive}
use Rattle.fp_layout.proofs.Heads.{head_length, head_places, head_whole}
use Rattle.fp_slots.specs.Head.{head_text}
use Rattle.fp_slots.specs.Rules.{RulesWith}
use Rattle.fp_recovery.specs.Stands.{IsImageOf, TakesBatch, Spells, StandsFor}

-- ---- a batch more
abbrev pub spells_on : (size : ℕ) (text body : List ℕ) (s t : State) (p : Spells size text s) →
    TakesBatch p.version s body t → length body ≤ size / 8 - 6 → Spells size (text ++ OPEN ∷ with_length body) t
spells_on size text body s t p takes fits = record {
  version = p.version;
  generation = p.generation;
  base = p.base;
  image = p.image;
  first = p.first;
  batches = p.batches ++ body ∷ [];
  text_is = ap (λ (x : List ℕ). x ++ OPEN ∷ with_length body) p.text_is ∙
      sym (text-more (head_text p.version p.generation p.base p.image) p.batches body);
  known = p.known;
  numbered = p.numbered;
  small = p.small;
  image_is = p.image_is;
  short = All-push (λ (b : List ℕ). length b ≤ size / 8 - 6) p.batches body p.short fits;
  leads = reads_more (TakesBatch p.version) p.first s t p.batches body p.leads takes;
}

pub most_of : (size : ℕ) (side : Side) → (slot_of size side).most ≡ size / 8 - 6
most_of size first = refl
most_of size second = refl

-- ---- place by place
-- what is read of a disk, by its places
pub record IsReadFrom (c : List ℕ) (size : ℕ) (slot other : Slot) (s : State) : Type 0 where
  pub version : ℕ
  pub generation : ℕ
  pub base : ℕ
  pub image : List ℕ
  pub first : State
  pub batches : List (List ℕ)
  pub header : IsHeader c size
  pub active : IsActive c size slot other
  pub head : IsHead c slot.start size version generation base image
  pub image_is : IsImageOf base (size / 2) image first
  pub chain : IsChain slot.most (slot.start + 22 + length image) slot.stop batches c
  pub leads : Reads (TakesBatch version) first batches s

-- what stands is read
pub stands_read : (c : List ℕ) (s : State) (p : StandsFor c s) →
    IsReadFrom c p.size (slot_of p.size p.side) (slot_of p.size (other_side p.side)) s
stands_read c s p =
    let q = p.spells in let slot : Slot = slot_of p.size p.side in let start : ℕ = slot.start in
    let stop : ℕ = slot.stop in let head = head_text q.version q.generation q.base q.image in
    let e : Ends start stop (head ++ spell q.batches) c =
    subst (λ (t : List ℕ). Ends start stop t c) q.text_is p.tells.ends in let w = e.within in
    let all : Holds c start (head ++ (spell q.batches ++ e.gate ∷ [])) =
    subst (λ (t : List ℕ). Holds c start t) (append_assoc head (spell q.batches) (e.gate ∷ [])) e.holds in
    let len = head_length q.version q.generation q.base q.image in let both = length-append head (spell q.batches) in
    let place : start + length head ≡ start + 22 + length q.image = omega (arith, len) in record {
      version = q.version;
      generation = q.generation;
      base = q.base;
      image = q.image;
      first = q.first;
      batches = q.batches;
      header = p.header;
      active = record { side = p.side; slot_is = refl; other_is = refl; rules = p.tells.rules };
      head = head_places start q.version q.generation q.base q.image c p.size q.known q.numbered
          q.image_is.here.numbered q.small (holds_front c start head (spell q.batches ++ e.gate ∷ []) all);
      image_is = q.image_is;
      chain = record {
        short = subst (λ (m : ℕ). AllShort m q.batches) (sym (most_of p.size p.side)) q.short;
        ends = record {
          gate = e.gate;
          shut = e.shut;
          holds = subst (λ (k : ℕ). Holds c k (spell q.batches ++ e.gate ∷ [])) place
              (holds_back c start head (spell q.batches ++ e.gate ∷ []) all);
          within = omega (arith, w, both, place);
        };
      };
      leads = q.leads;
    }

-- ---- and what is read stands
module _ (c : List ℕ) (size : ℕ) (slot other : Slot) (s : State) (r : IsReadFrom c size slot other s) where
  abbrev pub text_read : List ℕ
  text_read = head_text r.version r.generation r.base r.image ++ spell r.batches

  pub text_long : length text_read ≡ 22 + length r.image + length (spell r.batches)
  text_long = let len = head_length r.version r.generation r.base r.image in
      let both = length-append (head_text r.version r.generation r.base r.image) (spell r.batches) in
      omega (arith, len, both)

  pub read_ends : Ends slot.start slot.stop text_read c
  read_ends =
      let head = head_text r.version r.generation r.base r.image in let e = r.chain.ends in let w = e.within in
      let len = head_length r.version r.generation r.base r.image in let both = text_long in
      let place : slot.start + 22 + length r.image ≡ slot.start + length head = omega (arith, len) in record {
        gate = e.gate;
        shut = e.shut;
        holds = subst (λ (t : List ℕ). Holds c slot.start t) (sym (append_assoc head (spell r.batches) (e.gate ∷ [])))
            (holds_append c slot.start head (spell r.batches ++ e.gate ∷ [])
            (head_whole slot.start r.version r.generation r.base r.image c size r.active.rules.opened r.head)
            (subst (λ (k : ℕ). Holds c k (spell r.batches ++ e.gate ∷ [])) place e.holds));
        within = omega (arith, w, both, place);
      }

  abbrev pub read_spells : Spells size text_read s
  read_spells =
      let most : slot.most ≡ size / 8 - 6 = ap (λ (x : Slot). x.most) r.active.slot_is ∙ most_of size r.active.side in record {
        version = r.version;
        generation = r.generation;
        base = r.base;
        image = r.image;
        first = r.first;
        batches = r.batches;
        text_is = refl;
        known = r.head.version_is.known;
        numbered = r.head.generation_is.small;
        small = r.head.length_is.small;
        image_is = r.image_is;
        short = subst (λ (m : ℕ). AllShort m r.batches) most r.chain.short;
        leads = r.leads;
      }

  unfoldable pub read_stands : StandsFor c s
  read_stands =
      let tells : RulesWith slot other text_read c = record { rules = r.active.rules; ends = read_ends } in record {
        size = size;
        side = r.active.side;
        text = text_read;
        header = r.header;
        tells = subst (λ (x : Slot). RulesWith x (slot_of size (other_side r.active.side)) text_read c)
            r.active.slot_is (subst (λ (x : Slot). RulesWith slot x text_read c) r.active.other_is tells);
        spells = read_spells;
      }
