-- The parts of a disk are read in one way.
use Rattle.std.proofs.Common.{◌≡◌, ◌<◌, ◌+◌, ◌-◌, ◌/◌, ◌^◌, ℕ, List, [], length, sym, ap, subst, ◌∙◌, arith}
use Rattle.std.specs.FinMap as fin
use Rattle.std.proofs.lemmas.List.{append-nil}
use Rattle.fp_edit.specs.Flags.{State, Flags}
use Rattle.fp_journal.specs.declared.slot.Slot.{Slot}
use Rattle.fp_layout.specs.Size.{Side, first, second, other_side, slot_of}
use Rattle.fp_layout.specs.Layout.{IsHeader, IsHead, IsActive}
use Rattle.fp_layout.proofs.Numbers.{number32_one, number64_one, text_one}
use Rattle.fp_record.proofs.Images.{image_alone}
use Rattle.fp_record.proofs.Batches.{batch_alone}
use Rattle.fp_record.specs.Encoding.{encoding_of_image, encoding_of_batch}
use Rattle.fp_record.specs.Group.{Group}
use Rattle.fp_slots.specs.Rules.{Rules}
use Rattle.fp_slots.proofs.Ruling.{rules_alone}
use Rattle.fp_recovery.specs.Refusals.{BeginsWith, Replayed, TakesBody}
use Rattle.fp_recovery.specs.Stands.{IsImageOf, TakesBatch, Leads}
use Rattle.fp_recovery.proofs.Restored.{leads_one}
use Rattle.fp_recovery.proofs.Texts.{most_of}

-- ---- numbers
pub size_one : (c : List ℕ) (m n : ℕ) → IsHeader c m → IsHeader c n → m ≡ n
size_one c m n p q = let a = p.allowed.greatest in let b = q.allowed.greatest in
    number64_one c 10 m n p.size_text (omega (arith, a)) q.size_text (omega (arith, b))

-- ---- the image
same_state : (s t : State) → s.flags ≡ t.flags → s.revision ≡ t.revision → s.limit ≡ t.limit → s ≡ t
same_state s t f r l =
    let one : s ≡ record { flags = t.flags; revision = s.revision; limit = s.limit } =
    ap (λ (x : Flags). let made : State = record { flags = x; revision = s.revision; limit = s.limit } in made) f
    in
    let two : record { flags = t.flags; revision = s.revision; limit = s.limit } ≡ record
    { flags = t.flags; revision = t.revision; limit = s.limit } =
    ap (λ (x : ℕ). let made : State = record { flags = t.flags; revision = x; limit = s.limit } in made) r in
    let three : record { flags = t.flags; revision = t.revision; limit = s.limit } ≡ t =
    ap (λ (x : ℕ). let made : State = record { flags = t.flags; revision = t.revision; limit = x } in made) l in
    one ∙ two ∙ three

same_replayed : (s t : Replayed) → s.version ≡ t.version → s.set ≡ t.set → s ≡ t
same_replayed s t v is =
    let one : s ≡ record { version = t.version; set = s.set } =
    ap (λ (x : ℕ). let read : Replayed = record { version = x; set = s.set } in read) v in
    let two : record { version = t.version; set = s.set } ≡ t =
    ap (λ (x : State). let read : Replayed = record { version = t.version; set = x } in read) is in
    one ∙ two

image_one : (base limit : ℕ) (bytes : List ℕ) (s t : State) → IsImageOf base limit bytes s → IsImageOf base limit bytes t → s ≡ t
image_one base limit bytes s t p q =
    let entries = (image_alone (fin.entries s.flags) (fin.entries t.flags) [] [] p.lawful q.lawful
    (append-nil (encoding_of_image (fin.entries s.flags)) ∙ (sym p.spelled ∙ q.spelled) ∙
    sym (append-nil (encoding_of_image (fin.entries t.flags))))).0 in
    same_state s t (fin.same_entries_map s.flags t.flags entries) (p.revision_is ∙ sym q.revision_is) (p.limit_is ∙ sym q.limit_is)

-- and so is what was read of it
pub begun_one : (before : Replayed) (version base limit : ℕ) (bytes : List ℕ) (s t : Replayed) →
    BeginsWith before version base limit bytes s → BeginsWith before version base limit bytes t → s ≡ t
begun_one before version base limit bytes s t p q = same_replayed s t (p.0 ∙ sym q.0) (image_one base limit bytes s.set t.set p.1 q.1)

-- ---- batches
batch_one : (version : ℕ) (s t u : State) (bytes : List ℕ) → TakesBatch version s bytes t → TakesBatch version s bytes u → t ≡ u
batch_one version s t u bytes p q =
    let same = (batch_alone p.group q.group [] [] p.lawful q.lawful
    (append-nil (encoding_of_batch p.group) ∙ (sym p.spelled ∙ q.spelled) ∙
    sym (append-nil (encoding_of_batch q.group)))).0 in
    leads_one s q.group.changes t u (subst (λ (g : Group). Leads s g.changes t) same p.leads) q.leads

-- and so are they by a reader of a slot
pub body_one : (s t u : Replayed) (bytes : List ℕ) → TakesBody s bytes t → TakesBody s bytes u → t ≡ u
body_one s t u bytes p q = same_replayed t u (p.0 ∙ sym q.0) (batch_one s.version s.set t.set u.set bytes p.1 q.1)

-- ---- the front
-- of the two slots one rules
pub active_one : (c : List ℕ) (size : ℕ) (slot other slot' other' : Slot) → IsActive c size slot other →
    IsActive c size slot' other' → slot ≡ slot'
active_one c size slot other slot' other' a b = by_side a.side b.side a.slot_is a.other_is b.slot_is b.other_is
  where
    crossed : slot' ≡ other → other' ≡ slot → ⊥
    crossed p q = rules_alone c slot.start other.start a.rules
        (subst (λ (x : Slot). Rules other.start x.start c) q
        (subst (λ (x : Slot). Rules x.start other'.start c) p b.rules))

    by_side : (x y : Side) → slot ≡ slot_of size x → other ≡ slot_of size (other_side x) → slot' ≡ slot_of size y →
        other' ≡ slot_of size (other_side y) → slot ≡ slot'
    by_side first first p q p' q' = p ∙ sym p'
    by_side first second p q p' q' = absurd (crossed (p' ∙ sym q) (q' ∙ sym p))
    by_side second first p q p' q' = absurd (crossed (p' ∙ sym q) (q' ∙ sym p))
    by_side second second p q p' q' = p ∙ sym p'

-- a batch's length is a number of four bytes
pub most_small : (c : List ℕ) (size : ℕ) (slot other : Slot) → IsHeader c size → IsActive c size slot other → slot.most < 2 ^ 32
most_small c size slot other h a = let large = h.allowed.greatest in
    let most : slot.most ≡ size / 8 - 6 = ap (λ (x : Slot). x.most) a.slot_is ∙ most_of size a.side in
    omega (arith, large, most)

-- its front is read in one way
pub record SameFront (size version base : ℕ) (slot : Slot) (image : List ℕ) (size' version' base' : ℕ) (slot' : Slot)
    (image' : List ℕ) : Type 0 where
  pub size_is : size ≡ size'
  pub version_is : version ≡ version'
  pub base_is : base ≡ base'
  pub slot_is : slot ≡ slot'
  pub image_is : image ≡ image'

-- so what is said of the one's numbers and image is said of the other's
pub moved_front : {size version base : ℕ} {slot : Slot} {image : List ℕ} {size' version' base' : ℕ} {slot' : Slot}
    {image' : List ℕ} (P : ℕ → ℕ → ℕ → List ℕ → Type 0) →
    SameFront size version base slot image size' version' base' slot' image' → P size version base image →
    P size' version' base' image'
moved_front {size} {version} {base} {slot} {image} {size'} {version'} {base'} P f p =
    subst (λ (i : List ℕ). P size' version' base' i) f.image_is
    (subst (λ (b : ℕ). P size' version' b image) f.base_is
    (subst (λ (v : ℕ). P size' v base image) f.version_is
    (subst (λ (z : ℕ). P z version base image) f.size_is p)))

module _ (c : List ℕ) where
  -- a header, the slot that rules, and its head
  pub record HasFront (size version generation base : ℕ) (slot other : Slot) (image : List ℕ) : Type 0 where
    pub header : IsHeader c size
    pub active : IsActive c size slot other
    pub head : IsHead c slot.start size version generation base image

  pub front_one : {size version generation base : ℕ} {slot other : Slot} {image : List ℕ}
      {size' version' generation' base' : ℕ} {slot' other' : Slot} {image' : List ℕ} →
      HasFront size version generation base slot other image
      → HasFront size' version' generation' base' slot' other' image' →
      SameFront size version base slot image size' version' base' slot' image'
  front_one {size} {version} {generation} {base} {slot} {other} {image} {size'} {version'} {generation'} {base'}
      {slot'} {other'} {image'} p q =
      let size_is = size_one c size size' p.header q.header in
      let active : IsActive c size' slot other = subst (λ (n : ℕ). IsActive c n slot other) size_is p.active in
      let slot_is = active_one c size' slot other slot' other' active q.active in
      let h : IsHead c slot'.start size version generation base image =
      subst (λ (x : Slot). IsHead c x.start size version generation base image) slot_is p.head in
      let a = p.header.allowed.greatest in let a' = q.header.allowed.greatest in let n = h.length_is.small in
      let n' = q.head.length_is.small in let b = h.base_is.small in let b' = q.head.base_is.small in
      let len : length image ≡ length image' =
      number32_one c (slot'.start + 18) (length image) (length image') h.length_is.text (omega (arith, a, n))
      q.head.length_is.text (omega (arith, a', n')) in
      record {
        size_is = size_is;
        version_is = sym h.version_is.is ∙ q.head.version_is.is;
        base_is = number64_one c (slot'.start + 10) base base' h.base_is.text (omega (arith, b)) q.head.base_is.text (omega (arith, b'));
        slot_is = slot_is;
        image_is = text_one c (slot'.start + 22) image image' len h.image_text q.head.image_text;
      }
