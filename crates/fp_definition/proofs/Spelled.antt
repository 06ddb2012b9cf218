-- Places in a text that grows.
use Rattle.std.proofs.Common.{◌≡◌, ◌-◌, ℕ, List, [], ◌∷◌, ◌++◌, Bool, true, false, Option, Some, None, codes, length}
use Rattle.std.proofs.Common.{take, take_all, drop, slice_range, refl, sym, ap, ap₂, subst, ◌∙◌, arith}
use Rattle.std.proofs.Common.{length-append, append_assoc, true≢false, option_map, Vec, Global}
use Rattle.std.proofs.Math.Seq.{drop-append_seam}
use Rattle.std.proofs.lemmas.List.{drop-append-le, length-drop, take-append-le}
use Rattle.std.proofs.lemmas.Slice.Eq.{bytes_eq-Decides}
use Rattle.std.specs.Prelude.{◌&&◌, MatchOption, if◌then◌else◌, is_some, not}
use Rattle.std.specs.Str.{bytes_eq}
use Rattle.serde_json.specs.Data.{Data, string, Members, no_members, member}
use Rattle.serde_json.specs.Find.{get_member}
use Rattle.serde_json.specs.Written.{compact_text}
use Rattle.fp_base.proofs.Named.{found-here, found-later}
use Rattle.fp_definition.specs.Spelled.{at, AreIn, AreNoted, AreWithin, IsAt, IsNoted, IsWithin, noted_at, spelled}
use Rattle.fp_definition.specs.declared.spelling.Place.{Place}
use Rattle.fp_definition.specs.declared.spelling.Places.{Places}
use Rattle.fp_definition.specs.declared.spelling.Variant.{Variant}

-- ---- places

pub at_more : (text more : List ℕ) (p : Place) → IsWithin text p → at (text ++ more) p ≡ at text p
at_more text more p within =
    ap (take (p.end - p.start)) (drop-append-le p.start text more (omega (arith, within)))
    ∙ take-append-le (p.end - p.start) (drop p.start text) more (omega (arith, within, length-drop p.start text))

pub within_more : (text more : List ℕ) (p : Place) → IsWithin text p → IsWithin (text ++ more) p
within_more text more p within = (within.0, omega (arith, within, length-append text more))

-- what was put behind a text stands behind it
pub at_new : (old new bytes : List ℕ) (p : Place) → new ≡ old ++ bytes → p.start ≡ length old → p.end ≡ length new →
    (at new p ≡ bytes) × IsWithin new p
at_new old new bytes p same start end =
    let long = ap length same ∙ length-append old bytes in (
      ap (λ xs. slice_range xs p.start p.end) same ∙ ap (λ n. take (p.end - n) (drop n (old ++ bytes))) start
          ∙ ap (take (p.end - length old)) (drop-append_seam old bytes) ∙ take_all (p.end - length old) bytes (omega (arith, long, end)),
      (omega (arith, long, start, end), omega (arith, end)),
    )

-- ---- variants

pub spelled_more : (text more : List ℕ) (vs : List Variant) (rest : Members) → AreWithin text vs →
    spelled (text ++ more) vs rest ≡ spelled text vs rest
spelled_more text more [] rest h = refl
spelled_more text more (v ∷ vs) rest h =
    ap₂ (λ x ms. member v.name.bytes (string x) ms) (at_more text more v.value h.0) (spelled_more text more vs rest h.1)

pub all_more : (text more : List ℕ) (vs : List Variant) → AreWithin text vs → AreWithin (text ++ more) vs
all_more text more [] h = tt
all_more text more (v ∷ vs) h = (within_more text more v.value h.0, all_more text more vs h.1)

pub spelled_push : (text : List ℕ) (vs : List Variant) (v : Variant) (rest : Members) →
    spelled text (vs ++ v ∷ []) rest ≡ spelled text vs (member v.name.bytes (string (at text v.value)) rest)
spelled_push text [] v rest = refl
spelled_push text (w ∷ vs) v rest = ap (member w.name.bytes (string (at text w.value))) (spelled_push text vs v rest)

in_more : (text more : List ℕ) (vs : List Variant) (found : Option Data) → AreIn text vs found → AreIn (text ++ more) vs found
in_more text more vs found h ms is = let a = h ms is in
    record {
      spelled = spelled_more text more vs no_members a.within ∙ a.spelled;
      within =
          all_more text more vs a.within;
    }

at_all_more : (text more : List ℕ) (p : Place) (found : Option Data) → IsAt text p found → IsAt (text ++ more) p found
at_all_more text more p found h = (h.0, h.1, at_more text more p h.3 ∙ h.2, within_more text more p h.3)

-- a variant more, whose name and value were put behind the text
module _ (text name new bytes : List ℕ) (vs : List Variant) (v : Variant) (k : List ℕ) (rest : Members) where
  pub noted_spelled : new ≡ (text ++ name) ++ bytes → AreWithin text vs → v.name.bytes ≡ k → at new v.value ≡ bytes
      → spelled new (vs ++ v ∷ []) rest ≡ spelled text vs (member k (string bytes) rest)
  noted_spelled same within named there =
      spelled_push new vs v rest ∙ ap₂ (λ l x. spelled new vs (member l (string x) rest)) named there
      ∙ ap (λ xs. spelled xs vs (member k (string bytes) rest)) (same ∙ append_assoc text name bytes)
      ∙ spelled_more text (name ++ bytes) vs (member k (string bytes) rest) within

  pub noted_within : new ≡ (text ++ name) ++ bytes → AreWithin text vs → IsWithin new v.value → AreWithin new (vs ++ v ∷ [])
  noted_within same within inside =
      both vs (subst (λ xs. AreWithin xs vs) (sym (same ∙ append_assoc text name bytes)) (all_more text (name ++ bytes) vs within))
    where
      both : (ws : List Variant) → AreWithin new ws → AreWithin new (ws ++ v ∷ [])
      both [] h = (inside, tt)
      both (w ∷ ws) h = (h.0, both ws h.1)

-- ---- notes

module _ (w k : List ℕ) (d : Data) (left all : Members) where
  later : {A : Type 0} (o : Option A) (R : A → Type 0) → (bytes_eq k w && not (is_some o)) ≡ false
      → MatchOption o (get_member w (member k d left) ≡ get_member w all) R → MatchOption o (get_member w left ≡ get_member w all) R
  later None R h is = sym (found-later w k d left (both (bytes_eq k w) h)) ∙ is
    where
      both : (b : Bool) → (b && true) ≡ false → b ≡ false
      both true h = h
      both false h = refl
  later (Some x) R h is = is

  here : bytes_eq k w ≡ true → get_member w (member k d left) ≡ get_member w all → get_member w all ≡ Some d
  here same is = sym is ∙ found-here w k d left same

known : {A : Type 0} (o : Option A) (N : Type 0) (R S : A → Type 0) → ((x : A) → R x → S x) → MatchOption o N R → MatchOption o N S
known None N R S f h = h
known (Some x) N R S f h = f x h

-- of another name
other : (k v w : List ℕ) → bytes_eq v w ≡ false → bytes_eq k v ≡ true → bytes_eq k w ≡ false
other k v w apart same = ap (λ l. bytes_eq l w) ((bytes_eq-Decides k v).0 same) ∙ apart

apart : (b c : Bool) → b ≡ false → (b && c) ≡ false
apart b c h = ap (λ x. x && c) h

-- of one name: its first member is noted as it is passed
noted_on : (w old bytes k : List ℕ) (d : Data) (left all : Members) (o new : Option Place) (p : Place) →
    new ≡ noted_at w k p o → at (old ++ bytes) p ≡ compact_text d → IsWithin (old ++ bytes) p →
    IsNoted w old o (member k d left) all → IsNoted w (old ++ bytes) new left all
noted_on w old bytes k d left all o new p is there within h =
    subst (λ q. IsNoted w (old ++ bytes) q left all) (sym is) (by (bytes_eq k w) refl o h)
  where
    by : (b : Bool) → bytes_eq k w ≡ b → (o : Option Place) → IsNoted w old o (member k d left) all →
        IsNoted w (old ++ bytes) (if b && not (is_some o) then Some p else o) left all
    by true same None h = (d, here w k d left all same h, there, within)
    by true same (Some q) h = at_all_more old bytes q _ h
    by false same None h = later w k d left all None (λ q. IsAt (old ++ bytes) q (get_member w all)) (apart _ _ same) h
    by false same (Some q) h = at_all_more old bytes q _ h

module _ (old bytes : List ℕ) (variants : Option (List Variant)) (places : Places) (k : List ℕ) (d : Data)
    (left all : Members) where
  -- of a name that this one isn't
  not_noted : (w : List ℕ) (o : Option Place) → bytes_eq k w ≡ false → IsNoted w old o (member k d left) all →
      IsNoted w (old ++ bytes) o left all
  not_noted w o other h = later w k d left all o _ (apart _ _ other) (known o _ _ _ (λ p. at_all_more old bytes p _) h)

  pub noted_variants : (vs : List Variant) → bytes_eq k (codes "variants") ≡ true → variants ≡ None → AreIn (old ++ bytes) vs (Some d)
      → AreNoted old variants places (member k d left) all → AreNoted (old ++ bytes) (Some vs) places left all
  noted_variants vs same none there h = record {
    variants = subst (AreIn (old ++ bytes) vs)
        (sym (here (codes "variants") k d left all same
        (subst (λ o. MatchOption o (get_member (codes "variants") (member k d left) ≡ get_member (codes "variants")
        all) (λ ws. AreIn old ws (get_member (codes "variants") all))) none h.variants))) there;
    metadata = not_noted (codes "metadata") places.metadata (other k (codes "variants") (codes "metadata") refl same) h.metadata;
    targeting = not_noted (codes "targeting") places.targeting (other k (codes "variants") (codes "targeting") refl same) h.targeting;
  }

  pub noted_places : (new : Places) (p : Place) → (bytes_eq k (codes "variants") && not (is_some variants)) ≡ false →
      new.metadata ≡ noted_at (codes "metadata") k p places.metadata →
      new.targeting ≡ noted_at (codes "targeting") k p places.targeting →
      at (old ++ bytes) p ≡ compact_text d → IsWithin (old ++ bytes) p →
      AreNoted old variants places (member k d left) all → AreNoted (old ++ bytes) variants new left all
  noted_places new p not_variants metadata targeting there within h = record {
    variants = later (codes "variants") k d left all variants _ not_variants
        (known variants _ _ _ (λ vs. in_more old bytes vs _) h.variants);
    metadata = noted_on (codes "metadata") old bytes k d left all places.metadata new.metadata p metadata there within h.metadata;
    targeting = noted_on (codes "targeting") old bytes k d left all places.targeting new.targeting p targeting there within h.targeting;
  }

pub none_noted_yet : (text : List ℕ) (all : Members) (places : Places) → places ≡ record { metadata = None; targeting = None } →
    AreNoted text None places all all
none_noted_yet text all places none =
    subst (λ p. AreNoted text None p all all) (sym none) record { variants = refl; metadata = refl; targeting = refl }

pub noted_more : (old bytes : List ℕ) (variants : Option (List Variant)) (places : Places)
    (left all : Members) → AreNoted old variants places left all →
    AreNoted (old ++ bytes) variants places left all
noted_more old bytes variants places left all h = record {
  variants = known variants _ _ _ (λ vs. in_more old bytes vs _) h.variants;
  metadata = known places.metadata _ _ _ (λ p. at_all_more old bytes p _) h.metadata;
  targeting = known places.targeting _ _ _ (λ p. at_all_more old bytes p _) h.targeting;
}

-- ---- as the code has them

pub none_noted : (o : Option (Vec Variant Global)) → not (is_some o) ≡ true → option_map (λ v. v.items) o ≡ None
none_noted None h = refl
none_noted (Some v) h = absurd (true≢false (sym h))

pub is_noted : (k w : List ℕ) (o : Option (Vec Variant Global)) → (bytes_eq k w && not (is_some o)) ≡ false →
    (bytes_eq k w && not (is_some (option_map (λ v. v.items) o))) ≡ false
is_noted k w None h = h
is_noted k w (Some v) h = h
