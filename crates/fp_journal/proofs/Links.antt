-- A chain is its first link and a chain, and what is read of it is it.
use Rattle.std.proofs.Common.{◌≡◌, ◌⊎◌, inl, inr, ℕ, ◌+◌, ◌-◌, ◌<◌, ◌≤◌, ◌^◌, List, [], ◌∷◌, ◌++◌, length, min, refl}
use Rattle.std.proofs.Common.{sym, ◌∙◌, ap, subst, arith, length-append}
use Rattle.std.specs.Prelude.{slice_index, slice_range, MatchOption, Option, Some, None}
use Rattle.std.specs.Int.{w32, to_be_bytes}
use Rattle.std.proofs.lemmas.List.{append_assoc, append-nil}
use Rattle.std.proofs.lemmas.Nat.{from_be_bytes-to_be_bytes_4}
use Rattle.fp_journal.specs.Holds.{Holds}
use Rattle.fp_journal.specs.Chain.{Ends, with_length, spell}
use Rattle.fp_journal.specs.declared.chain.ChainFault.{ChainFault}
use Rattle.fp_journal.specs.declared.chain.ChainFault.TheVariants.{Damaged, Device, Memory}
use Rattle.fp_journal.specs.State.{AllShort}
use Rattle.fp_journal.specs.Reading.{IsChain, IsClosed, IsNext, Breaks, BreaksBefore, no_length, too_long, no_body}
use Rattle.fp_journal.specs.Reading.{BreaksLink, link_no_length, link_too_long, link_no_body, SpellsLink, Reads}
use Rattle.fp_journal.specs.Reading.{FoundChain, ReadsChain, Refuses, StopsAt, IsOnlyDamage, TellsDamage, length_at}
use Rattle.fp_journal.proofs.Holds.{holds_append, holds_front, holds_back, holds_byte, holds_part, holds_inner}
use Rattle.fp_journal.proofs.Holds.{held_range, byte_held, range_held}
use Rattle.fp_journal.proofs.Gates.{spell-more}
use Rattle.fp_journal.proofs.Steps.{All-push}
use Rattle.fp_gate.specs.declared.gate.TheConstants.{OPEN}

-- ---- the first link

pub chain_first : (most at stop : ℕ) (b : List ℕ) (bs : List (List ℕ)) (c : List ℕ) →
    IsChain most at stop (b ∷ bs) c → IsNext most at stop b (at + 5 + length b) c ×
    IsChain most (at + 5 + length b) stop bs c
chain_first most at stop b bs c h =
    let e = h.ends in let g = e.gate in let w = e.within in
    let all : Holds c at ((OPEN ∷ with_length b) ++ (spell bs ++ g ∷ [])) =
    subst (λ (t : List ℕ). Holds c at (OPEN ∷ t)) (append_assoc (with_length b) (spell bs) (g ∷ [])) e.holds in
    let len = length-append (with_length b) (spell bs) in
    let place : at + length (OPEN ∷ with_length b) ≡ at + 5 + length b = omega arith in
    let rest : Holds c (at + 5 + length b) (spell bs ++ g ∷ []) =
    subst (λ (k : ℕ). Holds c k (spell bs ++ g ∷ [])) place
    (holds_back c at (OPEN ∷ with_length b) (spell bs ++ g ∷ []) all) in (
      record {
        holds = holds_front c at (OPEN ∷ with_length b) (spell bs ++ g ∷ []) all;
        short = h.short.0;
        place =
            refl;
        within = omega (arith, w, len);
      },
      record { short = h.short.1; ends = record { gate = g; shut = e.shut; holds = rest; within = omega (arith, w, len) } },
    )

-- behind a closed gate there is no body
pub chain_closed : (most at stop : ℕ) (bs : List (List ℕ)) (c : List ℕ) → IsClosed at stop c → IsChain most at stop bs c → bs ≡ []
chain_closed most at stop [] c shut h = refl
chain_closed most at stop (b ∷ bs) c shut h =
    absurd (shut.shut (byte_held c at OPEN (with_length b) (chain_first most at stop b bs c h).0.holds))

-- behind an open gate there is one
pub chain_opened : (most at stop : ℕ) (bs : List (List ℕ)) (c : List ℕ) → slice_index c at ≡ OPEN → IsChain most at stop bs c
    → (b : List ℕ) × (rest : List (List ℕ)) × (bs ≡ b ∷ rest) × IsNext most at stop b (at + 5 + length b) c ×
    IsChain most (at + 5 + length b) stop rest c
chain_opened most at stop [] c is h = absurd (h.ends.shut (sym (byte_held c at h.ends.gate [] h.ends.holds) ∙ is))
chain_opened most at stop (b ∷ bs) c is h = let f = chain_first most at stop b bs c h in (b, bs, refl, f.0, f.1)

-- ---- its length and its body
pub length_read : (c : List ℕ) (at : ℕ) (b : List ℕ) → Holds c at (OPEN ∷ with_length b) → length b < 2 ^ 32 → length_at c at ≡ length b
length_read c at b p short =
    let one = p.same 1 (omega arith) in let two = p.same 2 (omega arith) in let three = p.same 3 (omega arith) in
    let four = p.same 4 (omega arith) in
    rw (one, two, three, four) (from_be_bytes-to_be_bytes_4 (length b) short)

pub body_held : (c : List ℕ) (at : ℕ) (b : List ℕ) → Holds c at (OPEN ∷ with_length b) → Holds c (at + 5) b
body_held c at b p = holds_back c at (OPEN ∷ to_be_bytes w32 (length b)) b p

pub body_read : (c : List ℕ) (at n : ℕ) (b : List ℕ) → Holds c at (OPEN ∷ with_length b) → n ≡ length b →
    slice_range c (at + 5) (at + 5 + n) ≡ b
body_read c at n b p is = rw is (range_held c (at + 5) b (body_held c at b p))

pub same_body : (c : List ℕ) (at : ℕ) (a b : List ℕ) → Holds c at (OPEN ∷ with_length a) → length a < 2 ^ 32 →
    Holds c at (OPEN ∷ with_length b) → length b < 2 ^ 32 → a ≡ b
same_body c at a b p short q short2 = sym (body_read c at (length_at c at) a p (length_read c at a p short)) ∙
    body_read c at (length_at c at) b q (length_read c at b q short2)

-- ---- its front, in a part that was read
-- the part from a place on, of one that was read
pub part_from : (c : List ℕ) (first at : ℕ) (items part : List ℕ) → Holds c first items → first ≤ at →
    at ≤ first + length items → part ≡ slice_range items (at - first) (length items) → Holds c at part ×
    (length part ≡ first + length items - at)
part_from c first at items part there le within is =
    let end : at - first + (first + length items - at) ≡ length items = omega (arith, le, within) in
    let h = holds_part c first (at - first) (first + length items - at) items part there (omega (arith, end))
    (is ∙ ap (λ (n : ℕ). slice_range items (at - first) n) (sym end)) in
    let place : first + (at - first) ≡ at = omega (arith, le) in
    (subst (λ (k : ℕ). Holds c k part) place h.0, h.1)

-- it is as long as was asked for
pub part_reached : (first at limit n : ℕ) (items part : List ℕ) → first ≤ at → at ≤ first + length items →
    at + n ≤ first + length items → n ≡ min (limit - at) 5 → at < limit →
    part ≡ slice_range items (at - first) (length items) → (0 < limit - at) × (min (limit - at) 5 ≤ length part)
part_reached first at limit n items part le within more asked less is =
    let end : at - first + (first + length items - at) ≡ length items = omega (arith, le, within) in
    let len : length part ≡ first + length items - at =
    ap length (is ∙ ap (λ (k : ℕ). slice_range items (at - first) k) (sym end)) ∙
    (held_range items (at - first) (first + length items - at) (omega (arith, end))).1 in
    (omega (arith, less), omega (arith, len, more, asked))

-- the body behind the front, in one that was read
pub body_fits : (first at limit most n : ℕ) (items body : List ℕ) → first ≤ at →
    at + (5 + n) ≤ first + length items → n ≤ most → 5 + n ≤ limit - at →
    body ≡ slice_range items (at + 5 - first) (at + 5 - first + n)
    → (length body ≤ most) × (at + 5 + length body ≤ limit) × (first ≤ at + 5 + length body) × (at + 5 + length body ≤ first + length items)
body_fits first at limit most n items body low high short within is =
    let len : length body ≡ n = ap length is ∙ (held_range items (at + 5 - first) n (omega (arith, low, high))).1 in
    (omega (arith, len, short), omega (arith, len, within), omega (arith, low), omega (arith, len, high))

pub first_byte : (c : List ℕ) (at : ℕ) (part : List ℕ) → Holds c at part → 0 < length part → slice_index c at ≡ slice_index part 0
first_byte c at part there lt = let e : at ≡ at + 0 = omega arith in ap (λ (j : ℕ). slice_index c j) e ∙ there.same 0 lt

length_same : (c : List ℕ) (at : ℕ) (part : List ℕ) → Holds c at part → 5 ≤ length part → length_at c at ≡ length_at part 0
length_same c at part there le =
    let one = there.same 1 (omega (arith, le)) in let two = there.same 2 (omega (arith, le)) in
    let three = there.same 3 (omega (arith, le)) in let four = there.same 4 (omega (arith, le)) in
    rw (one, two, three, four) refl

-- a fault of the front is one of the disk
pub link_breaks : (most limit : ℕ) (c : List ℕ) (at left k : ℕ) (part : List ℕ) → Holds c at part → 0 < left →
    min left 5 ≤ length part → at + left ≡ limit → BreaksLink most part left at k → BreaksBefore most limit c at k
link_breaks most limit c at left k part there some le end (link_no_length opened short is) =
    no_length (first_byte c at part there (omega (arith, some, le)) ∙ opened) (omega (arith, some, end)) (omega (arith, short, end)) is
link_breaks most limit c at left k part there some le end (link_too_long opened whole long is) =
    let same = length_same c at part there (omega (arith, whole, le)) in
    too_long (first_byte c at part there (omega (arith, some, le)) ∙ opened) (omega (arith, whole, end)) (rw same long) is
link_breaks most limit c at left k part there some le end (link_no_body opened whole few long is) =
    let same = length_same c at part there (omega (arith, whole, le)) in
    no_body (first_byte c at part there (omega (arith, some, le)) ∙ opened) (omega (arith, whole, end)) (rw same few)
    (rw same (omega (arith, end, long))) is

pub link_tells : (most limit : ℕ) (c : List ℕ) (at : ℕ) (part : List ℕ) (f : ChainFault) → Holds c at part →
    at < limit → min (limit - at) 5 ≤ length part → IsOnlyDamage (BreaksLink most part (limit - at) at) f →
    TellsDamage (BreaksBefore most limit c at) f
link_tells most limit c at part (Damaged k) there less le broken =
    link_breaks most limit c at (limit - at) k part there (omega (arith, less)) le (omega (arith, less)) broken
link_tells most limit c at part Device there less le broken = tt
link_tells most limit c at part Memory there less le broken = tt

-- and so is its closed gate
pub link_shut : (c : List ℕ) (at left : ℕ) (part : List ℕ) → Holds c at part → 0 < left → min left 5 ≤ length part →
    (slice_index part 0 ≡ OPEN → ⊥) → slice_index c at ≡ OPEN → ⊥
link_shut c at left part there some le shut opened = shut (sym (first_byte c at part there (omega (arith, some, le))) ∙ opened)

-- and its body
pub link_stands : (c : List ℕ) (at left most n : ℕ) (part body : List ℕ) → Holds c at part →
    SpellsLink part left most n → Holds c (at + 5) body → length body ≡ n → Holds c at (OPEN ∷ with_length body)
link_stands c at left most n part body there front behind is =
    let e : at + 0 ≡ at = omega arith in
    let link : Holds c at (OPEN ∷ to_be_bytes w32 n) =
    subst (λ (k : ℕ). Holds c k (OPEN ∷ to_be_bytes w32 n)) e
    (holds_inner c at 0 part (OPEN ∷ to_be_bytes w32 n) there front.text) in
    holds_append c at (OPEN ∷ to_be_bytes w32 (length body)) body
    (subst (λ (m : ℕ). Holds c at (OPEN ∷ to_be_bytes w32 m)) (sym is) link) behind

-- ---- reading on
-- these were read, up to this gate, and each chain begins with them
pub record HasRead (most from stop : ℕ) (c : List ℕ) (found : List (List ℕ)) (at : ℕ) : Type 0 where
  pub holds : Holds c from (spell found)
  pub place : at ≡ from + length (spell found)
  pub within : (at ≡ from) ⊎ (at ≤ stop)
  pub short : AllShort most found
  pub only : (bs : List (List ℕ)) → IsChain most from stop bs c → (rest : List (List ℕ)) × (bs ≡ found ++ rest) ×
      IsChain most at stop rest c

pub read_none : (most from stop : ℕ) (c : List ℕ) → from ≤ length c → HasRead most from stop c [] from
read_none most from stop c le =
    record {
      holds = record { long = omega (arith, le); same = λ k lt. absurd (omega (arith, lt)) };
      place =
          omega arith;
      within = inl refl;
      short = tt;
      only = λ bs h. (bs, refl, h);
    }

module _ (most from stop : ℕ) (c : List ℕ) (small : most < 2 ^ 32) where
  pub read_more : (found : List (List ℕ)) (at next : ℕ) (b : List ℕ) → HasRead most from stop c found at →
      IsNext most at stop b next c → HasRead most from stop c (found ++ b ∷ []) next
  read_more found at next b r n =
      let e = spell-more found b in let place = r.place in let np = n.place in let ns = n.short in
      let len = length-append (spell found) (OPEN ∷ with_length b) in
      let size : length (spell (found ++ b ∷ [])) ≡ length (spell found ++ OPEN ∷ with_length b) = ap length e in
      record {
        holds = subst (λ (t : List ℕ). Holds c from t) (sym e)
            (holds_append c from (spell found) (OPEN ∷ with_length b) r.holds
            (subst (λ (k : ℕ). Holds c k (OPEN ∷ with_length b)) place n.holds));
        place = omega (arith, place, np, len, size);
        within = inr n.within;
        short = All-push (λ (x : List ℕ). length x ≤ most) found b r.short n.short;
        only = λ bs h. let o = r.only bs h in
            let t = chain_opened most at stop o.0 c (byte_held c at OPEN (with_length b) n.holds) o.2 in
            let ts = t.3.short in
            let same : t.0 ≡ b = same_body c at t.0 b t.3.holds (omega (arith, ts, small)) n.holds (omega (arith, ns, small)) in
            let here : at + 5 + length t.0 ≡ next = ap (λ (x : List ℕ). at + 5 + length x) same ∙ sym np in (
              t.1,
              o.1 ∙ ap (λ (l : List (List ℕ)). found ++ l) (t.2 ∙ ap (λ (x : List ℕ). x ∷ t.1) same) ∙
                  sym (append_assoc found (b ∷ []) t.1),
              subst (λ (k : ℕ). IsChain most k stop t.1 c) here t.4,
            );
      }

  pub read_all : (found : List (List ℕ)) (at : ℕ) → HasRead most from stop c found at → IsClosed at stop c →
      IsChain most from stop found c × ((bs : List (List ℕ)) → IsChain most from stop bs c → bs ≡ found)
  read_all found at r shut =
      let place = r.place in let w = shut.within in (
        record {
          short = r.short;
          ends =
              record {
                gate = slice_index c at;
                shut = shut.shut;
                holds =
                    holds_append c from (spell found) (slice_index c at ∷ []) r.holds
                    (subst (λ (k : ℕ). Holds c k (slice_index c at ∷ [])) place (holds_byte c at shut.long));
                within =
                    omega (arith, place, w);
              };
        },
        λ bs h. let o = r.only bs h in
            o.1 ∙ ap (λ (l : List (List ℕ)). found ++ l) (chain_closed most at stop o.0 c shut o.2) ∙
            append-nil found,
      )

-- ---- with a reader
module _ {R : Type 0} (takes : R → List ℕ → R → Type 0) where
  pub reads_more : (before middle after : R) (bs : List (List ℕ)) (b : List ℕ) → Reads takes before bs middle →
      takes middle b after → Reads takes before (bs ++ b ∷ []) after
  reads_more before middle after [] b is one = (after, subst (λ (r : R). takes r b after) (sym is) one, refl)
  reads_more before middle after (x ∷ xs) b all one = (all.0, all.1, reads_more all.0 middle after xs b all.2 one)

-- ---- as it is read of a disk
-- a reader has taken what was read, and its text is behind the one that was there
pub record IsReadTo {R : Type 0} (honest : Type 0) (takes : R → List ℕ → R → Type 0) (most from stop : ℕ)
    (c : List ℕ) (before now : R) (old text : List ℕ) (at : ℕ) : Type 0 where
  pub bodies : List (List ℕ)
  pub reads : Reads takes before bodies now
  pub short : AllShort most bodies
  pub text_is : text ≡ old ++ spell bodies
  pub place : at ≡ from + length (spell bodies)
  pub read : honest → HasRead most from stop c bodies at

pub to_none : {R : Type 0} (honest : Type 0) (takes : R → List ℕ → R → Type 0) (most from stop : ℕ) (c : List ℕ)
    (before : R) (old : List ℕ) → (honest → from ≤ length c) →
    IsReadTo honest takes most from stop c before before old old from
to_none honest takes most from stop c before old le =
    record {
      bodies = [];
      reads = refl;
      short = tt;
      text_is = sym (append-nil old);
      place = omega arith;
      read =
          λ h. read_none most from stop c (le h);
    }

module _ {R : Type 0} (honest : Type 0) (takes : R → List ℕ → R → Type 0) (most from stop : ℕ) (c : List ℕ)
    (small : most < 2 ^ 32) (before : R) (old : List ℕ) where
  pub to_more : (at : ℕ) (now then : R) (text longer b : List ℕ) →
      IsReadTo honest takes most from stop c before now old text at → takes now b then → length b ≤ most →
      at + 5 + length b ≤ stop
      → (honest → Holds c at (OPEN ∷ with_length b)) → longer ≡ text ++ OPEN ∷ with_length b →
      IsReadTo honest takes most from stop c before then old longer (at + 5 + length b)
  to_more at now then text longer b r one short within holds grown =
      let e = spell-more r.bodies b in let place = r.place in
      let len = length-append (spell r.bodies) (OPEN ∷ with_length b) in
      let size : length (spell (r.bodies ++ b ∷ [])) ≡ length (spell r.bodies ++ OPEN ∷ with_length b) =
      ap length e in
      record {
        bodies = r.bodies ++ b ∷ [];
        reads = reads_more takes before now then r.bodies b r.reads one;
        short = All-push (λ (x : List ℕ). length x ≤ most) r.bodies b r.short short;
        text_is = grown ∙ ap (λ (t : List ℕ). t ++ OPEN ∷ with_length b) r.text_is ∙
            append_assoc old (spell r.bodies) (OPEN ∷ with_length b) ∙ ap (λ (t : List ℕ). old ++ t) (sym e);
        place = omega (arith, place, len, size);
        read = λ h. read_more most from stop c small r.bodies at (at + 5 + length b) b (r.read h)
            (record { holds = holds h; short = short; place = refl; within = within });
      }

  pub to_all : (at : ℕ) (now : R) (text : List ℕ) → IsReadTo honest takes most from stop c before now old text at →
      at < stop → (honest → at < length c) → (honest → slice_index c at ≡ OPEN → ⊥)
      → ReadsChain honest takes most from stop c before now old text at
  to_all at now text r within long shut =
      let all : honest → IsChain most from stop r.bodies c ×
      ((bs : List (List ℕ)) → IsChain most from stop bs c → bs ≡ r.bodies) =
      λ h. read_all most from stop c small r.bodies at (r.read h)
      (record { within = within; long = long h; shut = shut h }) in
      record {
        bodies = r.bodies;
        reads = r.reads;
        short = r.short;
        text = r.text_is;
        place = r.place;
        within =
            within;
        chain = λ h. (all h).0;
        only = λ h. (all h).1;
      }

  -- it breaks off there
  stops : (refuses : R → List ℕ → ℕ → Type 0) (at k : ℕ) (now : R) (text : List ℕ) → honest →
      IsReadTo honest takes most from stop c before now old text at →
      Breaks most stop c at k ⊎ ((body : List ℕ) × (next : ℕ) × (offset : ℕ) × IsNext most at stop body next c ×
      refuses now body offset × (k ≡ at + 5 + offset)) → StopsAt takes refuses most from stop c before k
  stops refuses at k now text h r fault = let read = r.read h in
      record {
        bodies = r.bodies;
        gate = at;
        last = now;
        holds = read.holds;
        short = r.short;
        place =
            r.place;
        within = read.within;
        reads = r.reads;
        fault = fault;
      }

  pub to_broken : (refuses : R → List ℕ → ℕ → Type 0) (at limit : ℕ) (now : R) (text : List ℕ) (f : ChainFault) →
      honest → IsReadTo honest takes most from stop c before now old text at → limit ≡ min stop (length c) →
      TellsDamage (BreaksBefore most limit c at) f
      → Refuses takes refuses most from stop c before f
  to_broken refuses at limit now text (Damaged k) h r is broken =
      stops refuses at k now text h r (inl (subst (λ (n : ℕ). BreaksBefore most n c at k) is broken))
  to_broken refuses at limit now text Device h r is broken = tt
  to_broken refuses at limit now text Memory h r is broken = tt

  pub to_refused : (refuses : R → List ℕ → ℕ → Type 0) (at offset : ℕ) (now : R) (text b : List ℕ) → honest →
      IsReadTo honest takes most from stop c before now old text at → length b ≤ most → at + 5 + length b ≤ stop →
      Holds c at (OPEN ∷ with_length b) → refuses now b offset → (k : ℕ) → k ≡ at + 5 + offset
      → StopsAt takes refuses most from stop c before k
  to_refused refuses at offset now text b h r short within holds bad k is =
      stops refuses at k now text h r
      (inr (
        b,
        at + 5 + length b,
        offset,
        record { holds = holds; short = short; place = refl; within = within },
        bad,
        is,
      ))

-- what was read of an honest disk is its one chain
pub found_of : {R : Type 0} (honest : Type 0) (takes : R → List ℕ → R → Type 0) (most at stop : ℕ) (c : List ℕ)
    (before after : R) (old new : List ℕ) (end : ℕ) → honest →
    ReadsChain honest takes most at stop c before after old new end → FoundChain takes most at stop c before after end
found_of honest takes most at stop c before after old new end h r =
    record { bodies = r.bodies; chain = r.chain h; only = r.only h; place = r.place; reads = r.reads }

-- and stands behind the text that stood before it
pub text_found : {R : Type 0} (honest : Type 0) (takes : R → List ℕ → R → Type 0) (most at stop start : ℕ)
    (c : List ℕ) (before after : R) (old new : List ℕ) (end : ℕ) → honest →
    ReadsChain honest takes most at stop c before after old new end → Holds c start old → at ≡ start + length old →
    Ends start stop new c
text_found honest takes most at stop start c before after old new end h r there place =
    let e = (r.chain h).ends in let w = e.within in let len = length-append old (spell r.bodies) in
    let size : length new ≡ length (old ++ spell r.bodies) = ap length r.text in
    record {
      gate = e.gate;
      shut = e.shut;
      holds = subst (λ (t : List ℕ). Holds c start t) (ap (λ (t : List ℕ). t ++ e.gate ∷ []) (sym r.text))
          (subst (λ (t : List ℕ). Holds c start t) (sym (append_assoc old (spell r.bodies) (e.gate ∷ [])))
          (holds_append c start old (spell r.bodies ++ e.gate ∷ []) there
          (subst (λ (k : ℕ). Holds c k (spell r.bodies ++ e.gate ∷ [])) place e.holds)));
      within = omega (arith, w, place, len, size);
    }

-- ---- an answer that is there, and one that isn't
pub at_some : {A : Type 0} (N : Type 0) (P : A → Type 0) (o : Option A) (x : A) → o ≡ Some x → MatchOption o N P → P x
at_some {A} N P o x is m = subst (λ (p : Option A). MatchOption p N P) is m

pub at_none : {A : Type 0} (N : Type 0) (P : A → Type 0) (o : Option A) → o ≡ None → MatchOption o N P → N
at_none {A} N P o is m = subst (λ (p : Option A). MatchOption p N P) is m
