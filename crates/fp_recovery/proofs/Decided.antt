-- Each list of bytes stands for a set, or has a fault: read forward, each test is met or fails.
use Rattle.std.proofs.Common.{◌≡◌, ◌⊎◌, ◌<◌, ◌≤◌, ◌+◌, ◌/◌, ◌^◌, ◌++◌, ℕ, zero, suc, min, true, false, List, [], ◌∷◌}
use Rattle.std.proofs.Common.{length, get_or, Ok, Err, refl, sym, subst, ◌∙◌, inl, inr, arith}
use Rattle.std.specs.Prelude.{slice_index, slice_range}
use Rattle.std.specs.Int.{Width, byte_len, w32, w64, from_be_bytes, to_be_bytes, is_power_of_two}
use Rattle.std.specs.FinMap as fin
use Rattle.std.proofs.lemmas.Bool.{cases_eq, cases_lt}
use Rattle.std.proofs.lemmas.List.Elements.{All-get_or}
use Rattle.std.proofs.Math.ListN.{get_or-eq_default}
use Rattle.std.proofs.lemmas.Nat.{from_be_bytes-to_be_bytes_4}
use Rattle.fp_base.specs.Bytes.{bytes_cmp}
use Rattle.fp_disk.specs.Outcomes.{AreBytes, IsByte}
use Rattle.fp_edit.specs.Flags.{State}
use Rattle.fp_documents.specs.declared.flags.Flag.{Flag}
use Rattle.fp_gate.specs.declared.gate.TheConstants.{OPEN}
use Rattle.fp_journal.specs.Holds.{Holds}
use Rattle.fp_journal.specs.Reading.{Breaks, FoundChain, IsChain, IsClosed, IsNext, Reads, StopsAt, no_gate, no_length}
use Rattle.fp_journal.specs.Reading.{too_long, no_body, length_at}
use Rattle.fp_journal.specs.declared.slot.Slot.{Slot}
use Rattle.fp_edit.proofs.AtOnce.{sorted_image}
use Rattle.fp_journal.proofs.Holds.{byte_held, held_range, holds_append, holds_back, holds_byte}
use Rattle.fp_journal.proofs.Links.{HasRead, read_all, read_more, read_none, reads_more}
use Rattle.fp_layout.specs.Faults.{BreaksHead, bad_size, no_base, no_generation, no_image, no_version, not_zero, too_short}
use Rattle.fp_layout.specs.Faults as faults
use Rattle.fp_layout.specs.Layout.{AreZeros, HasBase, HasLength, HasVersion, IsActive, IsFirstOther, IsFormatted, IsHead, IsHeader, magic}
use Rattle.fp_layout.specs.Opening.{BreaksDisk, FoundFront, in_chain, in_front, in_head, in_header, in_image, in_slots}
use Rattle.fp_layout.specs.Size.{IsSlotSize, Side, first, second, other_side, slot_of}
use Rattle.fp_layout.specs.declared.fault.OpenFault.{OpenFault}
use Rattle.fp_layout.specs.declared.fault.OpenFault.TheVariants.{Damaged, Unformatted, UnknownVersion}
use Rattle.fp_layout.proofs.Numbers.{number32_one, number64_one}
use Rattle.fp_record.proofs.Places.{IsBytes, IsWide, wide32, wide64}
use Rattle.fp_slots.specs.Head.{IsVersion}
use Rattle.fp_slots.specs.Rules.{Rules, cut, equal, none_open}
use Rattle.fp_slots.specs.declared.places.TheConstants.{FIRST_VERSION, VERSION}
use Rattle.fp_recovery.specs.Exact.{IsOfBytes}
use Rattle.fp_recovery.specs.Reading.{batch_onto, image_under}
use Rattle.fp_recovery.specs.Refusals.{BeginsWith, RefusesBatch, RefusesBytes, RejectsImage, Replayed, TakesBody, nothing_read}
use Rattle.fp_recovery.specs.Stands.{IsImageOf, StandsFor, TakesBatch}
use Rattle.fp_recovery.proofs.Parts.{most_small}
use Rattle.fp_recovery.proofs.Read.{batch_is, image_is, image_stands}
use Rattle.fp_recovery.proofs.Restored.{sets_read}
use Rattle.fp_recovery.proofs.Texts.{read_stands}

-- ---- batches that were taken one after the other
record IsReading (most from stop : ℕ) (c : List ℕ) (before : Replayed) (at : ℕ) (now : Replayed) : Type 0 where
  bodies : List (List ℕ)
  read : HasRead most from stop c bodies at
  reads : Reads TakesBody before bodies now

module _ (most from stop : ℕ) (c : List ℕ) (small : most < 2 ^ 32) (before : Replayed) where
  reading_more : (at next : ℕ) (now then : Replayed) (b : List ℕ) → IsReading most from stop c before at now →
      IsNext most at stop b next c → TakesBody now b then → IsReading most from stop c before next then
  reading_more at next now then b r n one = record {
    bodies = r.bodies ++ b ∷ [];
    read = read_more most from stop c small r.bodies at next b r.read n;
    reads = reads_more TakesBody before now then r.bodies b r.reads one;
  }

  reading_all : (at : ℕ) (now : Replayed) → IsReading most from stop c before at now → IsClosed at stop c →
      FoundChain TakesBody most from stop c before now at
  reading_all at now r shut = let all = read_all most from stop c small r.bodies at r.read shut in
      record { bodies = r.bodies; chain = all.0; only = all.1; place = r.read.place; reads = r.reads }

  stops : (at : ℕ) (now : Replayed) (k : ℕ) → IsReading most from stop c before at now →
      Breaks most stop c at k ⊎ ((body : List ℕ) × (next : ℕ) × (offset : ℕ) × IsNext most at stop body next c ×
      RefusesBatch now body offset × (k ≡ at + 5 + offset)) → StopsAt TakesBody RefusesBatch most from stop c before k
  stops at now k r fault = record {
    bodies = r.bodies;
    gate = at;
    last = now;
    holds = r.read.holds;
    short = r.read.short;
    place =
        r.read.place;
    within = r.read.within;
    reads = r.reads;
    fault = fault;
  }

  reading_breaks : (at : ℕ) (now : Replayed) (k : ℕ) → IsReading most from stop c before at now →
      Breaks most stop c at k → StopsAt TakesBody RefusesBatch most from stop c before k
  reading_breaks at now k r broken = stops at now k r (inl broken)

  reading_refused : (at next : ℕ) (now : Replayed) (b : List ℕ) (offset : ℕ) →
      IsReading most from stop c before at now → IsNext most at stop b next c → RefusesBatch now b offset →
      StopsAt TakesBody RefusesBatch most from stop c before (at + 5 + offset)
  reading_refused at next now b offset r n bad = stops at now (at + 5 + offset) r (inr (b, next, offset, n, bad, refl))

-- ---- bytes, texts and numbers at a place
length_held : (c : List ℕ) (at n : ℕ) → n < 2 ^ 32 → Holds c at (OPEN ∷ to_be_bytes w32 n) → length_at c at ≡ n
length_held c at n small p =
    let one = p.same 1 (omega arith) in let two = p.same 2 (omega arith) in let three = p.same 3 (omega arith) in
    let four = p.same 4 (omega arith) in
    rw (one, two, three, four) (from_be_bytes-to_be_bytes_4 n small)

module _ (c : List ℕ) (fits : IsBytes c) where
  range_bytes : (at n : ℕ) → at + n ≤ length c → IsBytes (slice_range c at (at + n))
  range_bytes at n le i =
      let r = held_range c at n le in let text = slice_range c at (at + n) in
      elim (cases_lt i (length text)) [
        | inl lt ↦ subst (λ (x : ℕ). x < 256) (r.0.same i lt) (fits (at + i))
        | inr past ↦ subst (λ (x : ℕ). x < 256) (sym (beyond text i past)) (omega arith)
      ]
    where
      beyond : (xs : List ℕ) (i : ℕ) → length xs ≤ i → get_or xs i 0 ≡ 0
      beyond [] i le = refl
      beyond (x ∷ xs) zero le = absurd (omega (arith, le))
      beyond (x ∷ xs) (suc i) le = beyond xs i (omega (arith, le))

  number : {w : Width} {limit : ℕ} (wide : IsWide w limit) (at : ℕ) → at + byte_len w ≤ length c → (n : ℕ) ×
      (n < limit) × Holds c at (to_be_bytes w n)
  number {w} wide at le =
      let r = held_range c at (byte_len w) le in let bytes = slice_range c at (at + byte_len w) in
      let part = range_bytes at (byte_len w) le in
      (from_be_bytes w bytes, wide.below bytes part, subst (λ (t : List ℕ). Holds c at t) (sym (wide.back bytes r.1 part)) r.0)

  holds_or : (at : ℕ) (text : List ℕ) → Holds c at text ⊎ (Holds c at text → ⊥)
  holds_or at [] = elim (cases_lt (length c) at) [
    | inl lt ↦ inr (λ h. let long = h.long in omega (arith, long, lt))
    | inr le ↦ inl (record { long = omega (arith, le); same = λ k lt. absurd (omega (arith, lt)) })
  ]
  holds_or at (x ∷ xs) = elim (cases_lt at (length c)) [
    | inl lt ↦ elim (cases_eq (slice_index c at) x) [
      | inl same ↦ elim (holds_or (at + 1) xs) [
        | inl rest ↦ inl (holds_append c at (x ∷ []) xs (subst (λ (y : ℕ). Holds c at (y ∷ [])) same (holds_byte c at lt)) rest)
        | inr none ↦ inr (λ h. none (holds_back c at (x ∷ []) xs h))
      ]
      | inr other ↦ inr (λ h. other (byte_held c at x xs h))
    ]
    | inr le ↦ inr (λ h. let long = h.long in omega (arith, long, le))
  ]

  -- ---- the header
  formatted_or : IsFormatted c ⊎ (IsFormatted c → ⊥)
  formatted_or = elim (cases_lt (length c) 64) [
    | inl lt ↦ inr (λ f. let long = f.long in omega (arith, long, lt))
    | inr long ↦ elim (cases_eq (slice_index c 0) OPEN) [
      | inl gate ↦ elim (holds_or 1 magic) [
        | inl text ↦ inl (record { long = long; gate = gate; magic_text = text })
        | inr none ↦ inr (λ f. none f.magic_text)
      ]
      | inr other ↦ inr (λ f. other f.gate)
    ]
  ]

  zeros_or : (from n : ℕ) → AreZeros c from (from + n) ⊎ ((k : ℕ) × IsFirstOther c from (from + n) k)
  zeros_or from zero = inl (λ k low high. absurd (omega (arith, low, high)))
  zeros_or from (suc n) = elim (zeros_or from n) [
    | inl zeros ↦ elim (cases_eq (slice_index c (from + n)) 0) [
      | inl is ↦ inl (λ k low high. elim (cases_lt k (from + n)) [
        | inl lt ↦ zeros k low lt
        | inr le ↦ (let here : k ≡ from + n = omega (arith, le, high) in subst (λ (j : ℕ). slice_index c j ≡ 0) (sym here) is)
      ])
      | inr other ↦ inr (from + n, record { after = omega arith; before = omega arith; other = other; zeros = zeros })
    ]
    | inr o ↦ inr (
      o.0,
      record {
        after = o.1.after;
        before = (let before = o.1.before in
            omega (arith, before));
        other = o.1.other;
        zeros = o.1.zeros;
      },
    )
  ]

  size_or : (n : ℕ) → IsSlotSize n ⊎ (IsSlotSize n → ⊥)
  size_or n = elim (cases_lt n (2 ^ 18)) [
    | inl lt ↦ inr (λ a. let least = a.least in omega (arith, least, lt))
    | inr least ↦ elim (cases_lt (2 ^ 30) n) [
      | inl lt ↦ inr (λ a. let greatest = a.greatest in omega (arith, greatest, lt))
      | inr greatest ↦ elim (is_power_of_two n) as (λ b. is_power_of_two n ≡ b → IsSlotSize n ⊎ (IsSlotSize n → ⊥)) [
        | true ↦ λ e. inl (record { power = e; least = least; greatest = greatest })
        | false ↦ λ e. inr (λ a. let both : true ≡ false = sym a.power ∙ e in absurd (cc both))
      ] refl
    ]
  ]

  abbrev Damage : ℕ → Type 0
  Damage k = BreaksDisk BeginsWith RejectsImage TakesBody RefusesBatch c nothing_read k

  abbrev OrDamage : Type 0 → Type 0
  OrDamage A = A ⊎ ((k : ℕ) × Damage k)

  -- a test that is met hands on what it found, and one that fails shows the damage
  then_or : {A B : Type 0} → OrDamage A → (A → OrDamage B) → OrDamage B
  then_or (inl a) f = f a
  then_or (inr d) f = inr d

  header_or : IsFormatted c → slice_index c 9 ≡ 1 → OrDamage ((size : ℕ) × IsHeader c size)
  header_or f v =
      let long = f.long in let n = number wide64 10 (omega (arith, long)) in
      elim (size_or n.0) [
        | inr none ↦ inr (10, in_front (in_header (f, v, (n.0, n.1, n.2, bad_size none refl))))
        | inl allowed ↦ elim (zeros_or 18 46) [
          | inr o ↦ inr (o.0, in_front (in_header (f, v, (n.0, n.1, n.2, not_zero allowed o.1))))
          | inl zeros ↦ elim (cases_lt (length c) (65 + n.0)) [
            | inl short ↦ inr (length c, in_front (in_header (f, v, (n.0, n.1, n.2, too_short allowed zeros short refl))))
            | inr whole ↦ inl (n.0, record { formatted = f; version = v; size_text = n.2; allowed = allowed; zeros = zeros; long = whole })
          ]
        ]
      ]

  -- ---- the slot that rules
  active : (size : ℕ) (x : Side) → Rules (slot_of size x).start (slot_of size (other_side x)).start c →
      (side : Side) × IsActive c size (slot_of size side) (slot_of size (other_side side))
  active size x rules = (x, record { side = x; slot_is = refl; other_is = refl; rules = rules })

  slots_or : (size : ℕ) → IsHeader c size → OrDamage ((side : Side) × IsActive c size (slot_of size side) (slot_of size (other_side side)))
  slots_or size h =
      let long = h.long in let second_there : 64 + size < length c = omega (arith, long) in
      let first_there : 64 < length c = omega (arith, long) in
      elim (cases_eq (slice_index c 64) OPEN) [
        | inr off ↦ elim (cases_eq (slice_index c (64 + size)) OPEN) [
          | inr shut ↦ inr (64, in_front (in_slots size h (none_open off shut refl)))
          | inl on ↦ inl (active size second (record { there = first_there; opened = on; over = inl off }))
        ]
        | inl on ↦ elim (cases_eq (slice_index c (64 + size)) OPEN) [
          | inr shut ↦ inl (active size first (record { there = second_there; opened = on; over = inl shut }))
          | inl open_too ↦ elim (cases_lt (length c) (64 + size + 9)) [
            | inl short ↦ inr (length c, in_front (in_slots size h (cut on open_too short refl)))
            | inr whole ↦ both on open_too whole
          ]
        ]
      ]
    where
      both : slice_index c 64 ≡ OPEN → slice_index c (64 + size) ≡ OPEN → 64 + size + 9 ≤ length c →
          OrDamage ((side : Side) × IsActive c size (slot_of size side) (slot_of size (other_side side)))
      both on open_too whole =
          let long = h.long in let m = number wide64 65 (omega (arith, whole)) in
          let n = number wide64 (64 + size + 1) (omega (arith, whole)) in
          elim (cases_lt m.0 n.0) [
            | inl lt ↦ inl (active size second
                (record {
                  there = omega (arith, long);
                  opened = open_too;
                  over =
                      inr (n.0, m.0, record { small = n.1; text = n.2 }, record { small = m.1; text = m.2 }, lt);
                }))
            | inr le ↦ elim (cases_lt n.0 m.0) [
              | inl lt ↦ inl (active size first
                  (record {
                    there = omega (arith, long);
                    opened = on;
                    over =
                        inr (m.0, n.0, record { small = m.1; text = m.2 }, record { small = n.1; text = n.2 }, lt);
                  }))
              | inr ge ↦ (let same : n.0 ≡ m.0 = omega (arith, le, ge) in
                  inr (
                    64 + size + 1,
                    in_front (in_slots size h
                        (equal on open_too m.0 (record { small = m.1; text = m.2 })
                        (record {
                          small = m.1;
                          text = subst (λ (k : ℕ). Holds c (64 + size + 1) (to_be_bytes w64 k)) same
                              n.2;
                        }) refl)),
                  ))
            ]
          ]

  -- ---- its head
  base_or : (at : ℕ) → ((base : ℕ) × HasBase c at base) ⊎ ((base : ℕ) → HasBase c at base → ⊥)
  base_or at = elim (cases_lt (length c) (at + 18)) [
    | inl short ↦ inr (λ b h. let long = h.text.long in omega (arith, long, short))
    | inr long ↦ (let n = number wide64 (at + 10) (omega (arith, long)) in elim (cases_lt n.0 (2 ^ 63)) [
      | inl small ↦ inl (n.0, record { text = n.2; small = small })
      | inr large ↦ inr (λ b h. let small = h.small in
          let same = number64_one c (at + 10) b n.0 h.text (omega (arith, small)) n.2 n.1 in
          omega (arith, same, small, large))
    ])
  ]

  length_or : (at size : ℕ) → size ≤ 2 ^ 30 → ((len : ℕ) × HasLength c at size len) ⊎ ((len : ℕ) → HasLength c at size len → ⊥)
  length_or at size le = elim (cases_lt (length c) (at + 22)) [
    | inl short ↦ inr (λ b h. let long = h.text.long in omega (arith, long, short))
    | inr long ↦ (let n = number wide32 (at + 18) (omega (arith, long)) in elim (cases_lt (size / 2) n.0) [
      | inl large ↦ inr (λ b h. let small = h.small in
          let same = number32_one c (at + 18) b n.0 h.text (omega (arith, small, le)) n.2 n.1 in
          omega (arith, same, small, large))
      | inr small ↦ inl (n.0, record { text = n.2; small = small })
    ])
  ]

  known_or : (version : ℕ) → IsVersion version ⊎ (IsVersion version → ⊥)
  known_or version = elim (cases_lt version FIRST_VERSION) [
    | inl lt ↦ inr (λ v. let least = v.least in omega (arith, least, lt))
    | inr least ↦ elim (cases_lt VERSION version) [
      | inl lt ↦ inr (λ v. let greatest = v.greatest in omega (arith, greatest, lt))
      | inr greatest ↦ inl (record { least = least; greatest = greatest })
    ]
  ]

  version_or : (at : ℕ) → ((version : ℕ) × HasVersion c at version) ⊎ ((version : ℕ) → HasVersion c at version → ⊥)
  version_or at = elim (cases_lt (length c) (at + 10)) [
    | inl short ↦ inr (λ version v. let long = v.long in omega (arith, long, short))
    | inr long ↦ elim (known_or (slice_index c (at + 9))) [
      | inl known ↦ inl (slice_index c (at + 9), record { long = long; is = refl; known = known })
      | inr none ↦ inr (λ version v. none (subst IsVersion (sym v.is) v.known))
    ]
  ]

  record Head (at size : ℕ) : Type 0 where
    version : ℕ
    generation : ℕ
    base : ℕ
    image : List ℕ
    head : IsHead c at size version generation base image
    bytes : IsBytes image

  head_or : (size : ℕ) (slot other : Slot) → IsHeader c size → IsActive c size slot other → OrDamage (Head slot.start size)
  head_or size slot other h a = by_fields (λ k broken. (k, in_front (in_head size slot other h a broken)))
    where
      at : ℕ
      at = slot.start

      by_fields : ((k : ℕ) → BreaksHead c at size k → (j : ℕ) × Damage j) → OrDamage (Head at size)
      by_fields damaged = elim (cases_lt (length c) (at + 9)) [
        | inl short ↦ inr (damaged (at + 1) (no_generation short refl))
        | inr there ↦ elim (version_or at) [
          | inr none ↦ inr (damaged (at + 9) (no_version there none refl))
          | inl v ↦ elim (base_or at) [
            | inr none ↦ inr (damaged (at + 10) (no_base v.0 v.1 none refl))
            | inl b ↦ elim (length_or at size h.allowed.greatest) [
              | inr none ↦ inr (damaged (at + 18) (faults.no_length v.0 b.0 v.1 b.1 none refl))
              | inl len ↦ elim (cases_lt (length c) (at + 22 + len.0)) [
                | inl short ↦ inr (damaged (at + 22) (no_image v.0 b.0 len.0 v.1 b.1 len.1 short refl))
                | inr long ↦ (let g = number wide64 (at + 1) (omega (arith, there)) in
                    let r = held_range c (at + 22) len.0 long in inl (record {
                      version = v.0;
                      generation = g.0;
                      base = b.0;
                      image = slice_range c (at + 22) (at + 22 + len.0);
                      head = record {
                        generation_is = record { small = g.1; text = g.2 };
                        version_is = v.1;
                        base_is =
                            b.1;
                        length_is = subst (λ (n : ℕ). HasLength c at size n) (sym r.1) len.1;
                        image_text = r.0;
                      };
                      bytes = range_bytes (at + 22) len.0 long;
                    }))
              ]
            ]
          ]
        ]
      ]

  -- ---- the image
  image_or : (size : ℕ) (slot other : Slot) → IsHeader c size → IsActive c size slot other → Head slot.start size →
      OrDamage ((s : Replayed) × (at : ℕ) × FoundFront BeginsWith c nothing_read s slot at)
  image_or size slot other h a d =
      elim (image_under d.base (size / 2) d.image) as
      (λ r. image_under d.base (size / 2) d.image ≡ r →
      OrDamage ((s : Replayed) × (at : ℕ) × FoundFront BeginsWith c nothing_read s slot at)) [
        | Ok es ↦ λ e. (let read = image_is d.base (size / 2) d.image es d.bytes e in
            let s : State = record { flags = fin.from_sorted es; revision = d.base; limit = size / 2 } in
            let is : fin.entries s.flags ≡ es = fin.entries-from_sorted bytes_cmp es (sorted_image es read.lawful.ascending) in
            let begun : IsImageOf d.base (size / 2) d.image s =
            image_stands d.base (size / 2) d.image s d.bytes
            (subst (λ (l : List (List ℕ × Flag)). image_under d.base (size / 2) d.image ≡ Ok l) (sym is) e) refl refl
            in
            let read : Replayed = record { version = d.version; set = s } in
            inl (
              read,
              slot.start + 22 + length d.image,
              record {
                size = size;
                other = other;
                version = d.version;
                generation = d.generation;
                base =
                    d.base;
                image = d.image;
                header = h;
                active = a;
                head = d.head;
                begun = (refl, begun);
                place = refl;
              },
            ))
        | Err k ↦ λ e. inr (
          slot.start + 22 + k,
          in_front (in_image size d.version d.generation d.base slot other d.image k h a d.head e refl),
        )
      ] refl

  -- ---- the batches
  module _ (most from stop : ℕ) (small : most < 2 ^ 32) (before : Replayed) where
    abbrev Reading : ℕ → Replayed → Type 0
    Reading at now = IsReading most from stop c before at now

    abbrev Stopped : Type 0
    Stopped = (k : ℕ) × StopsAt TakesBody RefusesBatch most from stop c before k

    abbrev Read : Type 0
    Read = (t : Replayed) × (end : ℕ) × FoundChain TakesBody most from stop c before t end

    next_or : (at : ℕ) (now : Replayed) → Reading at now → (Read ⊎ Stopped) ⊎ ((t : Replayed) × (next : ℕ) × (at < next) × Reading next t)
    next_or at now r = elim (cases_lt at (min stop (length c))) [
      | inr past ↦ inl (inr (at, reading_breaks most from stop c small before at now at r (no_gate past refl)))
      | inl lt ↦ elim (cases_eq (slice_index c at) OPEN) [
        | inr shut ↦ inl (inl (
          now,
          at,
          reading_all most from stop c small before at now r
              (record { within = omega (arith, lt); long = omega (arith, lt); shut = shut }),
        ))
        | inl on ↦ elim (cases_lt (min stop (length c)) (at + 5)) [
          | inl short ↦ inl (inr (at + 1, reading_breaks most from stop c small before at now (at + 1) r (no_length on lt short refl)))
          | inr long ↦ elim (cases_lt most (length_at c at)) [
            | inl wide ↦ inl (inr (at + 1, reading_breaks most from stop c small before at now (at + 1) r (too_long on long wide refl)))
            | inr few ↦ elim (cases_lt (min stop (length c)) (at + 5 + length_at c at)) [
              | inl short ↦ inl (inr (
                at + 5,
                reading_breaks most from stop c small before at now (at + 5) r (no_body on long few short refl),
              ))
              | inr whole ↦ body on (omega (arith, long)) few whole
            ]
          ]
        ]
      ]
    ]
      where
        body : slice_index c at ≡ OPEN → at + 5 ≤ length c → length_at c at ≤ most →
            at + 5 + length_at c at ≤ min stop (length c) →
            (Read ⊎ Stopped) ⊎ ((t : Replayed) × (next : ℕ) × (at < next) × Reading next t)
        body on long few whole =
            let n = number wide32 (at + 1) (omega (arith, long)) in
            let front : Holds c at (OPEN ∷ to_be_bytes w32 n.0) =
            holds_append c at (OPEN ∷ []) (to_be_bytes w32 n.0)
            (subst (λ (x : ℕ). Holds c at (x ∷ [])) on (holds_byte c at (omega (arith, long)))) n.2 in
            let len : length_at c at ≡ n.0 = length_held c at n.0 n.1 front in
            let within : at + 5 + n.0 ≤ length c = omega (arith, len, whole) in
            let held = held_range c (at + 5) n.0 within in let b = slice_range c (at + 5) (at + 5 + n.0) in
            let size : length b ≡ n.0 = held.1 in
            let link : IsNext most at stop b (at + 5 + length b) c = record {
              holds = holds_append c at (OPEN ∷ to_be_bytes w32 (length b)) b
                  (subst (λ (m : ℕ). Holds c at (OPEN ∷ to_be_bytes w32 m)) (sym size) front) held.0;
              short = omega (arith, size, len, few);
              place = refl;
              within = omega (arith, size, len, whole);
            } in
            elim (batch_onto now.version now.set b) as
            (λ x. batch_onto now.version now.set b ≡ x →
            (Read ⊎ Stopped) ⊎ ((t : Replayed) × (next : ℕ) × (at < next) × Reading next t)) [
              | Ok t ↦ λ e. let then : Replayed = record { version = now.version; set = t } in
                  inr (
                    then,
                    at + 5 + length b,
                    omega arith,
                    reading_more most from stop c small before at (at + 5 + length b) now then b r link
                        (refl, batch_is now.version now.set t b (range_bytes (at + 5) n.0 within) e),
                  )
              | Err k ↦ λ e. inl (inr (at + 5 + k, reading_refused most from stop c small before at (at + 5 + length b) now b k r link e))
            ] refl

    walk : (left at : ℕ) (now : Replayed) → length c ≤ at + left → Reading at now → Read ⊎ Stopped
    walk zero at now le r = inr (at, reading_breaks most from stop c small before at now at r (no_gate (omega (arith, le)) refl))
    walk (suc left) at now le r = elim (next_or at now r) [
      | inl done ↦ done
      | inr more ↦ (let lt = more.2 in walk left more.1 more.0 (omega (arith, le, lt)) more.3)
    ]

  batches_or : (s : Replayed) (slot : Slot) (at : ℕ) → FoundFront BeginsWith c nothing_read s slot at →
      OrDamage ((t : State) × StandsFor c t)
  batches_or s slot at f =
      let small = most_small c f.size slot f.other f.header f.active in let long = f.head.image_text.long in let place = f.place in
      elim (walk slot.most at slot.stop small s (length c) at s (omega arith)
      (record {
        bodies = [];
        read = read_none slot.most at slot.stop c (omega (arith, long, place));
        reads =
            refl;
      })) [
        | inr d ↦ inr (d.0, in_chain slot at s f d.1)
        | inl r ↦ inl (
          r.0.set,
          read_stands c f.size slot f.other r.0.set (record {
            version = f.version;
            generation = f.generation;
            base = f.base;
            image = f.image;
            first = s.set;
            batches = r.2.bodies;
            header = f.header;
            active = f.active;
            head = f.head;
            image_is = f.begun.1;
            chain = subst (λ (n : ℕ). IsChain slot.most n slot.stop r.2.bodies c) place r.2.chain;
            leads = subst (λ (v : ℕ). Reads (TakesBatch v) s.set r.2.bodies r.0.set) f.begun.0 (sets_read s r.0 r.2.bodies r.2.reads);
          }),
        )
      ]

  -- ---- the whole
  disk_or : IsFormatted c → slice_index c 9 ≡ 1 → OrDamage ((t : State) × StandsFor c t)
  disk_or f v =
      then_or (header_or f v) (λ h.
      then_or (slots_or h.0 h.1) (λ a. let slot = slot_of h.0 a.0 in let other = slot_of h.0 (other_side a.0) in
      then_or (head_or h.0 slot other h.1 a.1) (λ d.
      then_or (image_or h.0 slot other h.1 a.1 d) (λ i. batches_or i.0 slot i.1 i.2))))

set_or_fault : (c : List ℕ) → IsBytes c → ((s : State) × StandsFor c s) ⊎ ((f : OpenFault) × IsOfBytes f × RefusesBytes c f)
set_or_fault c fits = elim (formatted_or c fits) [
  | inr none ↦ inr (Unformatted, tt, none)
  | inl f ↦ elim (cases_eq (slice_index c 9) 1) [
    | inr other ↦ inr (UnknownVersion (slice_index c 9), tt, (f, refl, other))
    | inl v ↦ elim (disk_or c fits f v) [
      | inl found ↦ inl found
      | inr d ↦ inr (Damaged d.0, tt, d.1)
    ]
  ]
]

each_small : (c : List ℕ) → AreBytes c → IsBytes c
each_small c h i = elim (cases_lt i (length c)) [
  | inl here ↦ All-get_or IsByte c i 0 here h
  | inr past ↦ rw (get_or-eq_default c 0 past) (omega arith)
]

pub bytes_decided : (c : List ℕ) → AreBytes c → ((s : State) × StandsFor c s) ⊎ ((f : OpenFault) × IsOfBytes f × RefusesBytes c f)
bytes_decided c h = set_or_fault c (each_small c h)
