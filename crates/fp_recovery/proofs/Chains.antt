-- A chain of batches ends in one way: by the closed gate behind it, or at the place that is its first fault.
use Rattle.std.proofs.Common.{◌≡◌, ◌⊎◌, ◌<◌, ◌≤◌, ◌+◌, ◌^◌, ℕ, List, [], ◌∷◌, length, Result, Ok, Err, refl, sym, ap}
use Rattle.std.proofs.Common.{subst, ◌∙◌, inl, inr, arith, length-append, add-zero, min}
use Rattle.std.specs.Int.{w32, to_be_bytes}
use Rattle.fp_gate.specs.declared.gate.TheConstants.{OPEN}
use Rattle.fp_journal.specs.Chain.{with_length, spell}
use Rattle.fp_journal.specs.Holds.{Holds}
use Rattle.fp_journal.specs.Reading.{IsChain, IsClosed, IsNext, Breaks, no_gate, no_length, too_long, no_body, Reads, StopsAt, length_at}
use Rattle.fp_journal.specs.State.{AllShort}
use Rattle.fp_journal.proofs.Holds.{byte_held, holds_front, holds_back}
use Rattle.fp_journal.proofs.Links.{same_body, length_read}
use Rattle.fp_recovery.specs.Reading.{batch_onto}
use Rattle.fp_recovery.specs.Refusals.{RefusesBatch, Replayed, TakesBody}
use Rattle.fp_recovery.proofs.Parts.{body_one}
use Rattle.fp_recovery.proofs.Read.{batch_back, batch_within}

-- what is read isn't refused, and no two places are told
pub apart : {A : Type 0} (r : Result A ℕ) (x : A) (at : ℕ) → r ≡ Ok x → r ≡ Err at → ⊥
apart {A = A} r x at read refused = let both : Ok x ≡ Err at = sym read ∙ refused in absurd cc

pub err_is : {A : Type 0} (r : Result A ℕ) (j k : ℕ) → r ≡ Err j → r ≡ Err k → j ≡ k
err_is {A = A} r j k a b = let one : Result A ℕ = Err j in let two : Result A ℕ = Err k in let both : one ≡ two = sym a ∙ b in cc

module _ (most stop : ℕ) (c : List ℕ) where
  -- there is no link behind this gate, or the set refuses its body
  abbrev Stops : ℕ → Replayed → ℕ → Type 0
  Stops at s k = Breaks most stop c at k ⊎
      ((body : List ℕ) × (next : ℕ) × (offset : ℕ) × IsNext most at stop body next c × RefusesBatch s body offset ×
      (k ≡ at + 5 + offset))

  -- the gate is closed, and the set is what was read; or it stops there
  abbrev EndsBy : ℕ → Replayed → Result Replayed ℕ → Type 0
  EndsBy at s (Ok t) = IsClosed at stop c × (s ≡ t)
  EndsBy at s (Err k) = Stops at s k

  -- bodies that were read from here on, none of them past the stop
  record AreHere (at : ℕ) (bodies : List (List ℕ)) (s t : Replayed) : Type 0 where
    holds : Holds c at (spell bodies)
    short : AllShort most bodies
    within : (at + length (spell bodies) ≡ at) ⊎ (at + length (spell bodies) ≤ stop)
    reads : Reads TakesBody s bodies t

  -- and how it ends behind them
  pub record Ending (at : ℕ) (s : Replayed) (out : Result Replayed ℕ) : Type 0 where
    bodies : List (List ℕ)
    last : Replayed
    here : AreHere at bodies s last
    end : EndsBy (at + length (spell bodies)) last out

  pub stop_ending : (at : ℕ) (s : Replayed) (k : ℕ) → StopsAt TakesBody RefusesBatch most at stop c s k → Ending at s (Err k)
  stop_ending at s k h = record {
    bodies = h.bodies;
    last = h.last;
    here = record { holds = h.holds; short = h.short; within = subst (λ (n : ℕ). (n ≡ at) ⊎ (n ≤ stop)) h.place h.within; reads = h.reads };
    end = subst (λ (n : ℕ). Stops n h.last k) h.place h.fault;
  }

  pub chain_ending : (at : ℕ) (s t : Replayed) (bodies : List (List ℕ)) → IsChain most at stop bodies c →
      Reads TakesBody s bodies t → Ending at s (Ok t)
  chain_ending at s t bodies h reads =
      let e = h.ends in let w = e.within in let long = e.holds.long in let len = length-append (spell bodies) (e.gate ∷ []) in
      let gate = byte_held c (at + length (spell bodies)) e.gate [] (holds_back c at (spell bodies) (e.gate ∷ []) e.holds) in
      record {
        bodies = bodies;
        last = t;
        here = record {
          holds = holds_front c at (spell bodies) (e.gate ∷ []) e.holds;
          short = h.short;
          within =
              inr (omega (arith, w));
          reads = reads;
        };
        end = (record { within = omega (arith, w); long = omega (arith, long, len); shut = λ is. e.shut (sym gate ∙ is) }, refl);
      }

module _ (most stop : ℕ) (c : List ℕ) (small : most < 2 ^ 32) where
  -- the link behind a gate, by its length
  next_long : (at next : ℕ) (b : List ℕ) → IsNext most at stop b next c → (length_at c at ≡ length b) ×
      (length b ≤ most) × (at + 5 + length b ≤ length c) × (at + 5 + length b ≤ stop)
  next_long at next b n =
      let fits = n.short in let long = n.holds.long in let within = n.within in let place = n.place in
      let len : length (with_length b) ≡ 4 + length b = length-append (to_be_bytes w32 (length b)) b in
      (length_read c at b n.holds (omega (arith, fits, small)), fits, omega (arith, long, len), omega (arith, within, place))

  next_sound : (at next k : ℕ) (b : List ℕ) → IsNext most at stop b next c → Breaks most stop c at k → ⊥
  next_sound at next k b n (no_gate le is) = let l = next_long at next b n in let x = l.2 in let y = l.3 in omega (arith, x, y, le)
  next_sound at next k b n (no_length o lt short is) = let l = next_long at next b n in let x = l.2 in let y = l.3 in
      omega (arith, x, y, short)
  next_sound at next k b n (too_long o le long is) = let l = next_long at next b n in let w = l.0 in let f = l.1 in
      omega (arith, w, f, long)
  next_sound at next k b n (no_body o le fits short is) = let l = next_long at next b n in let w = l.0 in
      let x = l.2 in let y = l.3 in omega (arith, w, x, y, short)

  closed_sound : (at k : ℕ) → IsClosed at stop c → Breaks most stop c at k → ⊥
  closed_sound at k shut (no_gate le is) = let w = shut.within in let long = shut.long in omega (arith, w, long, le)
  closed_sound at k shut (no_length o lt short is) = shut.shut o
  closed_sound at k shut (too_long o le long is) = shut.shut o
  closed_sound at k shut (no_body o le fits short is) = shut.shut o

  -- where the first fault is, by what comes before it
  breaks_place : (at k : ℕ) → Breaks most stop c at k → (min stop (length c) ≤ at → k ≡ at) ×
      (at < min stop (length c) → min stop (length c) < at + 5 → k ≡ at + 1)
      × (at + 5 ≤ min stop (length c) → most < length_at c at → k ≡ at + 1) ×
      (at + 5 ≤ min stop (length c) → length_at c at ≤ most → k ≡ at + 5)
  breaks_place at k (no_gate le is) = (λ a. is, λ a b. omega (arith, a, le), λ a b. omega (arith, a, le), λ a b. omega (arith, a, le))
  breaks_place at k (no_length o lt s is) = (λ a. omega (arith, a, lt), λ a b. is, λ a b. is, λ a b. omega (arith, a, s))
  breaks_place at k (too_long o fits long is) = (λ a. omega (arith, a, fits), λ a b. is, λ a b. is, λ a b. omega (arith, b, long))
  breaks_place at k (no_body o fits f s is) =
      (λ a. omega (arith, a, fits), λ a b. omega (arith, b, fits), λ a b. omega (arith, b, f), λ a b. is)

  breaks_one : (at j k : ℕ) → Breaks most stop c at j → Breaks most stop c at k → j ≡ k
  breaks_one at j k p (no_gate le is) = (breaks_place at j p).0 le ∙ sym is
  breaks_one at j k p (no_length o lt s is) = (breaks_place at j p).1 lt s ∙ sym is
  breaks_one at j k p (too_long o fits long is) = (breaks_place at j p).2 fits long ∙ sym is
  breaks_one at j k p (no_body o fits f s is) = (breaks_place at j p).3 fits f ∙ sym is

  same_next : (at next next' : ℕ) (a b : List ℕ) → IsNext most at stop a next c → IsNext most at stop b next' c → a ≡ b
  same_next at next next' a b p q = let x = p.short in let y = q.short in
      same_body c at a b p.holds (omega (arith, x, small)) q.holds (omega (arith, y, small))

  shut_sound : (at k : ℕ) (s : Replayed) → IsClosed at stop c → Stops most stop c at s k → ⊥
  shut_sound at k s shut (inl p) = closed_sound at k shut p
  shut_sound at k s shut (inr p) = shut.shut (byte_held c at OPEN (with_length p.0) p.3.holds)

  ends_one : (at : ℕ) (s : Replayed) (a b : Result Replayed ℕ) → EndsBy most stop c at s a → EndsBy most stop c at s b → a ≡ b
  ends_one at s (Ok t) (Ok u) p q = ap (λ (x : Replayed). let r : Result Replayed ℕ = Ok x in r) (sym p.1 ∙ q.1)
  ends_one at s (Ok t) (Err k) p q = absurd (shut_sound at k s p.0 q)
  ends_one at s (Err k) (Ok t) p q = absurd (shut_sound at k s q.0 p)
  ends_one at s (Err j) (Err k) p q = ap (λ (n : ℕ). let r : Result Replayed ℕ = Err n in r) (stops_one p q)
    where
      stops_one : Stops most stop c at s j → Stops most stop c at s k → j ≡ k
      stops_one (inl p) (inl q) = breaks_one at j k p q
      stops_one (inl p) (inr q) = absurd (next_sound at q.1 j q.0 q.3 p)
      stops_one (inr p) (inl q) = absurd (next_sound at p.1 k p.0 p.3 q)
      stops_one (inr p) (inr q) =
          let same = same_next at p.1 q.1 p.0 q.0 p.3 q.3 in
          let refused : batch_onto s.version s.set q.0 ≡ Err p.2 =
          subst (λ (b : List ℕ). batch_onto s.version s.set b ≡ Err p.2) same p.4 in
          p.5 ∙ ap (λ (n : ℕ). at + 5 + n) (err_is (batch_onto s.version s.set q.0) p.2 q.2 refused q.4) ∙ sym q.5

  ends_taken : (at next : ℕ) (s t : Replayed) (a : Result Replayed ℕ) (b : List ℕ) → EndsBy most stop c at s a →
      IsNext most at stop b next c → TakesBody s b t → ⊥
  ends_taken at next s t (Ok u) b p n takes = p.0.shut (byte_held c at OPEN (with_length b) n.holds)
  ends_taken at next s t (Err k) b (inl p) n takes = next_sound at next k b n p
  ends_taken at next s t (Err k) b (inr p) n takes =
      let same = same_next at p.1 next p.0 b p.3 n in
      apart (batch_onto s.version s.set b) t.set p.2 (batch_back s.version s.set t.set b takes.1)
      (subst (λ (x : List ℕ). batch_onto s.version s.set x ≡ Err p.2) same p.4)

  -- the first of them, and the others
  record FirstOf (at : ℕ) (b : List ℕ) (bs : List (List ℕ)) (s t : Replayed) : Type 0 where
    middle : Replayed
    taken : TakesBody s b middle
    link : IsNext most at stop b (at + 5 + length b) c
    others : AreHere most stop c (at + 5 + length b) bs middle t
    end : at + length (spell (b ∷ bs)) ≡ at + 5 + length b + length (spell bs)

  first_of : (at : ℕ) (b : List ℕ) (bs : List (List ℕ)) (s t : Replayed) → AreHere most stop c at (b ∷ bs) s t → FirstOf at b bs s t
  first_of at b bs s t h =
      let len : length (with_length b) ≡ 4 + length b = length-append (to_be_bytes w32 (length b)) b in
      let all = length-append (with_length b) (spell bs) in
      let end : at + length (spell (b ∷ bs)) ≡ at + 5 + length b + length (spell bs) = omega (arith, len, all) in
      let fits : at + 5 + length b + length (spell bs) ≤ stop = elim h.within [
        | inl is ↦ absurd (omega (arith, is, end))
        | inr le ↦ omega (arith, le, end)
      ] in
      let place : at + length (OPEN ∷ with_length b) ≡ at + 5 + length b = omega (arith, len) in
      let r = h.reads in
      record {
        middle = r.0;
        taken = r.1;
        link = record {
          holds = holds_front c at (OPEN ∷ with_length b) (spell bs) h.holds;
          short =
              h.short.0;
          place = refl;
          within = omega (arith, fits);
        };
        others = record {
          holds = subst (λ (k : ℕ). Holds c k (spell bs)) place
              (holds_back c at (OPEN ∷ with_length b) (spell bs) h.holds);
          short = h.short.1;
          within =
              inr fits;
          reads = r.2;
        };
        end = end;
      }

  ends_first : (at : ℕ) (s u v : Replayed) (a : Result Replayed ℕ) (y : List ℕ) (ys : List (List ℕ)) →
      AreHere most stop c at [] s u → EndsBy most stop c (at + 0) u a → AreHere most stop c at (y ∷ ys) s v → ⊥
  ends_first at s u v a y ys h p g =
      let f = first_of at y ys s v g in
      ends_taken at (at + 5 + length y) s f.middle a y
      (subst (λ (n : ℕ). EndsBy most stop c n s a) (add-zero at)
      (subst (λ (z : Replayed). EndsBy most stop c (at + 0) z a) (sym h.reads) p)) f.link f.taken

  ends_all : (xs ys : List (List ℕ)) (at : ℕ) (s u v : Replayed) (a b : Result Replayed ℕ) →
      AreHere most stop c at xs s u → EndsBy most stop c (at + length (spell xs)) u a →
      AreHere most stop c at ys s v → EndsBy most stop c (at + length (spell ys)) v b → a ≡ b
  ends_all [] [] at s u v a b h p g q =
      ends_one (at + 0) s a b (subst (λ (z : Replayed). EndsBy most stop c (at + 0) z a) (sym h.reads) p)
      (subst (λ (z : Replayed). EndsBy most stop c (at + 0) z b) (sym g.reads) q)
  ends_all [] (y ∷ ys) at s u v a b h p g q = absurd (ends_first at s u v a y ys h p g)
  ends_all (x ∷ xs) [] at s u v a b h p g q = absurd (ends_first at s v u b x xs g q h)
  ends_all (x ∷ xs) (y ∷ ys) at s u v a b h p g q =
      let f = first_of at x xs s u h in
      let k = first_of at y ys s v g in
      let same = same_next at (at + 5 + length x) (at + 5 + length y) x y f.link k.link in
      let middle : f.middle ≡ k.middle =
      body_one s f.middle k.middle y (subst (λ (z : List ℕ). TakesBody s z f.middle) same f.taken) k.taken in
      let others : AreHere most stop c (at + 5 + length y) xs k.middle u =
      subst (λ (m : Replayed). AreHere most stop c (at + 5 + length y) xs m u) middle
      (subst (λ (z : List ℕ). AreHere most stop c (at + 5 + length z) xs f.middle u) same f.others) in
      let end = f.end ∙ ap (λ (z : List ℕ). at + 5 + length z + length (spell xs)) same in
      ends_all xs ys (at + 5 + length y) k.middle u v a b others (subst (λ (n : ℕ). EndsBy most stop c n u a) end p)
      k.others (subst (λ (n : ℕ). EndsBy most stop c n v b) k.end q)

  pub one_ending : (at : ℕ) (s : Replayed) (a b : Result Replayed ℕ) → Ending most stop c at s a → Ending most stop c at s b → a ≡ b
  one_ending at s a b p q = ends_all p.bodies q.bodies at s p.last q.last a b p.here p.end q.here q.end

  pub stops_within : (at : ℕ) (s : Replayed) (k : ℕ) → at ≤ length c → StopsAt TakesBody RefusesBatch most at stop c s k → k ≤ length c
  stops_within at s k le h = let long = h.holds.long in let place = h.place in by_fault (omega (arith, long, place)) h.fault
    where
      by_fault : h.gate ≤ length c → Stops most stop c h.gate h.last k → k ≤ length c
      by_fault there (inl (no_gate less is)) = omega (arith, there, is)
      by_fault there (inl (no_length o lt s is)) = omega (arith, lt, is)
      by_fault there (inl (too_long o fits long is)) = omega (arith, fits, is)
      by_fault there (inl (no_body o fits f s is)) = omega (arith, fits, is)
      by_fault there (inr f) =
          let l = (next_long h.gate f.1 f.0 f.3).2 in let inside = batch_within h.last.version h.last.set f.0 f.2 f.4 in let is = f.5 in
          omega (arith, l, inside, is)
