-- What every outcome has is firm.
use Rattle.std.proofs.Common.{◌≡◌, ◌≢◌, inl, inr, ℕ, ◌+◌, ◌-◌, ◌<◌, ◌≤◌, List, [], ◌∷◌, ◌++◌, length, sym, ◌∙◌, ap}
use Rattle.std.proofs.Common.{subst, arith, length-append, slice_index, slice_set, take}
use Rattle.std.proofs.lemmas.Grind.{common_steps}
use Rattle.std.proofs.lemmas.Bool.{cases_lt}
use Rattle.std.proofs.lemmas.List.{append_assoc, get_or_append_left}
use Rattle.std.proofs.lemmas.List.Elements.{All-set, All-take}
use Rattle.fp_disk.specs.Outcomes.{PendingState, IsOutcome, IsByte, Covers}
use Rattle.fp_gate.specs.Gates.{IsShut, StaysAsRead}
use Rattle.fp_journal.specs.Holds.{Holds}
use Rattle.fp_journal.specs.Chain.{Ends}
use Rattle.fp_journal.specs.State.{EndsClosed, IsDurable}
use Rattle.fp_journal.proofs.Holds.{holds_back, byte_held, firm_outcome}
use Rattle.fp_journal.proofs.Gates.{quiet_outcome}
use Rattle.fp_gate.specs.declared.gate.TheConstants.{OPEN}

length_put : (xs : List ℕ) (at x : ℕ) → length (slice_set xs at x) ≡ length xs
length_put xs at x = grind (arith, common_steps)

put_there : (xs : List ℕ) (at x : ℕ) → at < length xs → slice_index (slice_set xs at x) at ≡ x
put_there xs at x there = grind (arith, common_steps)

put_elsewhere : (xs : List ℕ) (at k x : ℕ) → (k ≡ at → ⊥) → slice_index (slice_set xs at x) k ≡ slice_index xs k
put_elsewhere xs at k x other = grind (arith, common_steps)

front_place : (n : ℕ) (xs : List ℕ) (k : ℕ) → k < n → slice_index (take n xs) k ≡ slice_index xs k
front_place n xs k lt = grind (arith, common_steps)

module _ (u : PendingState) (b : List ℕ) (present : IsOutcome u b) where
  -- what a read gives, as far as the last sync reached
  abbrev cut : List ℕ
  cut = take (length u.synced) b

  cut_long : length cut ≡ length u.synced
  cut_long = let a = present.no_shorter in grind (arith, common_steps)

  cut_kept : (k : ℕ) → k < length u.synced → (Covers u.ranges k → ⊥) → slice_index cut k ≡ slice_index u.synced k
  cut_kept k lt out = front_place (length u.synced) b k lt ∙ present.kept k lt out

  cut_outcome : IsOutcome u cut
  cut_outcome = let len = cut_long in let a = present.no_shorter in let z = present.no_longer in record {
    bytes = All-take IsByte (length u.synced) b present.bytes;
    no_shorter = omega (arith, len);
    no_longer = omega (arith, len, a, z);
    kept = cut_kept;
  }

  -- at a place that was written since stands any byte
  put_outcome : (k x : ℕ) → Covers u.ranges k → IsByte x → IsOutcome u (slice_set cut k x)
  put_outcome k x covers byte = let len = length_put cut k x in let o = cut_outcome in let a = o.no_shorter in
      let z = o.no_longer in record {
        bytes = All-set IsByte cut k x byte o.bytes;
        no_shorter = omega (arith, len, a);
        no_longer = omega (arith, len, z);
        kept = λ j lt out. put_elsewhere cut k j x
            (λ same. out (subst (λ (i : ℕ). Covers u.ranges i) (sym same) covers)) ∙ cut_kept j lt out;
      }

  module _ (at stop : ℕ) (text : List ℕ) (all : (c : List ℕ) → IsOutcome u c → Ends at stop text c) where
    there : at + length text < length cut
    there = let e = all cut cut_outcome in let long = e.holds.long in let len = length-append text (e.gate ∷ []) in omega (arith, long, len)

    text_kept : (k : ℕ) → at ≤ k → k - at < length text → Covers u.ranges k → ⊥
    text_kept k le lt covers =
        let x : ℕ = 1 - slice_index text (k - at) in let c : List ℕ = slice_set cut k x in
        let e = all c (put_outcome k x covers (omega arith)) in
        let here : at + (k - at) ≡ k = omega (arith, le) in let len = length-append text (e.gate ∷ []) in
        let put : slice_index c k ≡ x = put_there cut k x (omega (arith, there, le, lt)) in
        let held : slice_index c k ≡ slice_index text (k - at) = ap (λ (j : ℕ). slice_index c j) (sym here) ∙
        e.holds.same (k - at) (omega (arith, len, lt)) ∙ get_or_append_left text (e.gate ∷ []) 0 (k - at) lt in
        omega (arith, sym put ∙ held)

    gate_kept : Covers u.ranges (at + length text) → ⊥
    gate_kept covers =
        let c : List ℕ = slice_set cut (at + length text) OPEN in
        let e = all c (put_outcome (at + length text) OPEN covers (omega arith)) in
        e.shut (sym (byte_held c (at + length text) e.gate [] (holds_back c at text (e.gate ∷ []) e.holds)) ∙
        put_there cut (at + length text) OPEN there)

    untouched : (k : ℕ) → at ≤ k → k < at + (length text + 1) → Covers u.ranges k → ⊥
    untouched k le lt covers = elim (cases_lt (k - at) (length text)) [
      | inl inside ↦ text_kept k le inside covers
      | inr last ↦ let is : k ≡ at + length text = omega (arith, le, lt, last) in gate_kept (subst (λ (j : ℕ). Covers u.ranges j) is covers)
    ]

    pub ends_firm : EndsClosed at stop text u
    ends_firm = let e = all cut cut_outcome in let len = length-append text (e.gate ∷ []) in
        let long = e.holds.long in let same_long = cut_long in record {
          gate = e.gate;
          shut = e.shut;
          firm = record {
            holds = record {
              long = omega (arith, long, same_long);
              same = λ k lt. sym (cut_kept (at + k) (omega (arith, long, same_long, lt))
                  (untouched (at + k) (omega arith) (omega (arith, len, lt)))) ∙ e.holds.same k lt;
            };
            untouched = λ k le lt. untouched k le (omega (arith, len, lt));
          };
          within = e.within;
        }

-- ---- the gate behind a text
pub ends_shut : (start stop : ℕ) (text c : List ℕ) → Ends start stop text c → (start + length text < length c) ×
    (slice_index c (start + length text) ≢ OPEN)
ends_shut start stop text c e = let long = e.holds.long in let len = length-append text (e.gate ∷ []) in (
  omega (arith, long, len),
  λ is. e.shut
      (sym (byte_held c (start + length text) e.gate [] (holds_back c start text (e.gate ∷ []) e.holds)) ∙ is),
)

pub ends_open : (start stop : ℕ) (text more c : List ℕ) → Ends start stop (text ++ OPEN ∷ more) c →
    (start + length text < length c) × (slice_index c (start + length text) ≡ OPEN)
ends_open start stop text more c e =
    let all : Holds c start (text ++ (OPEN ∷ (more ++ e.gate ∷ []))) =
    subst (λ (t : List ℕ). Holds c start t) (append_assoc text (OPEN ∷ more) (e.gate ∷ [])) e.holds in
    let back = holds_back c start text (OPEN ∷ (more ++ e.gate ∷ [])) all in let long = back.long in
    (omega (arith, long), byte_held c (start + length text) OPEN (more ++ e.gate ∷ []) back)

module _ (start stop : ℕ) (text : List ℕ) (u : PendingState) where
  pub quiet_shut : EndsClosed start stop text u → IsShut u (start + length text)
  quiet_shut q = λ c o. ends_shut start stop text c (quiet_outcome start stop text u c q o)

  -- what lies behind it, with a closed gate, stays as it is read
  pub sure_stays : (more b : List ℕ) → IsDurable start stop text more u → IsOutcome u b →
      StaysAsRead u b (start + length text + 1) (start + length text + 1 + (length more + 1))
  sure_stays more b r present = λ c o k le lt.
      let at : ℕ = start + length text + 1 in let len = length-append more (r.gate ∷ []) in
      let here : at + (k - at) ≡ k = omega (arith, le) in
      let p : Holds c at (more ++ r.gate ∷ []) = firm_outcome u at (more ++ r.gate ∷ []) c r.firm o in
      let q : Holds b at (more ++ r.gate ∷ []) = firm_outcome u at (more ++ r.gate ∷ []) b r.firm present in
      let long = p.long in let inside : k - at < length (more ++ r.gate ∷ []) = omega (arith, len, le, lt) in (
        omega (arith, long, len, lt),
        ap (λ (j : ℕ). slice_index c j) (sym here) ∙ p.same (k - at) inside ∙
            sym (q.same (k - at) inside) ∙ ap (λ (j : ℕ). slice_index b j) here,
      )
