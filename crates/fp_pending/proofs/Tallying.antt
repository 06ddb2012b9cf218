-- What a change makes of the numbers of a set.
use Rattle.std.proofs.Common.{◌≡◌, ◌<◌, ◌≤◌, ◌+◌, ◌*◌, ◌^◌, ℕ, zero, suc, Bool}
use Rattle.std.proofs.Common.{true, false, true≢false, ◌||◌, List, [], ◌∷◌, ◌++◌, length, map, take, get_or}
use Rattle.std.proofs.Common.{Option, None, Some, refl, sym, ap, subst, ◌∙◌, arith}
use Rattle.std.specs.Prelude.{MatchOption, option_map}
use Rattle.std.specs.FinMap as fin
use Rattle.std.proofs.lemmas.Bool.{and_from, and_parts, or_parts}
use Rattle.std.proofs.lemmas.List.{take_all}
use Rattle.std.proofs.Math.Bool.{or_assoc, or_comm}
use Rattle.fp_base.proofs.Turns.{take-here}
use Rattle.fp_edit.specs.Admits.{can_change, changed_at, flags_after, has_revision, has_room, is_as_expected}
use Rattle.fp_edit.specs.Admits.{next, part_after, parts_after}
use Rattle.fp_edit.specs.Edits.{Change, parts}
use Rattle.fp_edit.specs.Flags.{Flags, State, cost_found, one_found, size}
use Rattle.fp_edit.specs.Following.{unconditional}
use Rattle.fp_pending.specs.Tallies.{IsTallyOf, Judges}
use Rattle.fp_edit.specs.Lent.{left_at}
use Rattle.fp_edit.specs.Parts.{Part, any_put, delete, free, is_put, part_key, put}
use Rattle.fp_documents.specs.declared.flags.Flag.{Flag}
use Rattle.fp_pending.specs.declared.tally.Tally.{Tally}
use Rattle.fp_edit.proofs.Followed.{AreExpected, change-unconditional, keys_expected, met, passes}
use Rattle.fp_edit.proofs.Parts.{count-part, parts_after-more, size-part}

-- ---- what is accepted, by the numbers
-- whether a deletion finds a flag
deletes : (k : List ℕ) (o : Option Flag) → 0 < cost_found k o → can_change (delete k) (option_map (λ (f : Flag). f.changed) o) ≡ true
deletes k None some = absurd (omega (arith, some))
deletes k (Some f) some = refl

deletes_none : (k : List ℕ) (o : Option Flag) → cost_found k o ≡ 0 → can_change (delete k) (option_map (λ (f : Flag). f.changed) o) ≡ false
deletes_none k None none = refl
deletes_none k (Some f) none = absurd (omega (arith, none))

-- whether a part can be made, by what its key takes
module _ (s : State) (found : ℕ) where
  pub can_be : (p : Part) → found ≡ cost_found (part_key p) (fin.get s.flags (part_key p)) →
      (is_put p ≡ false → 0 < found) → is_as_expected s (free p) ≡ true
  can_be (put k text) found_is some = refl
  can_be (delete k) found_is some = and_from _ _ (deletes k (fin.get s.flags k) (subst (λ (n : ℕ). 0 < n) found_is (some refl))) refl

  pub cannot_be : (p : Part) → found ≡ cost_found (part_key p) (fin.get s.flags (part_key p)) → is_put p ≡ false →
      found ≡ 0 → is_as_expected s (free p) ≡ true → ⊥
  cannot_be (put k text) found_is gone none expected = cc
  cannot_be (delete k) found_is gone none expected =
      true≢false (sym (and_parts (can_change (delete k) (changed_at s k)) true expected).0 ∙
      deletes_none k (fin.get s.flags k) (sym found_is ∙ none))

-- ---- the parts of an edit, one by one
any_put-last : (ps : List Part) (p : Part) → any_put (ps ++ p ∷ []) ≡ (any_put ps || is_put p)
any_put-last [] p = or_comm (is_put p) false
any_put-last (x ∷ ps) p = ap (λ (b : Bool). is_put x || b) (any_put-last ps p) ∙ sym (or_assoc (is_put x) (any_put ps) (is_put p))

free_last : (s : State) (ps : List Part) (p : Part) → AreExpected s (map free ps) →
    is_as_expected s (free p) ≡ true → AreExpected s (map free (ps ++ p ∷ []))
free_last s [] p all here = (here, tt)
free_last s (x ∷ ps) p all here = (all.0, free_last s ps p all.1 here)

pub free_at : (s : State) (ps : List Part) (i : ℕ) (p : Part) → i < length ps → p ≡ get_or ps i p →
    AreExpected s (map free ps) → is_as_expected s (free p) ≡ true
free_at s [] i p within is all = absurd (omega (arith, within))
free_at s (x ∷ ps) zero p within is all = rw is all.0
free_at s (x ∷ ps) (suc i) p within is all = free_at s ps i p (omega (arith, within)) is all.1

left_none : (r : ℕ) (p : Part) → is_put p ≡ false → left_at r p ≡ None
left_none r (put k text) h = absurd cc
left_none r (delete k) h = refl

-- the sums after the first parts, each of which can be made
pub record Underway (s : State) (ps : List Part) (i count bytes : ℕ) : Type 0 where
  pub count_is : count ≡ fin.len (parts_after (s.revision + 1) s.flags (take i ps))
  pub size_is : bytes ≡ size (parts_after (s.revision + 1) s.flags (take i ps))
  pub expected : AreExpected s (map free (take i ps))
  pub few : count ≤ fin.len s.flags + i
  pub short : bytes ≤ size s.flags + 2 ^ 66 * i
  pub less : any_put (take i ps) ≡ false → (count ≤ fin.len s.flags) × (bytes ≤ size s.flags)

-- and after one more
module _ (s : State) (ps : List Part) (i : ℕ) (p : Part) (within : i < length ps) (is : p ≡ get_or ps i p)
    {count bytes : ℕ} (u : Underway s ps i count bytes) where
  abbrev Before : Flags
  Before = parts_after (s.revision + 1) s.flags (take i ps)

  abbrev Then : Flags
  Then = part_after (s.revision + 1) Before p

  no_more : is_put p ≡ false → (fin.len Then ≤ count) × (size Then ≤ bytes)
  no_more none =
      let counts = count-part (s.revision + 1) Before p in
      let sizes = size-part (s.revision + 1) Before p in
      let no_count = ap one_found (left_none (s.revision + 1) p none) in
      let no_cost = ap (cost_found (part_key p)) (left_none (s.revision + 1) p none) in
      let count_is = u.count_is in
      let size_is = u.size_is in (omega (arith, counts, no_count, count_is), omega (arith, sizes, no_cost, size_is))

  pub goes_on : (n m : ℕ) → is_as_expected s (free p) ≡ true → n ≡ fin.len Then → m ≡ size Then →
      (n ≤ count + 1) × (m ≤ bytes + 2 ^ 66) → Underway s ps (i + 1) n m
  goes_on n m expected count_is size_is grown =
      let more : take (i + 1) ps ≡ take i ps ++ p ∷ [] = take-here ps i p within is in
      let after : parts_after (s.revision + 1) s.flags (take (i + 1) ps) ≡ Then =
      parts_after-more ps i p within is (s.revision + 1) s.flags in
      let few = u.few in
      let short = u.short in
      let n_grown = grown.0 in
      let m_grown = grown.1 in record {
        count_is = count_is ∙ sym (ap (λ (m : Flags). fin.len m) after);
        size_is = size_is ∙ sym (ap size after);
        expected = subst (λ (qs : List Part). AreExpected s (map free qs)) (sym more) (free_last s (take i ps) p u.expected expected);
        few = omega (arith, few, n_grown);
        short = omega (arith, short, m_grown);
        less = λ unbound.
            let both = or_parts (any_put (take i ps)) (is_put p) (sym (ap any_put more ∙ any_put-last (take i ps) p) ∙ unbound) in
            let was = u.less both.0 in
            let now = no_more both.1 in
            let count_was = was.0 in
            let size_was = was.1 in
            let count_now = now.0 in
            let size_now = now.1 in (omega (arith, count_was, count_now, count_is), omega (arith, size_was, size_now, size_is));
      }

-- after all of them
module _ (s : State) (c : Change) {i count bytes : ℕ}
    (u : Underway s (parts c) i count bytes) (ended : length (parts c) ≤ i) where
  abbrev ps : List Part
  ps = parts c

  pub count_all : count ≡ fin.len (flags_after s c)
  count_all = u.count_is ∙ ap (λ (qs : List Part). fin.len (parts_after (s.revision + 1) s.flags qs)) (take_all i ps ended)

  pub size_all : bytes ≡ size (flags_after s c)
  size_all = u.size_is ∙ ap (λ (qs : List Part). size (parts_after (s.revision + 1) s.flags qs)) (take_all i ps ended)

  expected_all : AreExpected s (map free ps)
  expected_all = subst (λ (qs : List Part). AreExpected s (map free qs)) (take_all i ps ended) u.expected

  -- what is left to be judged
  pub judged_all : (o : Option Tally) →
      MatchOption o (has_room s c ≡ true → has_revision s ≡ true → ⊥)
      (λ t. (has_room s c ≡ true) × (has_revision s ≡ true) × IsTallyOf t (next s c))
      → Judges s c o
  judged_all None never = λ accepted. let all = met s (unconditional c) accepted in
      never (ap (has_room s) (sym (change-unconditional c)) ∙ all.1) all.2
  judged_all (Some t) now = (
    passes s (unconditional c) (keys_expected s c expected_all)
        (ap (has_room s) (change-unconditional c) ∙ now.0) now.1,
    now.2,
  )
