-- Where an edit is wrong that a set doesn't accept: within the edit.
use Rattle.std.proofs.Common.{◌≡◌, ◌+◌, ◌≤◌, ◌<◌, ℕ, suc, Bool, true, false, List, [], ◌∷◌, ◌++◌, length, map, Option}
use Rattle.std.proofs.Common.{Some, refl, subst, arith}
use Rattle.std.proofs.lemmas.List.{length-map}
use Rattle.std.proofs.lemmas.List.Sums.{sum_by-take-le}
use Rattle.fp_base.specs.Tests.{first_failed}
use Rattle.fp_edit.specs.Admits.{IsRefused, has_revision, has_room, is_as_expected, keys_from, present, refusal}
use Rattle.fp_edit.specs.Changes.{part_len, set_len}
use Rattle.fp_edit.specs.Edits.{Change, one, set, parts, change_in, Proposal}
use Rattle.fp_edit.specs.Flags.{State}
use Rattle.fp_edit.specs.Following.{unconditional}
use Rattle.fp_edit.specs.Parts.{Part, ProposedPart, free}
use Rattle.fp_edit.specs.declared.edit.EditFault.{EditFault}
use Rattle.fp_edit.specs.declared.edit.EditFault.TheVariants.{Conflict, ConflictIn, SetTooLarge, RevisionsUsed, Memory}
use Rattle.fp_recovery.specs.Reading.{wrong_at}
use Rattle.fp_recovery.proofs.Reach.{Reaches}

-- ---- conflicts in a set
abbrev Failed : Bool × EditFault → Bool × EditFault → List (Bool × EditFault) → EditFault → Type 0
Failed room revision keys fault = first_failed (keys ++ room ∷ revision ∷ []) ≡ Some fault

-- the other tests find none
not_in_rest : (b c : Bool) (k : ℕ) (current : Option ℕ) → Failed (b, SetTooLarge) (c, RevisionsUsed) [] (ConflictIn k current) → ⊥
not_in_rest true true k current e = absurd cc
not_in_rest true false k current e = absurd cc
not_in_rest false c k current e = absurd cc

-- nor does the one of a single key
not_in_one : (a b c : Bool) (found : Option ℕ) (k : ℕ) (current : Option ℕ) →
    Failed (b, SetTooLarge) (c, RevisionsUsed) ((a, Conflict found) ∷ []) (ConflictIn k current) → ⊥
not_in_one true b c found k current e = not_in_rest b c k current e
not_in_one false b c found k current e = absurd cc

place_below : (s : State) (b c : Bool) (at : ℕ) (ps : List ProposedPart) (k : ℕ) (current : Option ℕ) →
    Failed (b, SetTooLarge) (c, RevisionsUsed) (keys_from s at ps) (ConflictIn k current) → k < at + length ps
place_below s b c at [] k current e = absurd (not_in_rest b c k current e)
place_below s b c at (p ∷ ps) k current e = by_test (is_as_expected s p) (place_below s b c (suc at) ps k current) e
  where
    by_test : (t : Bool) → (Failed (b, SetTooLarge) (c, RevisionsUsed) (keys_from s (suc at) ps)
        (ConflictIn k current) → k < suc at + length ps)
        → Failed (b, SetTooLarge) (c, RevisionsUsed) ((t, ConflictIn at (present s p)) ∷ keys_from s (suc at) ps)
        (ConflictIn k current) → k < at + length (p ∷ ps)
    by_test true behind e = let below = behind e in omega (arith, below)
    by_test false behind e = let same : at ≡ k = cc in omega (arith, same)

-- the place is one of the set's
place_in : (s : State) (ps : List Part) (k : ℕ) (current : Option ℕ) →
    refusal s (unconditional (set ps)) ≡ Some (ConflictIn k current) → k < length ps
place_in s ps k current e =
    let below = place_below s (has_room s (change_in (unconditional (set ps)))) (has_revision s) 0 (map free ps) k
    current e in let len = length-map ps free in
    omega (arith, below, len)

-- so it is where the change is known to be a set, and the fault to be that
pub place_of : (s : State) (change : Change) (fault : EditFault) (ps : List Part) (k : ℕ) (current : Option ℕ) →
    refusal s (unconditional change) ≡ Some fault → change ≡ set ps → fault ≡ ConflictIn k current → k < length ps
place_of s change fault ps k current e is told =
    let here : refusal s (unconditional (set ps)) ≡ Some (ConflictIn k current) =
    subst (λ (f : EditFault). refusal s (unconditional (set ps)) ≡ Some f) told
    (subst (λ (c : Change). refusal s (unconditional c) ≡ Some fault) is e) in
    place_in s ps k current here

no_place : (s : State) (p : Part) (k : ℕ) (current : Option ℕ) → refusal s (unconditional (one p)) ≡ Some (ConflictIn k current) → ⊥
no_place s p k current e = not_in_one (is_as_expected s (free p)) (has_room s (one p)) (has_revision s) (present s (free p)) k current e

-- ---- places
pub wrong_within : (s : State) (change : Change) (at end : ℕ) (fault : EditFault) →
    refusal s (unconditional change) ≡ Some fault → Reaches at change end → wrong_at at change fault ≤ end
wrong_within s (one p) at end (ConflictIn k current) e r = absurd (no_place s p k current e)
wrong_within s (set ps) at end (ConflictIn k current) e r = let part = sum_by-take-le part_len ps k in omega (arith, part, r)
wrong_within s (one p) at end (Conflict current) e r = omega (arith, r)
wrong_within s (set ps) at end (Conflict current) e r = omega (arith, r)
wrong_within s (one p) at end SetTooLarge e r = omega (arith, r)
wrong_within s (set ps) at end SetTooLarge e r = omega (arith, r)
wrong_within s (one p) at end RevisionsUsed e r = omega (arith, r)
wrong_within s (set ps) at end RevisionsUsed e r = omega (arith, r)
wrong_within s (one p) at end Memory e r = omega (arith, r)
wrong_within s (set ps) at end Memory e r = omega (arith, r)

-- a change and what a set has beside its parts are few bytes more than it takes
pub few_more : (change : Change) (at end : ℕ) → Reaches at change end → at + set_len (parts change) ≤ end + 3
few_more (one p) at end r = omega (arith, r)
few_more (set ps) at end r = omega (arith, r)

-- an answered fault that isn't want of memory is that of the first test that isn't met
pub refused_for : (s : State) (p : Proposal) (fault : EditFault) → IsRefused s p fault → (fault ≡ Memory → ⊥) → refusal s p ≡ Some fault
refused_for s p (Conflict current) h other = h
refused_for s p (ConflictIn k current) h other = h
refused_for s p SetTooLarge h other = h
refused_for s p RevisionsUsed h other = h
refused_for s p Memory h other = absurd (other refl)
