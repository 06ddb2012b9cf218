-- The set behind many edits, the tests that an edit meets, and edits taken one by one.
use Rattle.std.proofs.Common.{◌≡◌, ◌<◌, ◌+◌, ◌^◌, ℕ, Bool, true, false, cond, List, [], ◌∷◌, ◌++◌, length, map, take}
use Rattle.std.proofs.Common.{drop, suc, add-one, get_or, None, Some, refl, sym, ap, ◌∙◌}
use Rattle.std.proofs.lemmas.Bool.{and_from, and_parts, ltb-true}
use Rattle.std.proofs.lemmas.List.{nil_from_length, take-append-drop, map-append}
use Rattle.std.proofs.Math.Seq.{take-suc}
use Rattle.std.specs.List.{AllByRecursion}
use Rattle.fp_base.specs.Tests.{first_failed}
use Rattle.fp_edit.specs.Admits.{refusal, next, present, is_as_expected, keys, keys_from, has_room, has_revision}
use Rattle.fp_edit.specs.Edits.{Change, one, set, parts, Proposal, single, joint, change_in}
use Rattle.fp_edit.specs.Parts.{ProposedPart, free, parts_of}
use Rattle.fp_edit.specs.Flags.{State}
use Rattle.fp_edit.specs.Following.{change_of, changes_of, unconditional}
use Rattle.fp_edit.specs.Log.{after_all}
use Rattle.fp_edit.specs.declared.edit.Edit.{Edit}
use Rattle.fp_edit.specs.declared.edit.EditFault.{EditFault}
use Rattle.fp_edit.specs.declared.edit.EditFault.TheVariants.{Conflict, ConflictIn, SetTooLarge, RevisionsUsed}
use Rattle.fp_edit.proofs.Parts.{parts_of-free}

pub after-append : (s : State) (xs ys : List Change) → after_all s (xs ++ ys) ≡ after_all (after_all s xs) ys
after-append s [] ys = refl
after-append s (x ∷ xs) ys = after-append (next s x) xs ys

pub limit-after_all : (s : State) (cs : List Change) → (after_all s cs).limit ≡ s.limit
limit-after_all s [] = refl
limit-after_all s (c ∷ cs) = limit-after_all (next s c) cs

-- ---- tests that are met
met_first : (b : Bool) (f : EditFault) (ts : List (Bool × EditFault)) → cond b (first_failed ts) (Some f) ≡ None →
    (b ≡ true) × (first_failed ts ≡ None)
met_first true f ts h = (refl, h)
met_first false f ts h = absurd cc

met_parts : (ts us : List (Bool × EditFault)) → first_failed (ts ++ us) ≡ None → (first_failed ts ≡ None) × (first_failed us ≡ None)
met_parts [] us h = (refl, h)
met_parts (t ∷ ts) us h =
    let here = met_first t.0 t.1 (ts ++ us) h in
    let rest = met_parts ts us here.1 in (rw here.0 rest.0, rest.1)

met_from : (ts us : List (Bool × EditFault)) → first_failed ts ≡ None → first_failed us ≡ None → first_failed (ts ++ us) ≡ None
met_from [] us h g = g
met_from (t ∷ ts) us h g = let here = met_first t.0 t.1 ts h in rw here.0 (met_from ts us here.1 g)

-- ---- keys as expected
pub as_expected : (s : State) (p : ProposedPart) → first_failed (keys s (single p)) ≡ None → is_as_expected s p ≡ true
as_expected s p h = (met_first (is_as_expected s p) (Conflict (present s p)) [] h).0

pub from_expected : (s : State) (p : ProposedPart) → is_as_expected s p ≡ true → first_failed (keys s (single p)) ≡ None
from_expected s p h = rw h refl

-- each key of a set is
abbrev pub AreExpected : State → List ProposedPart → Type 0
AreExpected s ps = AllByRecursion (λ (p : ProposedPart). is_as_expected s p ≡ true) ps

pub all_expected : (s : State) (at : ℕ) (ps : List ProposedPart) → first_failed (keys_from s at ps) ≡ None → AreExpected s ps
all_expected s at [] h = tt
all_expected s at (p ∷ ps) h =
    let here = met_first (is_as_expected s p) (ConflictIn at (present s p)) (keys_from s (suc at) ps) h in
    (here.0, all_expected s (suc at) ps here.1)

pub from_all_expected : (s : State) (at : ℕ) (ps : List ProposedPart) → AreExpected s ps → first_failed (keys_from s at ps) ≡ None
from_all_expected s at [] h = refl
from_all_expected s at (p ∷ ps) h = rw (h.0) (from_all_expected s (suc at) ps h.1)

-- the same of a change by an editor that expects nothing
pub keys_expected : (s : State) (c : Change) → AreExpected s (map free (parts c)) → first_failed (keys s (unconditional c)) ≡ None
keys_expected s (one p) h = from_expected s (free p) h.0
keys_expected s (set ps) h = from_all_expected s 0 (map free ps) h

pub expected_keys : (s : State) (c : Change) → first_failed (keys s (unconditional c)) ≡ None → AreExpected s (map free (parts c))
expected_keys s (one p) h = (as_expected s (free p) h, tt)
expected_keys s (set ps) h = all_expected s 0 (map free ps) h

-- ---- what is accepted
module _ (s : State) (p : Proposal) where
  pub met : refusal s p ≡ None → (first_failed (keys s p) ≡ None) × (has_room s (change_in p) ≡ true) × (has_revision s ≡ true)
  met h =
      let both = met_parts (keys s p) ((has_room s (change_in p), SetTooLarge) ∷ (has_revision s, RevisionsUsed) ∷ []) h in
      let room = met_first (has_room s (change_in p)) SetTooLarge ((has_revision s, RevisionsUsed) ∷ []) both.1 in
      (both.0, room.0, (met_first (has_revision s) RevisionsUsed [] room.1).0)

  pub passes : first_failed (keys s p) ≡ None → has_room s (change_in p) ≡ true → has_revision s ≡ true → refusal s p ≡ None
  passes a b c = met_from (keys s p) ((has_room s (change_in p), SetTooLarge) ∷ (has_revision s, RevisionsUsed) ∷ []) a (rw (b, c) refl)

  -- there is a revision for it
  pub has_next : refusal s p ≡ None → s.revision + 1 < 2 ^ 63
  has_next h = ltb-true _ _ (met h).2

-- ---- without what is expected
pub change-unconditional : (c : Change) → change_in (unconditional c) ≡ c
change-unconditional (one p) = refl
change-unconditional (set ps) = ap set (parts_of-free ps)

free_expected : (s : State) (p : ProposedPart) → is_as_expected s p ≡ true → is_as_expected s (free p.part) ≡ true
free_expected s p h = and_from _ _ (and_parts _ _ h).0 refl

free_all : (s : State) (ps : List ProposedPart) → AreExpected s ps → AreExpected s (map free (parts_of ps))
free_all s [] h = tt
free_all s (p ∷ ps) h = (free_expected s p h.0, free_all s ps h.1)

free_keys : (s : State) (p : Proposal) → first_failed (keys s p) ≡ None → first_failed (keys s (unconditional (change_in p))) ≡ None
free_keys s (single p) h = from_expected s (free p.part) (free_expected s p (as_expected s p h))
free_keys s (joint ps) h = from_all_expected s 0 (map free (parts_of ps)) (free_all s ps (all_expected s 0 ps h))

-- what is accepted with an expectation is accepted without
pub freely : (s : State) (p : Proposal) → refusal s p ≡ None → refusal s (unconditional (change_in p)) ≡ None
freely s p h =
    let all = met s p h in
    let room : has_room s (change_in (unconditional (change_in p))) ≡ true = ap (has_room s) (change-unconditional (change_in p)) ∙ all.1 in
    passes s (unconditional (change_in p)) (free_keys s p all.0) room all.2

-- ---- a walk over edits
pub taken_more : (xs : List Edit) (i : ℕ) (e : Edit) → i < length xs → e ≡ get_or xs i e →
    changes_of (take (i + 1) xs) ≡ changes_of (take i xs) ++ change_of e ∷ []
taken_more xs i e lt is =
    let more : take (suc i) xs ≡ take i xs ++ e ∷ [] = take-suc xs i e lt ∙ ap (λ (x : Edit). take i xs ++ x ∷ []) (sym is) in
    ap (λ (n : ℕ). changes_of (take n xs)) (add-one i) ∙ ap changes_of more ∙ map-append change_of (take i xs) (e ∷ [])

pub all_taken : (xs : List Edit) (n : ℕ) → changes_of xs ≡ changes_of (take n xs) ++ changes_of (drop n xs)
all_taken xs n = ap changes_of (sym (take-append-drop n xs)) ∙ map-append change_of (take n xs) (drop n xs)

pub none_left : (xs : List Edit) → length xs ≡ 0 → changes_of xs ≡ []
none_left xs h = ap changes_of (nil_from_length xs h)

module _ (s : State) (xs : List Edit) (i : ℕ) (e : Edit) (lt : i < length xs) (is : e ≡ get_or xs i e) where
  pub one_after : after_all s (changes_of (take (i + 1) xs)) ≡ next (after_all s (changes_of (take i xs))) (change_of e)
  one_after = ap (λ (l : List Change). after_all s l) (taken_more xs i e lt is) ∙ after-append s (changes_of (take i xs)) (change_of e ∷ [])
