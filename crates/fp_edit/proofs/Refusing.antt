-- What a set refuses is the fault of a test, and none of them is want of memory.
use Rattle.std.proofs.Common.{◌≡◌, ℕ, suc, Bool, true, false, List, [], ◌∷◌, ◌++◌, Some}
use Rattle.std.specs.List.{AllByRecursion}
use Rattle.fp_base.specs.Tests.{first_failed}
use Rattle.fp_edit.specs.Admits.{IsRefused, keys, keys_from, refusal, tests}
use Rattle.fp_edit.specs.Edits.{Proposal, single, joint}
use Rattle.fp_edit.specs.Flags.{State}
use Rattle.fp_edit.specs.Parts.{ProposedPart}
use Rattle.fp_edit.specs.declared.edit.EditFault.{EditFault}
use Rattle.fp_edit.specs.declared.edit.EditFault.TheVariants.{Conflict, ConflictIn, SetTooLarge, RevisionsUsed, Memory}

abbrev IsKnown : Bool × EditFault → Type 0
IsKnown t = t.1 ≡ Memory → ⊥

known_first : (ts : List (Bool × EditFault)) → AllByRecursion IsKnown ts → first_failed ts ≡ Some Memory → ⊥
known_first [] known h = cc
known_first ((true, f) ∷ ts) known h = known_first ts known.1 h
known_first ((false, f) ∷ ts) known h = known.0 (cc h)

known_then : (xs ys : List (Bool × EditFault)) → AllByRecursion IsKnown xs → AllByRecursion IsKnown ys → AllByRecursion IsKnown (xs ++ ys)
known_then [] ys a b = b
known_then (x ∷ xs) ys a b = (a.0, known_then xs ys a.1 b)

known_from : (s : State) (at : ℕ) (ps : List ProposedPart) → AllByRecursion IsKnown (keys_from s at ps)
known_from s at [] = tt
known_from s at (p ∷ ps) = (λ e. cc, known_from s (suc at) ps)

known_keys : (s : State) (p : Proposal) → AllByRecursion IsKnown (keys s p)
known_keys s (single p) = (λ e. cc, tt)
known_keys s (joint ps) = known_from s 0 ps

pub never_memory : (s : State) (p : Proposal) → refusal s p ≡ Some Memory → ⊥
never_memory s p h = known_first (tests s p) (known_then (keys s p) _ (known_keys s p) (λ e. cc, (λ e. cc, tt))) h

-- so it is the fault of the relation
pub refused_by : (s : State) (p : Proposal) (f : EditFault) → refusal s p ≡ Some f → IsRefused s p f
refused_by s p (Conflict current) h = h
refused_by s p (ConflictIn at current) h = h
refused_by s p SetTooLarge h = h
refused_by s p RevisionsUsed h = h
refused_by s p Memory h = absurd (never_memory s p h)
