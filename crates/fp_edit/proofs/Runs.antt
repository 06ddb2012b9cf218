-- Sets after one and after many edits.
use Rattle.std.proofs.Common.{◌≡◌, ◌+◌, ◌≤◌, true, false, List, [], ◌∷◌, length, Option, Some, None, refl, ap, arith}
use Rattle.std.specs.Prelude.{if◌then◌else◌, is_none}
use Rattle.fp_edit.specs.Admits.{Outcome, accepted, refused, Admits, refusal, next}
use Rattle.fp_edit.specs.Edits.{Change, Proposal, change_in}
use Rattle.fp_edit.specs.Flags.{State, size}
use Rattle.fp_edit.specs.Log.{after_all, after_edits, log_of}
use Rattle.fp_edit.specs.declared.edit.EditFault.{EditFault}
use Rattle.fp_edit.proofs.Followed.{met}
use Rattle.fp_edit.proofs.Kept.{size_room}

abbrev Decides : State → Proposal → Option EditFault → Type 0
Decides s p first = (o : Outcome) × (Admits s p o × ((other : Outcome) → Admits s p other → other ≡ o))

-- the first fault decides
decided : (s : State) (p : Proposal) (first : Option EditFault) → refusal s p ≡ first → Decides s p first
decided s p None none = (accepted (next s (change_in p)), ((none, refl), λ o. alone o))
  where
    alone : (o : Outcome) → Admits s p o → o ≡ accepted (next s (change_in p))
    alone (accepted t) h = ap accepted h.1
    alone (refused e) h = cc
decided s p (Some f) some = (refused f, (some, λ o. alone o))
  where
    alone : (o : Outcome) → Admits s p o → o ≡ refused f
    alone (accepted t) h = cc
    alone (refused e) h = cc

pub has_one_outcome : (s : State) (p : Proposal) → Decides s p (refusal s p)
has_one_outcome s p = decided s p (refusal s p) refl

pub revision-after_all : (s : State) (log : List Change) → (after_all s log).revision ≡ s.revision + length log
revision-after_all s [] = omega arith
revision-after_all s (c ∷ log) = let rest = revision-after_all (next s c) log in omega arith

pub after_edits-log_of : (s : State) (ps : List Proposal) → after_edits s ps ≡ after_all s (log_of s ps)
after_edits-log_of s [] = refl
after_edits-log_of s (p ∷ ps) =
    elim (is_none (refusal s p)) as
    (λ b. after_edits (if b then next s (change_in p) else s) ps ≡ after_all s
    (if b then (change_in p) ∷ log_of (next s (change_in p)) ps else log_of s ps)) [
      | true ↦ after_edits-log_of (next s (change_in p)) ps
      | false ↦ after_edits-log_of s ps
    ]

-- an edit that is admitted leads to no larger set than the limit allows
within-next : (s : State) (p : Proposal) → refusal s p ≡ None → size s.flags ≤ s.limit → size (next s (change_in p)).flags ≤ s.limit
within-next s p h within = size_room s (change_in p) (met s p h).1 s.limit within (omega arith)

pub within-after_edits : (s : State) (ps : List Proposal) → size s.flags ≤ s.limit →
    size (after_edits s ps).flags ≤ (after_edits s ps).limit
within-after_edits s [] within = within
within-after_edits s (p ∷ ps) within =
    elim (refusal s p) as (λ o. refusal s p ≡ o →
    size (after_edits (if is_none o then next s (change_in p) else s) ps).flags ≤
    (after_edits (if is_none o then next s (change_in p) else s) ps).limit) [
      | None ↦ λ e. within-after_edits (next s (change_in p)) ps (within-next s p e within)
      | Some f ↦ λ e. within-after_edits s ps within
    ] refl
