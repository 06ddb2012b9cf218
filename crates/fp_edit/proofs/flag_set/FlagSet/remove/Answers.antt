use Rattle.std.proofs.Common.{◌≡◌, ◌+◌, ◌-◌, true, sym, subst, refl, arith}
use Rattle.fp_definition.specs.Key.{key_bytes}
use Rattle.fp_edit.specs.Admits.{has_revision, flags_after}
use Rattle.fp_edit.specs.Edits.{one}
use Rattle.fp_documents.specs.Entries.{flags_of}
use Rattle.fp_edit.specs.Flags.{State, Flags, IsTallied, size}
use Rattle.fp_edit.specs.Outline.{MarksOne}
use Rattle.fp_edit.specs.Parts.{delete}
use Rattle.fp_edit.proofs.Kept.{kept-after}
use Rattle.fp_documents.proofs.Sizes.{size-remove}
use Rattle.fp_edit.proofs.Since.{marks_one-remove}
use Rattle.fp_edit.proofs.flag_set.FlagSet.remove.Goals as goal

pub overflow_cast-gone : goal.overflow_cast-gone
overflow_cast-gone c =
    let all = size-remove (flags_of c.self.inside.flags.entries) (key_bytes c.args.key.now) in
    let gone = c.take-gone.ensures.before in
    let kept = c.self.invariant.1.size in
    grind (arith, c.self.ranges.0, c.self.ranges.1)

pub overflow_sub-self : goal.overflow_sub-self
overflow_sub-self c =
    let all = size-remove (flags_of c.self.inside.flags.entries) (key_bytes c.args.key.now) in
    let gone = c.take-gone.ensures.before in
    let kept = c.self.invariant.1.size in
    omega arith

pub invariant_of-self : goal.invariant_of-self
invariant_of-self c =
    let set = c.self.inside in
    let k = key_bytes c.args.key.now in
    let s : State = record { flags = flags_of set.flags.entries; revision = set.revision; limit = set.limit } in
    let more : has_revision s ≡ true = subst (λ (t : State). has_revision t ≡ true) (sym c.self.view_is) c.requires in
    let all = size-remove s.flags k in
    let gone = c.take-gone.ensures.before in
    let kept = c.self.invariant.1.size in
    let measured : set.size - c.take-gone.result ≡ size (flags_after s (one (delete k))) = omega arith in (
      c.take-gone.ensures.ordered,
      subst (λ (m : Flags). IsTallied m (s.revision + 1) s.limit (set.size - c.take-gone.result)) (sym c.take-gone.ensures.taken)
          (subst (λ n. IsTallied (flags_after s (one (delete k))) (s.revision + 1) s.limit n) (sym measured)
          (kept-after s (one (delete k)) refl set.size c.self.invariant.1 more)),
      subst (MarksOne true (s.revision + 1)) (sym c.take-gone.ensures.taken)
          (marks_one-remove true s.revision (s.revision + 1) s.flags c.self.invariant.1.changed (λ _. omega arith) k),
    )
