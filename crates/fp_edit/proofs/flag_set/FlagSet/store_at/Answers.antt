use Rattle.std.proofs.Common.{◌≡◌, ◌+◌, ◌-◌, ◌≤◌, true, sym, subst, arith}
use Rattle.std.specs.Prelude.{nat_lt}
use Rattle.std.specs.FinMap as fin
use Rattle.std.proofs.lemmas.Bool.{ltb-true}
use Rattle.fp_definition.specs.Key.{key_bytes}
use Rattle.fp_edit.specs.Admits.{is_within}
use Rattle.fp_documents.specs.Entries.{flags_of}
use Rattle.fp_edit.specs.Flags.{State, Flags, IsTallied, size}
use Rattle.fp_edit.specs.Outline.{MarksOne}
use Rattle.fp_edit.proofs.Kept.{kept-insert}
use Rattle.fp_edit.proofs.Since.{marks_one-insert}
use Rattle.fp_documents.proofs.Sizes.{resized}
use Rattle.fp_edit.proofs.flag_set.FlagSet.store_at.Goals as goal

pub overflow_sub-self : goal.overflow_sub-self
overflow_sub-self c =
    let all = resized (flags_of c.self.inside.flags.entries) (key_bytes c.args.key) c.args.flag _ _ _
    c.self.invariant.1.size c.cost_of-cost.ensures.cost c.in_ok-before.ensures.before in
    omega arith

pub overflow_cast-self-2 : goal.overflow_cast-self-2
overflow_cast-self-2 c =
    let m = flags_of c.self.inside.flags.entries in
    let k = key_bytes c.args.key in
    let f = c.args.flag in
    let room : is_within (fin.insert m k f) c.self.inside.limit ≡ true =
    subst (λ (t : State). is_within (fin.insert t.flags k f) t.limit ≡ true) (sym c.self.view_is) c.requires.room
    in
    let all = resized m k f _ _ _ c.self.invariant.1.size c.cost_of-cost.ensures.cost c.in_ok-before.ensures.before in
    let fits : size (fin.insert m k f) ≤ c.self.inside.limit = grind (arith, room) in
    grind (arith, c.self.ranges.0, c.self.ranges.1)

pub invariant_of-self-2 : goal.invariant_of-self-2
invariant_of-self-2 c =
    let set = c.self.inside in
    let m = flags_of set.flags.entries in
    let k = key_bytes c.args.key in
    let f = c.args.flag in
    let revision = c.args.revision in
    let later : set.revision ≤ revision = subst (λ (t : State). t.revision ≤ revision) (sym c.self.view_is) c.requires.revision.0 in
    let room : is_within (fin.insert m k f) set.limit ≡ true =
    subst (λ (t : State). is_within (fin.insert t.flags k f) t.limit ≡ true) (sym c.self.view_is) c.requires.room
    in
    let all = resized m k f _ _ _ c.self.invariant.1.size c.cost_of-cost.ensures.cost c.in_ok-before.ensures.before in
    let measured : set.size + c.cost_of-cost.result - c.in_ok-before.before ≡ size (fin.insert m k f) = omega arith in (
      c.in_ok-before.ensures.ordered,
      subst (λ (n : Flags). IsTallied n revision set.limit
          (set.size + c.cost_of-cost.result - c.in_ok-before.before)) (sym c.in_ok-before.ensures.stored)
          (subst (λ n. IsTallied (fin.insert m k f) revision set.limit n) (sym measured)
          (kept-insert m set.revision revision set.limit set.size k f c.self.invariant.1 later c.requires.revision.1
          c.requires.changed room)),
      subst (MarksOne (nat_lt set.revision revision) revision) (sym c.in_ok-before.ensures.stored)
          (marks_one-insert (nat_lt set.revision revision) set.revision revision m c.self.invariant.1.changed (ltb-true _ _) k f),
    )
