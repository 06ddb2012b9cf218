use Rattle.std.proofs.Common.{◌≡◌, ◌+◌, ◌-◌, ◌^◌, ℕ, Bool, true, eqb, List, length, map, None}
use Rattle.std.proofs.Common.{sym, ap, subst, ◌∙◌, arith}
use Rattle.std.proofs.lemmas.Bool.{eqb-true}
use Rattle.std.proofs.lemmas.List.{length-map, take_at}
use Rattle.fp_edit.specs.Admits.{flags_after, parts_after, refusal}
use Rattle.fp_edit.specs.Edits.{joint, set}
use Rattle.fp_documents.specs.Entries.{flags_of}
use Rattle.fp_edit.specs.Flags.{State, Flags, IsTallied, size}
use Rattle.fp_edit.specs.Outline.{MarksOne}
use Rattle.fp_edit.specs.Parts.{ProposedPart, any_put, parts_of, proposed_of}
use Rattle.fp_edit.specs.Puts.{deletes_of, puts_of}
use Rattle.fp_edit.specs.declared.edit.Change as code
use Rattle.fp_edit.proofs.Followed.{met}
use Rattle.fp_edit.proofs.Kept.{kept-after, size_room}
use Rattle.fp_edit.proofs.Making.{new-put, puts-first}
use Rattle.fp_edit.proofs.Parts.{parts_in}
use Rattle.fp_edit.proofs.SetTests.{set-distinct}
use Rattle.fp_edit.proofs.Since.{marks_one-parts}
use Rattle.fp_edit.proofs.flag_set.FlagSet.make_all.Goals as goal
use Rattle.fp_edit.proofs.flag_set.FlagSet.make_all.Goals.{After-make_deletes}

abbrev before : After-make_deletes → State
before c = record { flags = flags_of c.self.inside.flags.entries; revision = c.self.inside.revision; limit = c.self.inside.limit }

abbrev after : After-make_deletes → Flags
after c = flags_after (before c) (set (parts_of c.args.changes))

given : (c : After-make_deletes) → map proposed_of c.as_mut_slice.result.now ≡ c.args.changes
given c = ap (map proposed_of) c.as_mut_slice.ensures.value ∙ c.into_changes-changes.ensures.changes

-- behind the first walk the vector has the changes that this left
left_over : (c : After-make_deletes) → c.as_slice.result.now ≡ c.make_puts.new.changes
left_over c =
    let kept = c.make_puts.auto.changes in
    let len = c.as_mut_slice.ensures.len in
    c.as_slice.ensures.value ∙ take_at c.make_puts.new.changes _ c.into_changes-changes.result.len (omega arith)

-- the two walks make what the changes make in their order
made : (c : After-make_deletes) → flags_of c.make_deletes.new.flags.entries ≡ after c
made c =
    let r = c.self.inside.revision + 1 in
    let m = flags_of c.self.inside.flags.entries in
    let ps = parts_of c.args.changes in
    let put = c.in-Ok.ensures.made ∙ ap (λ (xs : List ProposedPart). parts_after r m (puts_of (parts_of xs))) (given c) in
    let left = ap (λ (xs : List code.Change). deletes_of (parts_in xs)) (left_over c)
    ∙ c.in-Ok.ensures.deletes
    ∙ ap (λ (xs : List ProposedPart). deletes_of (parts_of xs)) (given c) in
    c.make_deletes.ensures.made r
    ∙ ap (λ (n : Flags). parts_after r n (deletes_of (parts_in c.as_slice.result.now))) put
    ∙ ap (parts_after r (parts_after r m (puts_of ps))) left
    ∙ puts-first r m ps (set-distinct ps c.into_changes-changes.ensures.lawful)

admitted : (c : After-make_deletes) → refusal (before c) (joint c.args.changes) ≡ None
admitted c = subst (λ (t : State). refusal t (joint c.args.changes) ≡ None) (sym c.self.view_is) c.requires

abbrev counted : After-make_deletes → ℕ
counted c = c.self.inside.size + c.in-Ok.shift.come - (c.in-Ok.shift.gone + c.make_deletes.result)

measured : (c : After-make_deletes) → counted c ≡ size (after c)
measured c =
    let put = c.in-Ok.ensures.size in
    let deleted = c.make_deletes.ensures.size in
    let kept = c.self.invariant.1.size in
    let all = ap size (made c) in omega arith

abbrev alone : After-make_deletes → Bool
alone c = eqb c.len-marks_one.result 1

one_part : (c : After-make_deletes) → alone c ≡ true → length (parts_of c.args.changes) ≡ 1
one_part c on =
    let items = c.into_changes-changes.result.items in
    let listed = length-map items proposed_of in
    let same = ap length c.into_changes-changes.ensures.changes in
    let parts = length-map c.args.changes (λ (p : ProposedPart). p.part) in
    let len = c.len-marks_one.ensures in
    let whole = c.into_changes-changes.result.ok.0 in
    let one = eqb-true c.len-marks_one.result 1 on in omega arith

pub overflow_cast-self-2 : goal.overflow_cast-self-2
overflow_cast-self-2 c =
    let a = (goal.at.overflow_cast-self-2 c).After-make_deletes in
    let kept = c.self.invariant.1.size in
    let s = before a in
    let all = met s (joint c.args.changes) (admitted a) in
    let r = c.self.ranges in
    let fits = size_room s (set (parts_of c.args.changes)) all.1 (2 ^ 64 - 1) (grind (arith, r.0, r.1)) (grind (arith, r.0, r.1)) in
    let is = measured a in
    grind arith

pub invariant_of-self-2 : goal.invariant_of-self-2
invariant_of-self-2 c =
    let a = (goal.at.invariant_of-self-2 c).After-make_deletes in
    let s = before a in
    let ps = parts_of c.args.changes in
    let all = met s (joint c.args.changes) (admitted a) in
    let kept = kept-after s (set ps) all.1 c.self.inside.size c.self.invariant.1 all.2 in
    let tallied = subst (λ (n : ℕ). IsTallied (after a) (s.revision + 1) s.limit n) (sym (measured a)) kept in
    let old = c.self.invariant.1.changed in
    let marked = marks_one-parts (alone a) s.revision (s.revision + 1) s.flags old (λ _. omega arith) ps (one_part a) in (
      c.make_deletes.ensures.ordered,
      subst (λ (m : Flags). IsTallied m (s.revision + 1) s.limit (counted a)) (sym (made a)) tallied,
      subst (MarksOne (alone a) (s.revision + 1)) (sym (made a)) marked,
    )

pub returns-clause-made : goal.returns-clause-made
returns-clause-made c =
    let a = (goal.at.returns-clause-made c).After-make_deletes in
    let r = c.self.inside.revision + 1 in
    rw (← c.self.view_is) (ap (λ (m : Flags). record { flags = m; revision = r; limit = c.self.inside.limit }) (made a))

-- where a flag is new some flag is put
pub returns-in_default-clause-put : goal.returns-in_default-clause-put
returns-in_default-clause-put c =
    let ps = parts_in c.as_mut_slice.result.now in
    let given = ap (map proposed_of) c.as_mut_slice.ensures.value ∙ c.into_changes-changes.ensures.changes in
    subst (λ (xs : List ProposedPart). any_put (parts_of xs) ≡ true) given
    (new-put (flags_of c.self.inside.flags.entries) ps c.in_default.ensures.new)
