use Rattle.std.proofs.Common.{◌<◌, ◌≤◌, ℕ, List, ◌∷◌, sym, ap, subst, ◌∙◌, arith}
use Rattle.std.proofs.lemmas.List.{take-append-drop}
use Rattle.fp_definition.specs.Key.{key_bytes}
use Rattle.fp_documents.specs.Entries.{entries_of}
use Rattle.fp_documents.specs.Outline.{changed_after}
use Rattle.fp_documents.specs.declared.flags.Flag.{Flag}
use Rattle.fp_documents.proofs.Patched.{begun, counted, goes_on, ends_within, stands, replaced, is_new, ended, others}
use Rattle.fp_documents.proofs.document.first_changed.Goals as goal

pub loop-key-init : goal.loop-key-init
loop-key-init c =
    let flags = c.into_iter-key-iterator.ensures.into_iter_gives ∙ c.iter-key-items.ensures.rest in
    let before = c.args.document.now in
    let es = c.requires.0 in
    rw flags (
      es,
      c.requires.1,
      c.requires.2,
      record { underway = begun before es (entries_of c.args.flags.now.entries) c.requires.1 c.requires.2 },
      c.requires.3,
    )

pub index-len-requires : goal.index-len-requires
index-len-requires c =
    subst (λ n. c.loop-key.index < n) (sym c.args.document.now.lengths.ok.0)
    (counted c.loop-key.invariant.3 (key_bytes c.in-Some.key.now, c.in-Some.flag.now) (entries_of c.next.new.self)
    (ap entries_of c.in-Some.ensures.steps))

pub returns-then-flag-document : goal.returns-then-flag-document
returns-then-flag-document c =
    let f : List ℕ × Flag = (key_bytes c.in-Some.key.now, c.in-Some.flag.now) in
    let fs = entries_of c.next.new.self in
    let before = c.args.document.now in
    let left = ap entries_of c.in-Some.ensures.steps in
    let i = c.loop-key.invariant in
    let u = i.3 in
    let late = c.if-flag-document.true in
    let one : changed_after before.revision (f ∷ fs) ≤ 1 = subst (λ es. changed_after before.revision es ≤ 1) left i.4 in
    let here = goes_on u f fs left _ _ c.index-len.ensures in record {
      within = ends_within here;
      place = λ own.
          let end = replaced u f fs left _ _ c.index-len.ensures i.2 late (others before.revision f fs one late) own in record {
            within = ends_within here;
            counted = counted u f fs left;
            outlines = λ e new is text lengths. record {
              text = text ∙ rw is end.0;
              lengths = lengths ∙ rw is end.1;
            };
          };
      other = λ other. (i.0, i.1, is_new here late other);
    }

pub overflow_add-at : goal.overflow_add-at
overflow_add-at c =
    let reach = ends_within (goes_on c.loop-key.invariant.3 (key_bytes c.in-Some.key.now, c.in-Some.flag.now)
    (entries_of c.next.new.self) (ap entries_of c.in-Some.ensures.steps) _ _ c.index-len.ensures) in
    let small = c.args.document.now.text.small in
    let ok = c.args.document.now.text.ok in omega arith

pub overflow_add-index : goal.overflow_add-index
overflow_add-index c =
    let more = counted c.loop-key.invariant.3 (key_bytes c.in-Some.key.now, c.in-Some.flag.now)
    (entries_of c.next.new.self) (ap entries_of c.in-Some.ensures.steps) in
    let small = c.args.document.now.lengths.small in
    let ok = c.args.document.now.lengths.ok in omega arith

pub loop-key-preserved : goal.loop-key-preserved
loop-key-preserved c =
    let f : List ℕ × Flag = (key_bytes c.in-Some.key.now, c.in-Some.flag.now) in
    let fs = entries_of c.next.new.self in
    let before = c.args.document.now in
    let left = ap entries_of c.in-Some.ensures.steps in
    let i = c.loop-key.invariant in
    let one : changed_after before.revision (f ∷ fs) ≤ 1 = subst (λ es. changed_after before.revision es ≤ 1) left i.4 in
    (i.0, i.1, i.2, stands i.3 f fs left _ _ c.index-len.ensures c.if-flag-document.false, omega (arith, one))

pub returns : goal.returns
returns c =
    let before = c.args.document.now in
    let i = c.loop-key.invariant in
    let end = ended i.2 i.3.underway (ap (λ es. changed_after before.revision (entries_of es)) c.in-None.ensures.steps.0) in
    record { text = end.0; lengths = sym (take-append-drop c.loop-key.index before.lengths.items) ∙ end.1 }
