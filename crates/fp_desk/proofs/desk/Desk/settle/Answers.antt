use Rattle.std.proofs.Common.{◌≡◌, ◌+◌, ◌++◌, ℕ, List, [], length, refl, sym, ap, subst, ◌∙◌, arith}
use Rattle.fp_edit.specs.Edits.{Change}
use Rattle.fp_edit.specs.Following.{changes_of}
use Rattle.fp_record.specs.Group.{Group}
use Rattle.fp_group_commit.specs.Tokens.{front_of, front_revision}
use Rattle.fp_desk.specs.Desk.{DeskState, IsDrawn}
use Rattle.fp_desk.proofs.Sound.{behind, drawn_follows, revisions, settled_on, with_settled}
use Rattle.fp_desk.proofs.Queues.{held, nil_of, some_changes, some_items}
use Rattle.fp_desk.proofs.desk.Desk.settle.Goals as goal
use Rattle.fp_desk.proofs.desk.Desk.settle.Goals.{After-catch_up, Else-is_err}

pub overflow_add-revision : goal.overflow_add-revision
overflow_add-revision c = let small = revisions _ _ _ _ c.self.invariant in let is = c.revision.ensures in omega (arith, small, is)

module _ (c : goal.After-catch_up) where
  same : changes_of c.self.inside.drawn.items ≡ c.args.receipt.batch.changes
  same = c.same_changes.ensures.0 c.if-not-same_changes.false ∙ c.edits.ensures ∙
      ap (λ (b : Group). b.changes) c.batch-else-first-revision.ensures

  first : c.args.receipt.batch.first ≡ front_revision (front_of c.self.inside.settled) + 1
  first = ap (λ (b : Group). b.first) (sym c.batch.ensures) ∙ sym c.first.ensures ∙ c.if-first-revision.false ∙
      ap (λ (n : ℕ). n + 1) c.revision.ensures

  drawn : IsDrawn c.args.self.now c.args.receipt
  drawn =
      let queue = c.self.inside.drawn in
      subst (λ (d : DeskState). IsDrawn d c.args.receipt) c.self.view_is (
        some_changes queue.items (some_items queue.items _ _ c.is_empty.ensures queue.ok.0 c.if-is_empty.false),
        first,
        sym same,
      )

pub returns-then-is_err-clause-refused : goal.returns-then-is_err-clause-refused
returns-then-is_err-clause-refused c = drawn (goal.at.returns-then-is_err-clause-refused c).After-catch_up

pub invariant_of-self : goal.invariant_of-self
invariant_of-self c = behind _ _ _ _ c.self.invariant _ _ c.catch_up.ensures.same c.catch_up.ensures.follows

pub advance-requires-clause-store : goal.advance-requires-clause-store
advance-requires-clause-store c = c.requires ∙ ap (λ (d : DeskState). d.store) (sym c.self.view_is)

pub advance-requires-clause-next : goal.advance-requires-clause-next
advance-requires-clause-next c = first (goal.at.advance-requires-clause-next c).After-catch_up

module _ (c : goal.Else-is_err) where
  none : changes_of c.catch_up.new.ahead.items ≡ []
  none = nil_of c.catch_up.new.ahead.items
      (held c.catch_up.result _ (length c.catch_up.new.ahead.items ≡ 0) c.catch_up.ensures.done
      c.is_err.ensures.value c.if-is_err.false)

pub catch_up-requires-2 : goal.catch_up-requires-2
catch_up-requires-2 c =
    let caught = none (goal.at.catch_up-requires-2 c).Else-is_err in
    rw c.swap.ensures.x_after (drawn_follows _ _ _ _ c.self.invariant c.catch_up.new.set
    (changes_of c.catch_up.new.ahead.items) c.catch_up.ensures.same caught)

pub invariant_of-self-2 : goal.invariant_of-self-2
invariant_of-self-2 c =
    let caught = none (goal.at.invariant_of-self-2 c).Else-is_err in let batch = same (goal.at.invariant_of-self-2 c).After-catch_up in
    let led = c.catch_up-2.ensures.same in
    settled_on _ _ _ _ c.self.invariant c.catch_up.new.set (changes_of c.catch_up.new.ahead.items)
    c.catch_up.ensures.same caught _ c.advance.ensures.store
    (c.advance.ensures.edits ∙ ap (λ (l : List Change). c.self.inside.settled.edits ++ l) (sym batch))
    (rw c.swap.ensures.y_after caught) refl c.catch_up-2.new.set (changes_of c.catch_up-2.new.ahead.items)
    (rw (← c.swap.ensures.x_after) led) c.catch_up-2.ensures.follows

pub returns-clause-drawn : goal.returns-clause-drawn
returns-clause-drawn c = drawn (goal.at.returns-clause-drawn c).After-catch_up

pub returns-clause-settled : goal.returns-clause-settled
returns-clause-settled c =
    let caught = none (goal.at.returns-clause-settled c).Else-is_err in
    let batch = same (goal.at.returns-clause-settled c).After-catch_up in
    subst (λ (d : DeskState). ◌≡◌ {A = DeskState}
    (record {
      store = c.advance.new.self.store;
      settled = c.advance.new.self.edits;
      drawn =
          changes_of c.swap.new.y.items;
      waiting = changes_of c.self.inside.waiting.items;
      stopped =
          c.self.inside.stopped;
      last = c.advance.new.self.last;
    })
    (record {
      store = d.store;
      settled = d.settled ++ d.drawn;
      drawn = [];
      waiting = d.waiting;
      stopped =
          d.stopped;
      last = d.drawn;
    })) c.self.view_is
    (with_settled (changes_of c.self.inside.waiting.items) c.self.inside.stopped _ _ _ _ _ _ _ _
    c.advance.ensures.store (c.advance.ensures.edits ∙
    ap (λ (l : List Change). c.self.inside.settled.edits ++ l) (sym batch)) (rw c.swap.ensures.y_after caught)
    (c.advance.ensures.last ∙ sym batch))
