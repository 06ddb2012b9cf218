use Rattle.std.proofs.Common.{◌≡◌, ◌≢◌, ◌<◌, ◌+◌, ◌++◌, ℕ, List, [], inl, inr, None, length, take, drop, refl, sym, ap, subst, ◌∙◌, arith}
use Rattle.std.proofs.lemmas.List.{map-append}
use Rattle.fp_edit.specs.Edits.{Change}
use Rattle.fp_edit.specs.declared.edit.Edit.{Edit}
use Rattle.fp_edit.specs.Following.{change_of, changes_of}
use Rattle.fp_record.specs.Group.{Group}
use Rattle.fp_edit.specs.Log.{after_all}
use Rattle.fp_edit.proofs.Runs.{revision-after_all}
use Rattle.fp_pending.specs.Following.{Follows}
use Rattle.fp_group_commit.specs.Changes.{GoesOn}
use Rattle.fp_pending.proofs.Following.{follows_front}
use Rattle.fp_desk.specs.Desk.{DeskState, Draws, IsLongestPart, IsSound, most_of}
use Rattle.fp_desk.proofs.Sound.{drawn_on, revisions}
use Rattle.fp_desk.proofs.Queues.{moved, nil_of, no_items, on_err, renumbered, some_changes, some_items}
use Rattle.fp_desk.proofs.desk.Desk.draw.Goals as goal
use Rattle.fp_desk.proofs.desk.Desk.draw.Goals.{After-longest_body, After-try_reserve}
use Rattle.fp_desk.proofs.desk.Desk.draw.Goals.{then-not-is_empty-via-then-not-is_empty}
use Rattle.fp_desk.proofs.desk.Desk.draw.Goals.{then-not-is_empty-via-else-not-is_empty+then-is_empty}

pub overflow_add-first : goal.overflow_add-first
overflow_add-first c = let small = revisions _ _ _ _ c.self.invariant in let is = c.revision-first.ensures in omega (arith, small, is)

pub returns-then-not-is_empty-clause-drawn : goal.returns-then-not-is_empty-clause-drawn
returns-then-not-is_empty-clause-drawn c =
    let drawn = c.self.inside.drawn in let waiting = c.self.inside.waiting in
    subst (λ (d : DeskState). Draws d d None) c.self.view_is (
      refl,
      elim c.then-not-is_empty.branch [
        | then-not-is_empty-via-then-not-is_empty w ↦ inl
            (some_changes drawn.items (some_items drawn.items _ _ c.is_empty.ensures drawn.ok.0
            w.if-not-is_empty.true))
        | then-not-is_empty-via-else-not-is_empty+then-is_empty w ↦ inr
            (nil_of waiting.items (no_items waiting.items _ _ w.is_empty-else-not-is_empty.ensures waiting.ok.0
            w.if-is_empty.true))
      ],
    )

module _ (c : goal.After-longest_body) where
  none_out : length c.self.inside.drawn.items ≡ 0
  none_out = no_items c.self.inside.drawn.items _ _ c.is_empty.ensures c.self.inside.drawn.ok.0 c.if-not-is_empty.false

  some_wait : 0 < length c.self.inside.waiting.items
  some_wait = some_items c.self.inside.waiting.items _ _ c.is_empty-else-not-is_empty.ensures c.self.inside.waiting.ok.0 c.if-is_empty.false

  wanting : (c.args.self.now.drawn ≡ []) × (c.args.self.now.waiting ≢ [])
  wanting = subst (λ (d : DeskState). (d.drawn ≡ []) × (d.waiting ≢ [])) c.self.view_is
      (nil_of c.self.inside.drawn.items none_out, some_changes c.self.inside.waiting.items some_wait)

pub first_part-n-requires : goal.first_part-n-requires
first_part-n-requires c = some_wait c

module _ (c : goal.After-try_reserve) where
  sound : IsSound (record {
    store = c.self.inside.settled.store;
    settled = c.self.inside.settled.edits;
    drawn =
        changes_of c.try_reserve.new.self.items;
    waiting = changes_of c.self.inside.waiting.items;
    stopped =
        c.self.inside.stopped;
    last = c.self.inside.settled.last;
  })
      c.self.inside.head c.self.inside.base (changes_of c.self.inside.lag.items)
  sound = drawn_on _ _ _ _ c.self.invariant _ refl refl
      (ap (λ (l : List Edit). changes_of l ++ changes_of c.self.inside.waiting.items) c.try_reserve.ensures.items)

  unchanged : (record {
    store = c.self.inside.settled.store;
    settled = c.self.inside.settled.edits;
    drawn =
        changes_of c.try_reserve.new.self.items;
    waiting = changes_of c.self.inside.waiting.items;
    stopped =
        c.self.inside.stopped;
    last = c.self.inside.settled.last;
  }) ≡ c.args.self.now
  unchanged =
      ap (λ (l : List Edit). record {
        store = c.self.inside.settled.store;
        settled =
            c.self.inside.settled.edits;
        drawn = changes_of l;
        waiting =
            changes_of c.self.inside.waiting.items;
        stopped = c.self.inside.stopped;
        last =
            c.self.inside.settled.last;
      }) c.try_reserve.ensures.items ∙ c.self.view_is

pub invariant_of-self : goal.invariant_of-self
invariant_of-self c = sound (goal.at.invariant_of-self c).After-try_reserve

pub invariant_of-self-in_err-edits : goal.invariant_of-self-in_err-edits
invariant_of-self-in_err-edits c = sound (goal.at.invariant_of-self-in_err-edits c).After-try_reserve

pub returns-in_err-try_reserve-clause-memory : goal.returns-in_err-try_reserve-clause-memory
returns-in_err-try_reserve-clause-memory c =
    on_err c.from_residual.result _ (wanting (goal.at.returns-in_err-try_reserve-clause-memory c).After-longest_body)

pub returns-in_err-try_reserve-clause-unchanged : goal.returns-in_err-try_reserve-clause-unchanged
returns-in_err-try_reserve-clause-unchanged c =
    on_err c.from_residual.result _
    (unchanged (goal.at.returns-in_err-try_reserve-clause-unchanged c).After-try_reserve)

pub returns-in_err-edits-clause-memory : goal.returns-in_err-edits-clause-memory
returns-in_err-edits-clause-memory c =
    on_err c.from_residual-in_err-edits.result _
    (wanting (goal.at.returns-in_err-edits-clause-memory c).After-longest_body)

pub returns-in_err-edits-clause-unchanged : goal.returns-in_err-edits-clause-unchanged
returns-in_err-edits-clause-unchanged c =
    on_err c.from_residual-in_err-edits.result _
    (unchanged (goal.at.returns-in_err-edits-clause-unchanged c).After-try_reserve)

module _ (c : goal.After-new) where
  abbrev Waits : List Edit
  Waits = c.self.inside.waiting.items

  none : length c.self.inside.drawn.items ≡ 0
  none = no_items c.self.inside.drawn.items _ _ c.is_empty.ensures c.self.inside.drawn.ok.0 c.if-not-is_empty.false

  parts : (c.move_front.new.drawn.items ≡ take c.first_part-n.result Waits) ×
      (c.move_front.new.waiting.items ≡ drop c.first_part-n.result Waits) ×
      (c.move_front.new.drawn.items ++ c.move_front.new.waiting.items ≡ Waits)
  parts =
      let kept = c.try_reserve.ensures.items in
      moved c.self.inside.drawn.items c.move_front.new.drawn.items c.move_front.new.waiting.items Waits c.first_part-n.result none
      (c.move_front.ensures.all ∙ ap (λ (l : List Edit). l ++ Waits) kept)
      (c.move_front.ensures.count ∙ ap (λ (l : List Edit). length l + c.first_part-n.result) kept)

  rest : changes_of c.move_front.new.drawn.items ++ changes_of c.move_front.new.waiting.items ≡ changes_of
      c.self.inside.drawn.items ++ changes_of Waits
  rest = sym (map-append change_of c.move_front.new.drawn.items c.move_front.new.waiting.items) ∙
      ap changes_of parts.2 ∙ ap (λ (l : List Change). l ++ changes_of Waits)
      (sym (nil_of c.self.inside.drawn.items none))

pub invariant_of-self-2 : goal.invariant_of-self-2
invariant_of-self-2 c = drawn_on _ _ _ _ c.self.invariant
    (record {
      store = c.self.inside.settled.store;
      settled = c.self.inside.settled.edits;
      drawn =
          changes_of c.move_front.new.drawn.items;
      waiting = changes_of c.move_front.new.waiting.items;
      stopped =
          c.self.inside.stopped;
      last = c.self.inside.settled.last;
    }) refl refl (rest c)

pub returns-clause-drawn : goal.returns-clause-drawn
returns-clause-drawn c =
    let n = c.first_part-n.result in
    let changes : changes_of c.in_ok-edits.edits.items ≡ changes_of (take n (Waits c)) = c.in_ok-edits.ensures in
    let group : c.new.result ≡ record
    { first = c.revision-first.result + 1; changes = changes_of (take n (Waits c)) } = c.new.ensures ∙
    ap (λ (l : List Change). record { first = c.revision-first.result + 1; changes = l }) changes in
    let most : c.longest_body.result ≡ most_of c.self.inside.settled.store.start.limit = rw (← c.self.view_is) at c.longest_body.ensures in
    let longest : IsLongestPart (most_of c.self.inside.settled.store.start.limit) c.new.result (changes_of (Waits c))
    (changes_of c.move_front.new.waiting.items) =
    subst (λ (g : Group). IsLongestPart (most_of c.self.inside.settled.store.start.limit) g (changes_of (Waits c))
    (changes_of c.move_front.new.waiting.items)) (sym group)
    (subst (λ (l : List Edit). IsLongestPart (most_of c.self.inside.settled.store.start.limit)
    (record { first = c.revision-first.result + 1; changes = changes_of (take n (Waits c)) })
    (changes_of (Waits c)) (changes_of l)) (sym (parts c).1)
    (subst (λ (m : ℕ). IsLongestPart m
    (record { first = c.revision-first.result + 1; changes = changes_of (take n (Waits c)) })
    (changes_of (Waits c)) (changes_of (drop n (Waits c)))) most
    (renumbered c.longest_body.result (c.revision-first.result + 1) (changes_of (take n (Waits c)))
    (changes_of (Waits c)) (changes_of (drop n (Waits c))) c.first_part-n.ensures.longest))) in
    let first : c.new.result.first ≡ c.revision-first.result + 1 = ap (λ (g : Group). g.first) group in
    let drawn : changes_of c.move_front.new.drawn.items ≡ c.new.result.changes = ap changes_of (parts c).0 ∙
    sym (ap (λ (g : Group). g.changes) group) in
    let start = c.self.inside.settled.store.start in let settled = c.self.inside.settled.edits in
    let waits : changes_of c.self.inside.drawn.items ++ changes_of (Waits c) ≡ c.new.result.changes ++ changes_of
    c.move_front.new.waiting.items =
    ap (λ (l : List Change). l ++ changes_of (Waits c)) (nil_of c.self.inside.drawn.items (none c)) ∙
    longest.parts in
    let follows : Follows (after_all start settled) c.new.result.changes =
    follows_front (after_all start settled) c.new.result.changes (changes_of c.move_front.new.waiting.items)
    (subst (λ (l : List Change). Follows (after_all start settled) l) waits c.self.invariant.follows) in
    let goes : GoesOn (after_all start settled) c.new.result =
    (first ∙ ap (λ (k : ℕ). k + 1) (c.revision-first.ensures ∙ sym (revision-after_all start settled)), follows)
    in
    rw (← c.self.view_is) (record {
      none_out = nil_of c.self.inside.drawn.items (none c);
      goes_on = goes;
      longest = longest;
      new_is = ap (λ (l : List Change). record {
        store = c.self.inside.settled.store;
        settled = c.self.inside.settled.edits;
        drawn = l;
        waiting =
            changes_of c.move_front.new.waiting.items;
        stopped = c.self.inside.stopped;
        last =
            c.self.inside.settled.last;
      }) drawn;
    })
