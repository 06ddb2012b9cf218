use Rattle.std.proofs.Common.{rules, ◌≡◌, ◌<◌, ◌+◌, ◌++◌, ◌∷◌, ℕ, List, [], length, None, refl, sym, ap, subst, ◌∙◌, arith}
use Rattle.std.proofs.lemmas.List.{length-map, map-append}
use Rattle.fp_edit.specs.Admits.{Admits, accepted, refusal}
use Rattle.fp_edit.specs.Edits.{Change, Proposal, change_in, proposal_of}
use Rattle.fp_edit.specs.Flags.{State}
use Rattle.fp_edit.specs.declared.edit.Edit.{Edit}
use Rattle.fp_edit.proofs.Runs.{revision-after_all}
use Rattle.fp_edit.specs.Following.{change_of, changes_of}
use Rattle.fp_group_commit.specs.Tokens.{FrontState}
use Rattle.fp_desk.specs.Desk.{DeskState, IsSound, Refuses, head, log, unsettled_count}
use Rattle.fp_desk.specs.declared.fault.SubmitFault.TheVariants.{Edit as OfEdit, QueueFull, Memory}
use Rattle.fp_desk.specs.declared.desk.TheConstants.{MOST_QUEUED}
use Rattle.fp_desk.proofs.Queues.{counted, fits_both, has_room}
use Rattle.fp_desk.proofs.Sound.{full, judged, still, waiting_on}
use Rattle.fp_desk.proofs.desk.Desk.submit.Goals as goal
use Rattle.fp_desk.proofs.desk.Desk.submit.Goals.{After-len-2, After-try_reserve, in-Put-1, in-Delete-1, in-Set-1}

module _ (c : goal.After-len-2) where
  abbrev Old : DeskState
  Old = record {
    store = c.self.inside.settled.store;
    settled = c.self.inside.settled.edits;
    drawn =
        changes_of c.self.inside.drawn.items;
    waiting = changes_of c.self.inside.waiting.items;
    stopped =
        c.self.inside.stopped;
    last = c.self.inside.settled.last;
  }

  admitted : refusal (head Old) (proposal_of c.args.edit) ≡ None
  admitted = judged Old _ _ _ c.self.invariant (proposal_of c.args.edit) _ _ c.judge.ensures c.in_default.is

  unsettled : unsettled_count Old ≡ c.len.result + c.len-2.result
  unsettled = counted c.self.inside.drawn.items c.self.inside.waiting.items _ _
      (c.len.ensures ∙ c.self.inside.drawn.ok.0) (c.len-2.ensures ∙ c.self.inside.waiting.ok.0)

  memory : c.len.result + c.len-2.result < MOST_QUEUED → Refuses c.args.self.now (proposal_of c.args.edit) Memory
  memory low = subst (λ (d : DeskState). Refuses d (proposal_of c.args.edit) Memory) c.self.view_is
      (c.if-self.false, admitted, subst (λ (n : ℕ). n < MOST_QUEUED) (sym unsettled) low)

module _ (c : goal.After-try_reserve) where
  unchanged : (record {
    store = c.self.inside.settled.store;
    settled = c.self.inside.settled.edits;
    drawn =
        changes_of c.self.inside.drawn.items;
    waiting = changes_of c.try_reserve.new.self.items;
    stopped =
        c.self.inside.stopped;
    last = c.self.inside.settled.last;
  }) ≡ c.args.self.now
  unchanged =
      ap (λ (l : List Edit). record {
        store = c.self.inside.settled.store;
        settled =
            c.self.inside.settled.edits;
        drawn = changes_of c.self.inside.drawn.items;
        waiting =
            changes_of l;
        stopped = c.self.inside.stopped;
        last = c.self.inside.settled.last;
      })
      c.try_reserve.ensures.items ∙ c.self.view_is

pub overflow_add-len : goal.overflow_add-len
overflow_add-len c = fits_both _ _ _ _ _ _ c.len.ensures c.len-2.ensures c.self.inside.drawn.small c.self.inside.waiting.small

pub returns-in-Some-clause-refused : goal.returns-in-Some-clause-refused
returns-in-Some-clause-refused c =
    subst (λ (d : DeskState). Refuses d (proposal_of c.args.edit) (OfEdit c.in-Some.fault)) c.self.view_is
    (c.if-self.false, judged _ _ _ _ c.self.invariant (proposal_of c.args.edit) _ _ c.judge.ensures c.in-Some.is)

pub returns-then-len-ge-MOST_QUEUED-clause-refused : goal.returns-then-len-ge-MOST_QUEUED-clause-refused
returns-then-len-ge-MOST_QUEUED-clause-refused c =
    let at = (goal.at.returns-then-len-ge-MOST_QUEUED-clause-refused c).After-len-2 in
    subst (λ (d : DeskState). Refuses d (proposal_of c.args.edit) QueueFull) c.self.view_is
    (c.if-self.false, admitted at, full _ _ _ _ c.self.invariant _ (unsettled at) c.if-len-ge-MOST_QUEUED.true)

pub returns-then-is_err-clause-refused : goal.returns-then-is_err-clause-refused
returns-then-is_err-clause-refused c = memory (goal.at.returns-then-is_err-clause-refused c).After-len-2 c.if-len-ge-MOST_QUEUED.false

pub returns-in_default-try_copy-clause-refused : goal.returns-in_default-try_copy-clause-refused
returns-in_default-try_copy-clause-refused c =
    memory (goal.at.returns-in_default-try_copy-clause-refused c).After-len-2 c.if-len-ge-MOST_QUEUED.false

pub returns-in-Err-clause-refused : goal.returns-in-Err-clause-refused
returns-in-Err-clause-refused c = memory (goal.at.returns-in-Err-clause-refused c).After-len-2 c.if-len-ge-MOST_QUEUED.false

pub push_back_reserved-requires : goal.push_back_reserved-requires
push_back_reserved-requires c = has_room c.try_reserve.result _ _ _ c.try_reserve.ensures.ok c.is_err.ensures.value c.if-is_err.false

pub invariant_of-self : goal.invariant_of-self
invariant_of-self c = still _ _ _ _ c.self.invariant _ _ refl (ap changes_of c.try_reserve.ensures.items)

pub invariant_of-self-in_default-try_copy : goal.invariant_of-self-in_default-try_copy
invariant_of-self-in_default-try_copy c = still _ _ _ _ c.self.invariant _ _ refl (ap changes_of c.try_reserve.ensures.items)

pub invariant_of-self-in-Err : goal.invariant_of-self-in-Err
invariant_of-self-in-Err c = still _ _ _ _ c.self.invariant _ _ c.in-Err.ensures.unchanged (ap changes_of c.try_reserve.ensures.items)

pub invariant_of-self-in-Err-2 : goal.invariant_of-self-in-Err-2
invariant_of-self-in-Err-2 c = still _ _ _ _ c.self.invariant _ _ c.in-Err.ensures.unchanged (ap changes_of c.try_reserve.ensures.items)

pub returns-then-is_err-clause-unchanged : goal.returns-then-is_err-clause-unchanged
returns-then-is_err-clause-unchanged c = unchanged (goal.at.returns-then-is_err-clause-unchanged c).After-try_reserve

pub returns-in_default-try_copy-clause-unchanged : goal.returns-in_default-try_copy-clause-unchanged
returns-in_default-try_copy-clause-unchanged c = unchanged (goal.at.returns-in_default-try_copy-clause-unchanged c).After-try_reserve

pub returns-in-Err-clause-unchanged : goal.returns-in-Err-clause-unchanged
returns-in-Err-clause-unchanged c =
    let before = unchanged (goal.at.returns-in-Err-clause-unchanged c).After-try_reserve in
    elim c.match-copy.branch [ in-Put-1 w ↦ w.self-is ∙ before | in-Delete-1 w ↦ w.self-is ∙ before | in-Set-1 w ↦ w.self-is ∙ before ]

pub returns-in-Ok-make-clause-ticket : goal.returns-in-Ok-make-clause-ticket
returns-in-Ok-make-clause-ticket c = (ap (λ (f : FrontState). f.store) c.tell.ensures, ap proposal_of c.of-shown.ensures)

module _ (c : goal.After-tell) where
  room : length (changes_of c.self.inside.drawn.items) + length (changes_of c.self.inside.waiting.items) < MOST_QUEUED
  room =
      let drawn = length-map c.self.inside.drawn.items change_of in let waiting = length-map c.self.inside.waiting.items change_of in
      let low : length c.self.inside.drawn.items + length c.self.inside.waiting.items < MOST_QUEUED = search rules in
      omega (arith, drawn, waiting, low)

  waits : changes_of c.push_back_reserved.new.self.items ≡ changes_of c.self.inside.waiting.items ++ change_of c.args.edit ∷ []
  waits =
      ap changes_of (c.push_back_reserved.ensures.items ∙ ap (λ (l : List Edit). l ++ c.in-Ok.copy ∷ []) c.try_reserve.ensures.items)
      ∙ map-append change_of c.self.inside.waiting.items (c.in-Ok.copy ∷ []) ∙
      ap (λ (p : Proposal). changes_of c.self.inside.waiting.items ++ change_in p ∷ []) c.in-Ok.ensures

  abbrev New : DeskState
  New = record {
    store = c.self.inside.settled.store;
    settled = c.self.inside.settled.edits;
    drawn =
        changes_of c.self.inside.drawn.items;
    waiting = changes_of c.push_back_reserved.new.self.items;
    stopped =
        c.self.inside.stopped;
    last = c.self.inside.settled.last;
  }

  sound : IsSound New c.make.new.self c.self.inside.base (changes_of c.self.inside.lag.items)
  sound = waiting_on _ _ _ _ c.self.invariant (proposal_of c.args.edit) c.make.new.self c.in-Ok-make.ensures.admitted
      room New refl refl refl waits

pub invariant_of-self-in-Ok-make : goal.invariant_of-self-in-Ok-make
invariant_of-self-in-Ok-make c = sound c

pub returns-in-Ok-make-clause-accepted : goal.returns-in-Ok-make-clause-accepted
returns-in-Ok-make-clause-accepted c =
    let p = proposal_of c.args.edit in
    let old = c.self.invariant.head_is in let new = (sound c).head_is in
    rw (← c.self.view_is) (record {
      open_desk = c.if-self.false;
      admitted = subst (λ (t : State). Admits t p (accepted (head (New c)))) old
          (subst (λ (t : State). Admits c.self.inside.head p (accepted t)) new c.in-Ok-make.ensures.admitted);
      room = room c;
      new_is = ap (λ (w : List Change). record {
        store = c.self.inside.settled.store;
        settled = c.self.inside.settled.edits;
        drawn =
            changes_of c.self.inside.drawn.items;
        waiting = w;
        stopped = c.self.inside.stopped;
        last =
            c.self.inside.settled.last;
      }) (waits c);
    })

pub returns-in-Ok-make-clause-revision : goal.returns-in-Ok-make-clause-revision
returns-in-Ok-make-clause-revision c =
    let revision = c.in-Ok-make.ensures.revision in
    let head_is = ap (λ (t : State). t.revision) (sound c).head_is in
    let all = revision-after_all c.self.inside.settled.store.start (log (New c)) in
    omega (arith, revision, head_is, all)
