use Rattle.std.proofs.Common.{◌≡◌, ap, ◌∙◌}
use Rattle.fp_edit.specs.Flags.{State}
use Rattle.fp_edit.specs.Following.{changes_of}
use Rattle.fp_edit.proofs.Followed.{limit-after_all}
use Rattle.fp_desk.specs.Desk.{log, most_of}
use Rattle.fp_desk.proofs.desk.Desk.longest_body.Goals as goal

pub returns : goal.returns
returns c =
    let i = c.self.inside in
    let limit : c.limit.result ≡ i.settled.store.start.limit = c.limit.ensures ∙ ap (λ (t : State). t.limit) c.self.invariant.head_is
    ∙ limit-after_all i.settled.store.start
    (log (record {
      store = i.settled.store;
      settled = i.settled.edits;
      drawn =
          changes_of i.drawn.items;
      waiting = changes_of i.waiting.items;
      stopped = i.stopped;
      last =
          i.settled.last;
    })) in
    let most = c.saturating_sub.ensures in
    rw (← c.self.view_is) (most ∙ ap most_of limit)
