use Rattle.std.proofs.Common.{not, ap, ◌∙◌}
use Rattle.fp_edit.specs.Changes.{is_among}
use Rattle.fp_edit.proofs.Meeting.{among-inserted, found-among, texts}
use Rattle.fp_edit.proofs.keys.MetKeys.meet.Goals as goal

pub returns-clause-first : goal.returns-clause-first
returns-clause-first c = rw (← c.self.view_is) (c.in_ok-insert.ensures.added ∙ ap not (found-among c.args.key c.self.inside.keys.keys))

pub returns-clause-met : goal.returns-clause-met
returns-clause-met c = rw (← c.self.view_is)
    (λ k. ap (λ ks. is_among k (texts ks)) c.in_ok-insert.ensures.keys ∙
    among-inserted k c.args.key c.self.inside.keys.keys)
