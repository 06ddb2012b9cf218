use Rattle.std.proofs.Common.{◌≡◌, ◌+◌, nat_lt, length, refl, sym, ap, ◌∙◌}
use Rattle.fp_group_commit.specs.Tokens.{FrontState, Identity}
use Rattle.fp_publish.proofs.FrontLemmas.{compared}
use Rattle.fp_publish.proofs.shown.Shown.is_behind.Goals as goal

pub returns : goal.returns
returns c =
    let mine = c.self.inside.front in let its = c.other.inside.front in
    let store : mine.store ≡ its.store = ap (λ (x : FrontState). x.store) c.self.view_is ∙ c.requires ∙
    sym (ap (λ (x : FrontState). x.store) c.other.view_is) in
    let m = c.meets.ensures in
    rw (← c.self.view_is, ← c.other.view_is)
    (compared (nat_lt c.self.inside.revision c.other.inside.revision) its.store.start.revision
    c.self.inside.revision c.other.inside.revision mine.edits its.edits m.0 refl m.1 m.2
    (c.self.invariant ∙ ap (λ (x : Identity). x.start.revision + length mine.edits) store) c.other.invariant)
