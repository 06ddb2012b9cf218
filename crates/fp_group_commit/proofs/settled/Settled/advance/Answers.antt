use Rattle.std.proofs.Common.{◌≡◌, ◌+◌, length, sym, ap, ◌∙◌, arith}
use Rattle.fp_group_commit.specs.Tokens.{Identity, ReceiptState, SettledState}
use Rattle.fp_group_commit.proofs.Fronts.{front_more}
use Rattle.fp_group_commit.proofs.settled.Settled.advance.Goals as goal

pub returns-clause-edits : goal.returns-clause-edits
returns-clause-edits c =
    let i = c.receipt.invariant in let m = c.meets.ensures in let r = c.receipt.inside in let mine = c.self.inside.part in
    let store : r.part.store ≡ mine.store = ap (λ (x : ReceiptState). x.store) c.receipt.view_is ∙ c.requires.store ∙
    sym (ap (λ (x : SettledState). x.store) c.self.view_is) in
    let start = ap (λ (x : Identity). x.start.revision) store in
    let place = i.place in
    let first = ap (λ (x : ReceiptState). x.batch.first) c.receipt.view_is ∙ c.requires.next ∙
    sym (ap (λ (x : SettledState). x.store.start.revision + length x.edits + 1) c.self.view_is) in
    rw (← c.self.view_is, ← c.receipt.view_is)
    (front_more mine.edits i.before r.draw.changes r.part.edits m.0 m.1 m.2 i.whole
    (omega (arith, place, first, start)))
