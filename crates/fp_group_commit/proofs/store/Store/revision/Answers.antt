use Rattle.std.proofs.Common.{rules, ◌≡◌, length, ap, arith}
use Rattle.std.proofs.lemmas.List.{length-map}
use Rattle.fp_edit.specs.Flags.{State}
use Rattle.fp_edit.proofs.Runs.{revision-after_all}
use Rattle.fp_edit.specs.Following.{change_of, changes_of}
use Rattle.fp_group_commit.proofs.store.Store.revision.Goals as goal

pub returns : goal.returns
returns g c =
    let s = c.self.inside in
    let len : c.len.result ≡ length s.ahead.items = search rules in
    let changes = length-map s.ahead.items change_of in
    let here = revision-after_all s.set (changes_of s.ahead.items) in
    let there = revision-after_all s.origin s.sealed.log in
    let same = ap (λ (t : State). t.revision) c.self.invariant.set_is in
    let is = c.revision.ensures.revision in
    rw (← c.self.view_is) (omega (arith, len, changes, here, there, same, is))
