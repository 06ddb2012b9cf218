use Rattle.std.proofs.Common.{rules, ◌≡◌, ◌-◌, ◌≤◌, length, sym, ap, ◌∙◌, arith, length-append}
use Rattle.std.proofs.lemmas.List.{length-map}
use Rattle.fp_edit.specs.Following.{change_of, changes_of}
use Rattle.fp_group_commit.specs.Tokens.{EndsWith, FrontState, Identity}
use Rattle.fp_group_commit.proofs.Fronts.{front_more}
use Rattle.fp_publish.proofs.shown.Shown.is_just_before.Goals as goal

pub returns-then-self-other : goal.returns-then-self-other
returns-then-self-other c same_gap =
    let mine = c.self.inside.front in let its = c.other.inside.front in
    let store : mine.store ≡ its.store = ap (λ (x : FrontState). x.store) c.self.view_is ∙ c.requires.store ∙
    sym (ap (λ (x : FrontState). x.store) c.other.view_is) in
    let m = c.meets.ensures in
    let last : EndsWith its.edits (changes_of c.args.last.now) = rw c.other.view_is c.requires.last in
    let le : c.self.inside.revision ≤ c.other.inside.revision = search rules in
    let gap : c.other.inside.revision - c.self.inside.revision ≡ length c.args.last.now = search rules in
    let a = c.self.invariant in let b = c.other.invariant in let start = ap (λ (x : Identity). x.start.revision) store in
    let len = ap length last.1 ∙ length-append last.0 (changes_of c.args.last.now) in let map = length-map c.args.last.now change_of in
    rw (← c.self.view_is, ← c.other.view_is)
    (front_more mine.edits last.0 (changes_of c.args.last.now) its.edits m.0 m.1 m.2 last.1
    (omega (arith, le, gap, a, b, start, len, map)))
