use Rattle.std.proofs.Common.{rules, ◌≡◌, List, [], sym, ap, ◌∙◌, arith}
use Rattle.std.proofs.lemmas.List.{append-nil}
use Rattle.fp_edit.specs.Edits.{Change}
use Rattle.fp_group_commit.specs.Tokens.{FrontState, Identity, front_revision}
use Rattle.fp_group_commit.proofs.Fronts.{front_more}
use Rattle.fp_publish.proofs.shown.Shown.is_same.Goals as goal

pub returns : goal.returns
returns c =
    let mine = c.self.inside.front in let its = c.other.inside.front in
    let store : mine.store ≡ its.store = ap (λ (x : FrontState). x.store) c.self.view_is ∙ c.requires ∙
    sym (ap (λ (x : FrontState). x.store) c.other.view_is) in
    let m = c.meets.ensures in
    let a = c.self.invariant in let b = c.other.invariant in let start = ap (λ (x : Identity). x.start.revision) store in (
      λ same_revision.
          let same : c.self.inside.revision ≡ c.other.inside.revision = search rules in
          let edits : mine.edits ≡ its.edits =
          sym (front_more mine.edits its.edits [] its.edits m.0 m.1 m.2 (sym (append-nil its.edits))
          (omega (arith, same, a, b, start)) ∙ append-nil mine.edits) in
          rw (← c.self.view_is, ← c.other.view_is)
          (ap (λ (i : Identity). record { store = i; edits = mine.edits }) store ∙
          ap (λ (l : List Change). record { store = its.store; edits = l }) edits),
      λ same.
          let equal : c.self.inside.revision ≡ c.other.inside.revision = a ∙
          ap front_revision (c.self.view_is ∙ same ∙ sym c.other.view_is) ∙ sym b in
          search (rules, equal),
    )
