use Rattle.std.proofs.Common.{rules, ◌≡◌, ◌∙◌, [], false, refl, ap, sym}
use Rattle.fp_journal.specs.declared.journal.Phase.{Phase}
use Rattle.fp_journal.specs.State.{has_begun}
use Rattle.fp_edit.specs.Following.{changes_of}
use Rattle.fp_group_commit.specs.declared.phase.Phase.TheVariants.{Idle}
use Rattle.fp_group_commit.proofs.Steps as steps
use Rattle.fp_group_commit.proofs.store.Store.adopt.Goals as goal

pub invariant_of-store : goal.invariant_of-store
invariant_of-store g c =
    let D = g.D.Disk in let t = c.args.slots in
    let log : c.new-sealed.result.0.log ≡ [] = search rules in
    let begun : t.journal.begun ≡ false = sym c.phase.ensures.begun ∙ ap (λ (p : Phase). has_begun p t.journal.begun) c.requires.rest.0 in
    steps.sound_new D.honest D.unsynced
    (record {
      store = record { name = c.new-sealed.result.0.name; start = c.of-origin.result };
      sealed =
          c.new-sealed.result.0.log;
      staged = c.new-4.result.changes;
      phase = Idle;
      slots = t;
    })
    c.args.set c.of-origin.ensures log refl c.requires.rest.0 begun c.requires.rest.1 c.requires.kept
    c.args.own c.requires.same c.new-4.result.first (changes_of c.new.result.items) (changes_of c.new-2.result.items)
    (ap changes_of c.new.ensures.items)

pub returns-clause-outcomes : goal.returns-clause-outcomes
returns-clause-outcomes g c =
    let D = g.D.Disk in let t = c.args.slots in
    let log : c.new-sealed.result.0.log ≡ [] = search rules in
    let begun : t.journal.begun ≡ false = sym c.phase.ensures.begun ∙ ap (λ (p : Phase). has_begun p t.journal.begun) c.requires.rest.0 in
    steps.now D (steps.sound_new D.honest D.unsynced
    (record {
      store = record { name = c.new-sealed.result.0.name; start = c.of-origin.result };
      sealed =
          c.new-sealed.result.0.log;
      staged = c.new-4.result.changes;
      phase = Idle;
      slots = t;
    })
    c.args.set c.of-origin.ensures log refl c.requires.rest.0 begun c.requires.rest.1 c.requires.kept
    c.args.own c.requires.same c.new-4.result.first (changes_of c.new.result.items) (changes_of c.new-2.result.items)
    (ap changes_of c.new.ensures.items)) c.phase.ensures.outcomes
