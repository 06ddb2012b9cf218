use Rattle.std.proofs.Common.{◌≡◌, ◌++◌, List, [], refl, sym, ap, ◌∙◌}
use Rattle.fp_committer.specs.StoreHalf.{StoreHalfState}
use Rattle.fp_desk.specs.Desk.{DeskState, head}
use Rattle.fp_edit.specs.Edits.{Change}
use Rattle.fp_group_commit.specs.Tokens.{Identity}
use Rattle.fp_session.specs.Session.{AreAtRest, AreOne}
use Rattle.fp_session.proofs.Commits.{in_step}
use Rattle.fp_session.proofs.disk_session.DiskSession.new.Goals as goal

pub returns-in-Ok-clause-made : goal.returns-in-Ok-clause-made
returns-in-Ok-clause-made g c =
    let a = c.in-Ok.desk in let b = c.in-Ok.store in let w = c.in-Ok.ensures in let shown = c.rest.ensures in
    let one : AreOne a b = record { halves = w.halves.0; agree = w.halves.1; whole = shown.whole } in
    let rest : AreAtRest a b = (
      ap (λ (x : StoreHalfState g.row.D.Denot). x.progress) w.store,
      ap (λ (x : StoreHalfState g.row.D.Denot). x.store.failed) w.store ∙ c.requires.fresh.well,
      ap (λ (x : DeskState). x.stopped) w.desk,
    ) in
    (ap (λ (x : StoreHalfState g.row.D.Denot). x.store) w.store, (refl, in_step a b one g.D.Disk rest (shown.idle rest.0) shown.exit))

pub returns-in-Ok-clause-begins : goal.returns-in-Ok-clause-begins
returns-in-Ok-clause-begins g c =
    let b = c.in-Ok.store in let w = c.in-Ok.ensures in let shown = c.rest.ensures in
    let settled : b.half.settled ≡ [] = w.halves.1.0 ∙ ap (λ (x : DeskState). x.settled) w.desk in
    let idle = shown.idle (ap (λ (x : StoreHalfState g.row.D.Denot). x.progress) w.store) in record {
      start = ap head w.desk ∙ ap (λ (x : Identity). x.start) (sym (w.halves.0.same ∙ ap (λ (d : DeskState). d.store) w.desk));
      none = (shown.whole ∙ ap (λ (l : List Change). l ++ b.drawn) settled ∙ idle.1, settled);
      exit = shown.exit;
    }
