use Rattle.std.proofs.Common.{ap, ◌∙◌}
use Rattle.std.specs.Prelude.{is_some}
use Rattle.fp_plane.specs.Lying.{LyingState}
use Rattle.fp_plane.proofs.LyingLemmas.{flushed}
use Rattle.fp_plane.proofs.leading.Lying.into_flushed.Goals as goal

pub returns : goal.returns
returns g c = λ first front.
    let k = g.K.Naming in let i = c.self.inside in
    rw (c.new.ensures) (flushed g.D.Disk k.store k.desk_lists k.store_lists g.met.D.Disk.only_now i.half first i.began.log
    c.args.began.now.log (is_some i.broken) c.self.invariant.1 c.confirm.ensures front _
    (ap (λ (l : LyingState g.row.D.Denot). l.broken) c.self.view_is ∙ c.requires.ended))
