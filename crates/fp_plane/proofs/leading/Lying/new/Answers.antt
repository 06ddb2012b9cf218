use Rattle.std.proofs.Common.{◌∷◌, [], List, ap, ◌++◌, ◌∙◌}
use Rattle.fp_committer.specs.StoreHalf.{StoreHalfState}
use Rattle.fp_plane.proofs.LyingLemmas.{left_first}
use Rattle.fp_plane.proofs.leading.Lying.new.Goals as goal

pub invariant_of-lying : goal.invariant_of-lying
invariant_of-lying g c =
    let k = g.K.Naming in let h = c.args.half in let l = c.lengthen-front in
    let only = l.ensures.1 ∙ ap (λ (xs : List (StoreHalfState g.row.D.Denot)). xs ++ (h ∷ [])) c.requires.fresh in (
      l.ensures.0 ∙ c.requires.named,
      left_first g.D.Disk k.store k.desk_lists k.store_lists c.into_half-half.result h l.new.self.log c.into_half-half.ensures only
          c.rest.ensures.exit c.requires.ours c.requires.rest,
    )
