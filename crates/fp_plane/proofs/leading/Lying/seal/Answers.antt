use Rattle.std.proofs.Common.{ap, rules, sym, ◌≡◌, ◌∙◌, false}
use Rattle.std.specs.Prelude.{is_err, is_some}
use Rattle.fp_plane.proofs.LyingLemmas.{left_then}
use Rattle.fp_plane.proofs.HalfLemmas.{ours_on}
use Rattle.fp_plane.proofs.leading.Lying.seal.Goals as goal

-- the half is the plane's still
pub break_off-requires-clause-ours : goal.break_off-requires-clause-ours
break_off-requires-clause-ours g c = let k = g.K.Naming in let i = c.self.inside in let s = c.submit_and_flush-submitted in
    ours_on g.D.Disk k.store k.desk_lists k.store_lists i.half s.new.half s.ensures.course c.self.invariant.1.ours

pub invariant_of-self : goal.invariant_of-self
invariant_of-self g c =
    let k = g.K.Naming in let i = c.self.inside in let s = c.submit_and_flush-submitted in
    let well : is_some i.broken ≡ false = search rules in (
      c.self.invariant.0,
      left_then g.D.Disk k.store k.desk_lists k.store_lists i.half s.new.half i.began.log (is_some i.broken) (is_some i.broken) s.result.1
          c.self.invariant.1 well s.ensures.course s.ensures.rest s.ensures.no_failure s.ensures.cause
          (well ∙ sym (ap is_err c.in-Ok.is)),
    )

pub invariant_of-self-in-Err : goal.invariant_of-self-in-Err
invariant_of-self-in-Err g c =
    let k = g.K.Naming in let i = c.self.inside in let s = c.submit_and_flush-submitted in
    let well : is_some i.broken ≡ false = search rules in (
      c.self.invariant.0,
      left_then g.D.Disk k.store k.desk_lists k.store_lists i.half s.new.half i.began.log (is_some i.broken) _ s.result.1
          c.self.invariant.1 well s.ensures.course s.ensures.rest s.ensures.no_failure s.ensures.cause
          (sym (ap is_err c.in-Err.is)),
    )
