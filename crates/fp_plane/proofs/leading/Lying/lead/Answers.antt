use Rattle.std.proofs.Common.{ap, subst, sym, ◌∙◌}
use Rattle.fp_plane.proofs.Steps.{leads}
use Rattle.fp_plane.proofs.leading.Lying.lead.Goals as goal
use Rattle.fp_plane.specs.Flushing.{PaysFirst}
use Rattle.fp_plane.specs.Lying.{LyingState}

pub returns-then-is_ok-clause-step : goal.returns-then-is_ok-clause-step
returns-then-is_ok-clause-step g c = λ alone on well.
    let D = g.D.Disk in let a = c.args.self.now in let m = c.go_on.new.self in let s = c.seal-submitted in
    let is = c.self-2.view_is in
    subst (λ (l : LyingState g.row.D.Denot). PaysFirst D a.owes_step a.half l.half) (sym is)
    (leads D a m s.new.self (c.go_on.ensures.step on) c.go_on.ensures.no_step s.ensures.broken s.ensures.course
    (sym (ap (λ (l : LyingState g.row.D.Denot). l.broken) is) ∙ well))

pub returns-else-is_ok-clause-step : goal.returns-else-is_ok-clause-step
returns-else-is_ok-clause-step g c = λ alone on well.
    let s = c.seal-submitted in
    leads g.D.Disk c.args.self.now c.go_on.new.self s.new.self (c.go_on.ensures.step on) c.go_on.ensures.no_step s.ensures.broken
    s.ensures.course well
