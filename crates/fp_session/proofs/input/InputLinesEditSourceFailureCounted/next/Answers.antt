use Rattle.std.proofs.Common.{refl, sym}
use Rattle.fp_edit.specs.Line.{line_of}
use Rattle.fp_session.proofs.Readings.{fewer-last, next-going, next-last}
use Rattle.fp_session.proofs.input.InputLinesEditSourceFailureCounted.next.Goals as goal

pub returns-then-self-clause-next : goal.returns-then-self-clause-next
returns-then-self-clause-next g c =
    let was = c.self.inside in
    next-last was.is_ended was.line was.chunk c.end.new.self c.args.self.now c.if-self.true
    (c.self.invariant c.if-self.true) c.end.ensures.ended c.self.view_is (λ s. g.R.Read.remaining s.inner)
    c.end.result (line_of was.line) refl
    (c.end.ensures.asks was.line (sym c.end.ensures.limited))

pub returns-then-self-clause-fewer : goal.returns-then-self-clause-fewer
returns-then-self-clause-fewer g c =
    let was = c.self.inside in
    fewer-last was.is_ended was.line was.chunk c.end.new.self c.args.self.now c.if-self.true
    (c.self.invariant c.if-self.true) c.end.ensures.ended c.self.view_is c.end.result (line_of was.line)
    (c.end.ensures.asks was.line (sym c.end.ensures.limited))

pub returns-clause-next : goal.returns-clause-next
returns-clause-next g c =
    let was = c.self.inside in
    next-going (λ s. g.R.Read.remaining s.inner) was.is_ended was.line was.chunk c.next_line.new.line
    c.next_line.new.chunk c.args.self.now c.next_line.result c.if-self.false c.self.view_is
    c.next_line.ensures.next
