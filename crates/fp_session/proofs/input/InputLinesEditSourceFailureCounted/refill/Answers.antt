use Rattle.std.proofs.Common.{◌≡◌, sym, subst, arith}
use Rattle.fp_session.specs.Sources.{AskLines, LinesState, bytes_at_hand}
use Rattle.fp_session.proofs.Readings.{lines-filled}
use Rattle.fp_session.proofs.input.InputLinesEditSourceFailureCounted.refill.Goals as goal

pub returns-clause-more : goal.returns-clause-more
returns-clause-more g c = λ all a.
    let old = g.R.Read.remaining c.args.reader.now.inner in let was = c.self.inside in
    let empty = subst (λ (l : LinesState). bytes_at_hand l ≡ 0) (sym c.self.view_is) c.requires in (
      lines-filled old (g.R.Read.remaining c.fill.new.r.inner) was.is_ended was.line was.chunk c.fill.new.self
          c.in_ok-is_more.is_more c.if-self.false (omega (arith, empty)) c.in_ok-is_more.ensures.bytes
          c.in_ok-is_more.ensures.end all
          (subst (λ (l : LinesState). AskLines l old all) (sym c.self.view_is) a),
      λ e. absurd cc,
    )
