use Rattle.std.proofs.Common.{false, [], IfSome, subst}
use Rattle.fp_base.proofs.Known.{IfSome-each}
use Rattle.fp_session.specs.Asks.{asked_by_input}
use Rattle.fp_session.specs.Progress.{EndsOver}
use Rattle.fp_session.specs.Sources.{AskLines, LinesState}
use Rattle.fp_session.proofs.Endings.{promised}
use Rattle.fp_session.proofs.Readings.{lines-start, lines_at}
use Rattle.fp_session.proofs.input.apply_lines.Goals as goal

pub returns-clause-runs : goal.returns-clause-runs
returns-clause-runs g c =
    let a = c.answer_all-outcome in let st = g.E.EditStore in let first = c.args.edits in let now = a.new.edits in
    let reads = g.R.Read.remaining c.args.r.now.inner in
    let old = g.W.Write.contents c.args.w.now.inner in let new = g.W.Write.contents a.new.w.inner in
    let f0 = c.args.w.now.failures in let f = a.new.w.failures in
    promised st first now 1 (AskLines (lines_at false [] []) reads) old new f0 f
    (λ Holds. IfSome reads (λ input. Holds (asked_by_input input)))
    (λ P h. IfSome-each reads (λ input. P (asked_by_input input))
    (λ input is. h (asked_by_input input) (lines-start reads input is))) a.result
    (subst (λ (l : LinesState). EndsOver st 1 first now (AskLines l reads) old new f0 f a.result) c.new-lines.ensures a.ensures.ends)
