use Rattle.std.proofs.Common.{◌≡◌, ◌+◌, ℕ, Bool, List, MatchOption, Option, Result, true, false, subst, ◌∙◌, take_all, arith}
use Rattle.fp_edit.specs.Line.{line_of}
use Rattle.fp_edit.specs.declared.edit.Edit.{Edit}
use Rattle.fp_edit.specs.declared.line.LineFault.{LineFault}
use Rattle.fp_edit.specs.declared.line.TheConstants.{LONGEST_LINE}
use Rattle.fp_session.specs.Asks.{Ask}
use Rattle.fp_session.specs.Lines as lines
use Rattle.fp_session.specs.Lines.{line_up_to_limit}
use Rattle.fp_session.specs.Progress.{AsksFor}
use Rattle.fp_session.proofs.LineLemmas.{cut-same}
use Rattle.fp_session.proofs.line.IncomingLine.end.Goals as goal

abbrev Asked : Option (Result Edit LineFault) → Bool → Ask → Type 0
Asked o blank x = MatchOption o (blank ≡ true) (λ edit. (blank ≡ false) × AsksFor edit x)

pub returns-clause-asks : goal.returns-clause-asks
returns-clause-asks c = λ line kept.
    let same = cut-same line in
    subst (λ (b : Bool). Asked c.asked_by-edit.result b (line_of line)) same.0
    (subst (λ (x : Ask). Asked c.asked_by-edit.result (lines.is_blank (line_up_to_limit line)) x) same.1
    (subst (λ (l : List ℕ). Asked c.asked_by-edit.result (lines.is_blank l) (line_of l))
    (c.deref.ensures.value ∙ c.self.view_is ∙ kept) c.asked_by-edit.ensures))

pub returns-clause-limited : goal.returns-clause-limited
returns-clause-limited c = subst (λ (l : List ℕ). line_up_to_limit l ≡ l) c.self.view_is
    (take_all (LONGEST_LINE + 1) c.self.inside.bytes.items (omega (arith, c.self.invariant)))
