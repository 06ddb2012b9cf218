use Rattle.std.proofs.Common.{◌≡◌, ◌+◌, ◌-◌, ◌++◌, length, min, take, ap, ◌∙◌, arith}
use Rattle.fp_edit.specs.declared.line.TheConstants.{LONGEST_LINE}
use Rattle.fp_session.proofs.LineLemmas.{cut-append}
use Rattle.fp_session.proofs.line.IncomingLine.extend.Goals as goal

pub returns : goal.returns
returns c = record {
  grown = λ line kept.
      let old = c.self.inside.bytes.items in
      let piece = c.args.piece.now in
      let len : c.len.result ≡ length old = omega (arith, c.self.inside.bytes.ok.0) in
      let room : c.min.result ≡ min (length piece) (LONGEST_LINE + 1 - length old) = omega arith in
      c.in_ok-extend_from_slice.ensures.items
      ∙ ap (λ k. old ++ take k piece) room
      ∙ ap (λ l. l ++ take (min (length piece) (LONGEST_LINE + 1 - length l)) piece) (c.self.view_is ∙ kept)
      ∙ cut-append (LONGEST_LINE + 1) line piece;
}
