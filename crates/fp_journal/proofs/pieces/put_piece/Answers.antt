use Rattle.std.proofs.Common.{◌≡◌, ◌∙◌, ◌+◌, ◌++◌, ℕ, List, length, refl, ap, arith}
use Rattle.fp_journal.proofs.OnlyReading.{piece_more}
use Rattle.fp_journal.proofs.pieces.put_piece.Goals as goal

pub returns-clause-stands : goal.returns-clause-stands
returns-clause-stands g c = λ h.
    let old = c.args.bytes.now.items in let first = c.args.first in let count = c.args.count in let piece = c.in_ok-piece.piece.items in
    let len = c.len.ensures in let ok = c.args.bytes.now.ok.0 in
    let at : first + c.len.result ≡ first + length old = omega (arith, len, ok) in
    let grown : c.extend_from_slice.new.self.items ≡ old ++ piece = c.in_ok-extend_from_slice.ensures.items ∙
    ap (λ (t : List ℕ). old ++ t) c.deref.ensures.value in
    piece_more (g.D.Disk.bytes c.args.disk.now) first count (first + c.len.result) count old piece
    c.extend_from_slice.new.self.items (c.requires.stands h) (c.requires.within h) at refl
    (c.in_ok-piece.ensures.bytes h) grown
