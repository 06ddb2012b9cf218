use Rattle.std.proofs.Common.{◌≡◌, None, Some, rules, refl, ap, ◌∙◌, sym}
use Rattle.fp_stream.specs.Decoding.{Reader}
use Rattle.fp_stream.proofs.Feeding.{after_fault, after_piece}
use Rattle.fp_stream.proofs.decoder.Decoder.feed.Goals as goal

pub returns-in-Some-clause-so_far : goal.returns-in-Some-clause-so_far
returns-in-Some-clause-so_far c has bytes frames h =
    let owed : c.args.self.now.owed ≡ Some c.in-Some.fault = sym (ap (λ (r : Reader). r.owed) c.self.view_is) ∙ c.in-Some.is in
    after_fault has bytes frames c.args.piece.now c.args.self.now _ c.in-Some.fault h owed refl

pub returns-clause-so_far : goal.returns-clause-so_far
returns-clause-so_far c has bytes frames h =
    let none : c.args.self.now.owed ≡ None = search rules in
    after_piece has bytes frames c.args.piece.now c.args.self.now c.read_on.new.self c.read_on.result h none c.read_on.ensures
