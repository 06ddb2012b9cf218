use Rattle.std.proofs.Common.{◌≡◌, ◌+◌, ◌-◌, length, length-take, length-drop, take, drop, sym, ap, ◌∙◌, arith}
use Rattle.std.proofs.lemmas.List.{drop-drop, drop-take}
use Rattle.fp_session.proofs.chunk.Chunk.skip.Goals as goal

pub returns : goal.returns
returns c =
    let s = c.self.inside in let n = c.args.count in let at = drop s.at s.bytes in
    let m = s.end - (s.at + n) in
    let len : s.end - s.at ≡ n + m =
    omega (
      arith,
      c.requires,
      c.self.invariant,
      ap length c.self.view_is,
      length-take (s.end - s.at) at,
      length-drop s.at s.bytes,
    ) in
    ap (take m) (sym (drop-drop n s.at s.bytes)) ∙ sym (drop-take n m at) ∙ ap (λ k. drop n (take k at)) (sym len) ∙
    ap (drop n) c.self.view_is
