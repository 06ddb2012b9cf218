use Rattle.std.proofs.Common.{rules, ◌≡◌, ◌+◌, ◌∷◌, [], length, take, arith, ap, ◌∙◌, ℕ, List, slice_index, sym, add-one, suc}
use Rattle.fp_disk.specs.Crash.{byte_after_writes}
use Rattle.fp_disk.specs.Memory.{with_request, writes_after}
use Rattle.fp_disk.specs.declared.call.Request.{Request}
use Rattle.fp_disk.proofs.Crashing.{laid_more, with_request-other, writes_after-take}
use Rattle.fp_disk.proofs.crash.lay_all.Goals.{in-Write, in_default}
use Rattle.fp_disk.proofs.crash.lay_all.Goals as goal

pub loop-call-preserved : goal.loop-call-preserved
loop-call-preserved c =
    let ws = writes_after [] (take c.loop-call.call-index c.args.calls.now) in
    let more : writes_after [] (take (c.loop-call.call-index + 1) c.args.calls.now) ≡ with_request ws
    c.call-item.result.request = writes_after-take c.args.calls.now c.loop-call.call-index c.call-item.result
    c.loop-call-test.true c.call-item.is in
    let len = c.loop-call.invariant.len in let number = c.loop-call.invariant.number in let within = c.loop-call.invariant.within in
    elim c.match-call.branch [
      | in-Write w ↦
          let now : writes_after [] (take (c.loop-call.call-index + 1) c.args.calls.now) ≡
          (w.in-Write.at, w.in-Write.bytes) ∷ ws = more ∙ ap (λ (r : Request). with_request ws r) w.in-Write.is in
          let left = w.left-is in let counted = w.number-is in
          record {
            len = ap (λ (l : List ℕ). length l) left ∙ (w.lay.ensures.len ∙ len);
            number = counted ∙ (add-one c.loop-call.number ∙
                (ap (λ (n : ℕ). suc n) number ∙ sym (ap (λ (vs : List (ℕ × List ℕ)). length vs) now)));
            within = omega arith;
            places = λ k lt. ap (λ (l : List ℕ). slice_index l k) left ∙
                (laid_more c.args.fills.now c.args.rest w.nth.result ws w.in-Write.at c.loop-call.number
                w.in-Write.bytes c.args.left.now c.loop-call.left w.lay.new.left number w.nth.ensures len
                c.loop-call.invariant.places (search rules) k lt ∙
                ap (λ (vs : List (ℕ × List ℕ)). byte_after_writes c.args.fills.now c.args.rest vs k
                (slice_index c.args.left.now k)) (sym now));
          }
      | in_default w ↦
          let now : writes_after [] (take (c.loop-call.call-index + 1) c.args.calls.now) ≡ ws = more ∙
          with_request-other ws c.call-item.result.request w.in_default.not-Write in
          let left = w.left-is in let counted = w.number-is in record {
            len = ap (λ (l : List ℕ). length l) left ∙ len;
            number = counted ∙ (number ∙ sym (ap (λ (vs : List (ℕ × List ℕ)). length vs) now));
            within = omega arith;
            places = λ k lt. ap (λ (l : List ℕ). slice_index l k) left ∙
                (c.loop-call.invariant.places k lt ∙
                ap (λ (vs : List (ℕ × List ℕ)). byte_after_writes c.args.fills.now c.args.rest vs k
                (slice_index c.args.left.now k)) (sym now));
          }
    ]
