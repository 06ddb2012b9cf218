use Rattle.std.proofs.Common.{◌≡◌, ℕ, ◌-◌, List, ◌++◌, ◌∷◌, [], length, take, drop, sym, ap, ap₂, subst, ◌∙◌, arith}
use Rattle.std.proofs.lemmas.List.{take-append-drop, take_all, length-drop}
use Rattle.fp_stream.specs.declared.hello.Hello.TheVariants.{Has}
use Rattle.fp_stream.specs.declared.frame.Frame.{Frame}
use Rattle.fp_stream.specs.Steps.{Passes, IsWhole}
use Rattle.fp_stream.specs.Founds.{IsFound}
use Rattle.fp_stream.specs.declared.reading.Found.{Found}
use Rattle.fp_stream.specs.Frames.{snapshot_of}
use Rattle.fp_stream.proofs.Streams.{Passes-push}
use Rattle.fp_stream.proofs.reading.frames_of.Goals as goal

pub loop-rest-preserved : goal.loop-rest-preserved
loop-rest-preserved c =
    let frame = c.in-Whole.frame in
    let rest = c.loop-rest.rest.now in
    let front = c.split_at.result.0.now in
    let behind = c.split_at.result.1.now in
    let split : rest ≡ front ++ behind = sym (take-append-drop 16 rest) ∙
    ap₂ (λ (a b : List ℕ). a ++ b) (sym c.split_at.ensures.front) (sym c.split_at.ensures.back) in
    let whole : IsWhole c.loop-rest.has front behind (snapshot_of frame) =
    subst (λ (x : Found). IsFound c.loop-rest.has front behind x) c.in-Whole.is c.in_ok-frame.ensures in
    let len : c.len.result ≡ length frame.body.items = omega (arith, frame.body.ok.0) in
    let left : take (length behind - c.len.result) (drop c.len.result behind) ≡ drop (length frame.body.items) behind =
    take_all (length behind - c.len.result) (drop c.len.result behind)
    (omega (arith, length-drop c.len.result behind)) ∙ ap (λ (n : ℕ). drop n behind) len
    in
    let items : c.push.new.self.items ≡ c.loop-rest.frames.items ++ frame ∷ [] = c.in_ok-push.ensures.items in
    subst (λ (t : List ℕ). Passes c.args.has c.args.bytes.now c.args.frames.now.items c.push.new.self.items
    (Has frame.revision) t) (sym left)
    (subst (λ (t : List Frame). Passes c.args.has c.args.bytes.now c.args.frames.now.items t (Has frame.revision)
    (drop (length frame.body.items) behind)) (sym items)
    (Passes-push c.args.has c.args.bytes.now c.args.frames.now.items c.loop-rest.frames.items c.loop-rest.has rest
    front behind frame c.loop-rest.invariant split whole))
