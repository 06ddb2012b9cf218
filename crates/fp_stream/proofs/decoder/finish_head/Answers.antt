use Rattle.std.proofs.Common.{◌≡◌, ℕ, ◌-◌, List, ◌++◌, ◌∷◌, [], length, take, drop, sym, ap, ap₂, subst, ◌∙◌, append_assoc, arith}
use Rattle.std.proofs.lemmas.List.{take-append-drop, take_all, length-drop}
use Rattle.fp_stream.specs.declared.frame.Frame.{Frame}
use Rattle.fp_stream.specs.declared.reading.Found.{Found}
use Rattle.fp_stream.specs.Frames.{Snapshot, snapshot_of, snapshots_of}
use Rattle.fp_stream.specs.Decoding.{DecodesTo}
use Rattle.fp_stream.specs.Steps.{IsWhole}
use Rattle.fp_stream.specs.Founds.{IsFound}
use Rattle.fp_stream.proofs.Streams.{Leaves-first}
use Rattle.fp_stream.proofs.decoder.finish_head.Goals as goal

pub returns : goal.returns
returns c =
    let held : List ℕ = c.args.held.now in
    let piece : List ℕ = c.args.piece.now in
    let front : List ℕ = c.split_at.result.0.now in
    let behind : List ℕ = c.split_at.result.1.now in
    let frame : Frame = c.in-Whole.frame in
    let whole : IsWhole c.args.has c.joined-head.result behind (snapshot_of frame) =
    subst (λ (x : Found). IsFound c.args.has c.joined-head.result behind x) c.in-Whole.is c.in_ok-frame.ensures in
    let split : piece ≡ front ++ behind = sym (take-append-drop (16 - length held) piece) ∙
    ap₂ (λ (a b : List ℕ). a ++ b) (sym c.split_at.ensures.front) (sym c.split_at.ensures.back) in
    let bytes : held ++ piece ≡ c.joined-head.result ++ behind =
    ap (λ (t : List ℕ). held ++ t) split ∙ sym (append_assoc held front behind) ∙
    ap (λ (t : List ℕ). t ++ behind) (sym c.joined-head.ensures)
    in
    let len : c.len.result ≡ length frame.body.items = omega (arith, frame.body.ok.0) in
    let left : take (length behind - c.len.result) (drop c.len.result behind) ≡ drop (length frame.body.items) behind =
    take_all (length behind - c.len.result) (drop c.len.result behind)
    (omega (arith, length-drop c.len.result behind)) ∙ ap (λ (n : ℕ). drop n behind) len
    in
    let a = c.in_ok-next.ensures in
    let adds : snapshots_of c.frames_of.new.frames.items ≡ snapshot_of frame ∷ a.added =
    a.adds ∙ ap (λ (t : List Frame). snapshots_of t ++ a.added)
    (c.in_ok-push.ensures.items ∙ ap (λ (t : List Frame). t ++ frame ∷ []) c.new-frames.ensures.items)
    in
    subst (λ (t : List Snapshot). DecodesTo c.args.has (held ++ piece) t c.in_ok-next.next) (sym adds)
    (Leaves-first c.args.has (held ++ piece) c.joined-head.result behind (snapshot_of frame)
    (take (length behind - c.len.result) (drop c.len.result behind)) a.added c.in_ok-next.next bytes whole left
    a.leaves)
