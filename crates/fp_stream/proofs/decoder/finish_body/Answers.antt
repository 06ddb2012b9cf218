use Rattle.std.proofs.Common.{◌≡◌, ℕ, ◌-◌, List, ◌++◌, ◌∷◌, [], length, sym, ap, ap₂, subst, ◌∙◌, arith}
use Rattle.std.specs.Prelude.{slice_set}
use Rattle.std.proofs.lemmas.List.{take-append-drop, length-append}
use Rattle.fp_stream.specs.declared.frame.Frame.{Frame}
use Rattle.fp_stream.specs.Heads.{head}
use Rattle.fp_stream.specs.Frames.{Snapshot, snapshot_of, snapshots_of}
use Rattle.fp_stream.specs.Decoding.{DecodesTo}
use Rattle.fp_stream.proofs.Streams.{Leaves-finished, first_set, first_revision}
use Rattle.fp_stream.proofs.decoder.finish_body.Goals as goal

pub returns-clause-read : goal.returns-clause-read
returns-clause-read c has lawful =
    let known = c.args.known in
    let held : List ℕ = c.args.held.now.items in
    let piece : List ℕ = c.args.piece.now in
    let front : List ℕ = c.split_at.result.0.now in
    let behind : List ℕ = c.split_at.result.1.now in
    let split : piece ≡ front ++ behind = sym (take-append-drop (known.size - c.len.result) piece) ∙
    ap₂ (λ (a b : List ℕ). a ++ b) (sym c.split_at.ensures.front) (sym c.split_at.ensures.back) in
    let long : length (held ++ front) ≡ known.size =
    omega (arith, length-append held front, c.split_at.ensures.front_len, c.args.held.now.ok.0) in
    let now : List Frame = c.frames_of.new.frames.items in
    let a = c.in_ok-next.ensures in
    let place : Frame = record { revision = known.revision; body = c.new.result } in
    let adds : snapshots_of now ≡ snapshot_of place ∷ a.added =
    a.adds ∙ ap (λ (t : List Frame). snapshots_of t ++ a.added)
    (c.in_ok-push.ensures.items ∙ ap (λ (t : List Frame). t ++ place ∷ []) c.new-frames.ensures.items)
    in
    let f : Frame = record { revision = c.index_mut.result.now.revision; body = c.replace.result } in
    let rev : f.revision ≡ known.revision =
    first_revision now (snapshot_of place) a.added c.index_mut.result.now adds c.index_mut.ensures.value in
    let body : f.body.items ≡ held ++ front = ap (λ v. v.items) c.replace.ensures.value ∙ c.in_ok-extend_from_slice.ensures.items in
    let made : ℕ → List ℕ → Snapshot = λ r d. record { revision = r; document = d } in
    let set : snapshots_of (slice_set now 0 f) ≡ made known.revision (held ++ front) ∷ a.added =
    first_set now (snapshot_of place) a.added f adds ∙ ap₂ (λ (r : ℕ) (d : List ℕ). made r d ∷ a.added) rev body
    in
    subst (λ (t : List Snapshot). DecodesTo has ((head known.revision known.size ++ held) ++ piece) t c.in_ok-next.next) (sym set)
    (Leaves-finished has known.revision known.size held piece front behind a.added c.in_ok-next.next lawful long split a.leaves)
