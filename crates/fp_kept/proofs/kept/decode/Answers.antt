use Rattle.std.proofs.Common.{◌≡◌, ℕ, ◌-◌, true, false, List, ◌++◌, length, Option, Some, None, Result, Ok, Err, IfOk}
use Rattle.std.proofs.Common.{sym, ap, ap₂, ◌∙◌, length-append, arith}
use Rattle.std.proofs.lemmas.List.{take-append-drop}
use Rattle.sha2.specs.Sha256.{sha256}
use Rattle.sha2.proofs.Facts256.{length-sha256}
use Rattle.fp_stream.specs.declared.frame.Frame.{Frame}
use Rattle.fp_stream.specs.Frames.{Snapshot}
use Rattle.fp_kept.specs.Kept.{IsFrame, IsKept, frame_of, kept_as}
use Rattle.fp_kept.proofs.Digests.{digest-of, text-of}
use Rattle.fp_kept.proofs.kept.decode.Goals as goal

-- what a text is, its text with its digest is kept as
whole : {E : Type 0} (r : Result (Option Frame) E) (bytes text : List ℕ) → bytes ≡ kept_as text →
    IfOk r (IsFrame text) → ((s : Snapshot) → bytes ≡ kept_as (frame_of s) → text ≡ frame_of s)
    → IfOk r (IsKept bytes)
whole (Ok (Some f)) bytes text is p back = (p.0, is ∙ ap kept_as p.1)
whole (Ok None) bytes text is p back = λ s lawful same. p s lawful (back s same)
whole (Err e) bytes text is p back = tt

pub returns-then-bytes-lt-DIGEST : goal.returns-then-bytes-lt-DIGEST
returns-then-bytes-lt-DIGEST c = λ s lawful is.
    let all = ap length is in absurd (omega (arith, all, length-append (frame_of s) (sha256 (frame_of s)), length-sha256 (frame_of s)))

pub returns : goal.returns
returns c = λ s lawful is.
    let bytes = c.args.bytes.now in let text = c.split_at.result.0.now in
    let same : c.split_at.result.1.now ≡ sha256 text = c.split_at.ensures.back ∙ digest-of bytes (frame_of s) is
    ∙ ap sha256 (sym (text-of bytes (frame_of s) is) ∙ sym c.split_at.ensures.front) in
    let both : true ≡ false = sym (c.is_digest.ensures.1 same) ∙ c.if-is_digest.false in absurd cc

pub returns-then-is_digest : goal.returns-then-is_digest
returns-then-is_digest c =
    let bytes = c.args.bytes.now in let text = c.split_at.result.0.now in
    let parts : bytes ≡ text ++ sha256 text = sym (take-append-drop (length bytes - 32) bytes)
    ∙ ap₂ (λ (a b : List ℕ). a ++ b) (sym c.split_at.ensures.front)
    (sym c.split_at.ensures.back ∙ c.is_digest.ensures.0 c.if-is_digest.true) in
    whole c.only_frame.result bytes text parts c.only_frame.ensures (λ s same. c.split_at.ensures.front ∙ text-of bytes (frame_of s) same)
