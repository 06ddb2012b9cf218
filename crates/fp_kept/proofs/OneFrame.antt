-- Bytes that are one frame, and what a decoder gives of them.
use Rattle.std.proofs.Common.{◌≡◌, ℕ, List, [], ◌∷◌, length, sym, ap, subst, ◌∙◌, append-nil}
use Rattle.std.proofs.lemmas.List.{length-map}
use Rattle.fp_stream.specs.declared.frame.Frame.{Frame}
use Rattle.fp_stream.specs.declared.hello.Hello.TheVariants.{Nothing}
use Rattle.fp_stream.specs.Decoding.{HasRead, Reader}
use Rattle.fp_stream.specs.Frames.{Snapshot, AreNews, snapshot_of, snapshots_of, stream_of}
use Rattle.fp_kept.specs.Kept.{IsCarried, frame_of}

-- what is said of what was written
abbrev pub IsReadBack : Type 0
IsReadBack = (snapshots given : List Snapshot) (now : Reader) → AreNews Nothing snapshots →
    HasRead Nothing (stream_of snapshots) given now → given ≡ snapshots

-- bytes that are a frame give it alone
pub given : IsReadBack → (text : List ℕ) (frames : List Frame) (now : Reader) →
    HasRead Nothing text (snapshots_of frames) now → (s : Snapshot) → IsCarried s → text ≡ frame_of s →
    snapshots_of frames ≡ s ∷ []
given law text frames now h s lawful is =
    law (s ∷ []) (snapshots_of frames) now (lawful, tt)
    (subst (λ (t : List ℕ). HasRead Nothing t (snapshots_of frames) now) (is ∙ sym (append-nil (frame_of s))) h)

-- one snapshot is one frame's
pub one-length : (items : List Frame) (s : Snapshot) → snapshots_of items ≡ s ∷ [] → length items ≡ 1
one-length items s one = sym (length-map items snapshot_of) ∙ ap length one
