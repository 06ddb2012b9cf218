-- The frame that is being sent to a subscriber.
use Rattle.std.proofs.Common.{◌≡◌, ◌≢◌, ◌↔◌, ℕ, List, [], ◌∷◌, ◌++◌, length, take, drop, Option}
use Rattle.std.proofs.Common.{Some, None, IsTrue, refl, sym, ap, ◌∙◌, subst, arith, append_assoc}
use Rattle.std.proofs.Common.{append-nil}
use Rattle.std.proofs.lemmas.List.{length-drop, take-append-drop}
use Rattle.std.specs.Option.{is_some, is_none}
use Rattle.std.specs.Arc.{arc_value}
use Rattle.fp_stream.specs.declared.hello.Hello.{Hello}
use Rattle.fp_stream.specs.declared.hello.Hello.TheVariants.{Has}
use Rattle.fp_stream.specs.Heads.{IsHead}
use Rattle.fp_stream.specs.Frames.{Snapshot, frame, stream_of}
use Rattle.fp_stream.proofs.Streams.{AreNews-append, has_after-append, stream_of-append}
use Rattle.fp_news.specs.declared.outgoing.Outgoing.{Outgoing}
use Rattle.fp_news.specs.declared.news.News.{Ghosts}
use Rattle.fp_news.specs.declared.outgoing.Sending.{Sending}
use Rattle.fp_news.specs.Outgoing.{left_of, rest_of, Tells}

module _ {N : Type 0} {g : Ghosts N} where
  pub left-some : (s : Sending N g) → left_of (Some s) ≢ []
  left-some s none =
      let all = s.head ++ (g.shows (arc_value s.news)).document in
      let left = length-drop s.at all in
      let empty : length (drop s.at all) ≡ 0 = ap length none in
      let within = s.within in
      absurd (omega (arith, left, empty, within))

  -- something is left just where a frame is being sent
  pub is_left : (o : Option (Sending N g)) → IsTrue (is_some o) ↔ (left_of o ≢ [])
  is_left None = (λ yes. cc, λ some. absurd (some refl))
  is_left (Some s) = (λ yes. left-some s, λ some. refl)

  pub is_not_left : (o : Option (Sending N g)) → IsTrue (is_none o) ↔ (left_of o ≡ [])
  is_not_left None = (λ yes. refl, λ none. refl)
  is_not_left (Some s) = (λ yes. cc, λ none. absurd (left-some s none))

  -- some of what is left goes
  pub tells_sent : (hello : Hello) (old new : Outgoing N g) (went : List ℕ) (begun : List Snapshot) (count : ℕ)
      → rest_of new ≡ drop count (rest_of old) → new.has ≡ old.has → Tells hello old went begun
      → Tells hello new (went ++ take count (rest_of old)) begun
  tells_sent hello old new went begun count rest same t = record {
    frames =
        append_assoc went (take count (rest_of old)) (rest_of new)
        ∙ ap (λ (l : List ℕ). went ++ (take count (rest_of old) ++ l)) rest
        ∙ ap (λ (l : List ℕ). went ++ l) (take-append-drop count (rest_of old))
        ∙ t.frames;
    news = t.news;
    has = t.has ∙ sym same;
  }

  -- a frame begins where none is being sent
  pub tells_begun : (hello : Hello) (old new : Outgoing N g) (went : List ℕ) (begun : List Snapshot) (s : Snapshot)
      → rest_of old ≡ [] → rest_of new ≡ frame s.revision s.document → new.has ≡ Has s.revision
      → IsHead old.has s.revision (length s.document) → Tells hello old went begun
      → Tells hello new went (begun ++ s ∷ [])
  tells_begun hello old new went begun s none rest has lawful t = record {
    frames =
        ap (λ (l : List ℕ). went ++ l) rest
        ∙ ap (λ (l : List ℕ). l ++ frame s.revision s.document)
        (sym (append-nil went) ∙ ap (λ (l : List ℕ). went ++ l) (sym none) ∙ t.frames)
        ∙ ap (λ (l : List ℕ). stream_of begun ++ l) (sym (append-nil (frame s.revision s.document)))
        ∙ sym (stream_of-append begun (s ∷ []));
    news =
        AreNews-append hello begun (s ∷ []) t.news
        (subst (λ (h : Hello). IsHead h s.revision (length s.document)) (sym t.has) lawful, tt);
    has = has_after-append hello begun (s ∷ []) ∙ sym has;
  }
