use Rattle.std.proofs.Common.{◌≡◌, ◌≤◌, ◌<◌, ◌^◌, ℕ, List, IsSomeAnd, length, sym, subst, ◌∙◌, rules}
use Rattle.std.specs.Io.KnownBytes.{Appends}
use Rattle.fp_documents.specs.Document.{document}
use Rattle.fp_group_commit.specs.Tokens.{FrontState, front_revision, front_set}
use Rattle.fp_publish.specs.Fronts.{Begins}
use Rattle.fp_publish.specs.Seats.{had_by}
use Rattle.fp_stream.specs.Frames.{frame}
use Rattle.fp_stream.specs.declared.head.TheConstants.{MOST_BODY}
use Rattle.fp_stream.specs.declared.hello.Hello.{Hello}
use Rattle.fp_conversations.specs.Sending.{IsSent}
use Rattle.fp_conversations.proofs.SendingLemmas.{fewer_left, news_left, sent-as, sent-more}
use Rattle.fp_conversations.proofs.subscriber.serve_seat.Goals as goal

-- what was handed is of the plane's store
pub keep_greater-requires-clause-more : goal.keep_greater-requires-clause-more
keep_greater-requires-clause-more g c =
    subst (λ (s : FrontState). s.store ≡ g.K.Naming.store) (sym c.shown.ensures) c.in-Ok.ensures.ours

-- nothing of what is too long is sent
pub returns-then-document-gt-MOST_BODY-clause-sent :
    goal.returns-then-document-gt-MOST_BODY-clause-sent
returns-then-document-gt-MOST_BODY-clause-sent g c = λ had before sent.
    let front = c.in-Ok.handed in let news = c.in-Ok.ensures.news in let keeps = c.keep_greater.ensures in
    let now = c.keep_greater.new.shown in let held = g.O.Write.contents c.loop-handed.w.inner in
    let long : MOST_BODY < length (document (front_set front).flags) = search rules in (
      had_by c.loop-handed.seat,
      sent-as c.loop-handed.shown now had (had_by c.loop-handed.seat) before held
          (c.loop-handed.invariant.2 had before sent) keeps.kept,
      record {
        front = front;
        begins = subst (λ (s : FrontState). IsSomeAnd now (Begins s)) c.shown.ensures keeps.more;
        news = news.0;
        long = long;
      },
    )

pub loop-handed-preserved : goal.loop-handed-preserved
loop-handed-preserved g c =
    let front = c.in-Ok.handed in let news = c.in-Ok.ensures.news in let keeps = c.keep_greater.ensures in
    let now = c.keep_greater.new.shown in let counted = c.in_ok-write_frame.ensures.counted in (
      counted ∙ c.loop-handed.invariant.0,
      keeps.ours,
      λ had before sent.
          let was = c.loop-handed.invariant.2 had before sent in
          let held = g.O.Write.contents c.loop-handed.w.inner in let then = g.O.Write.contents c.write_frame.new.w.inner in
          let text = c.document-in-loop-handed.result.now in
          let numbered : Appends held then (frame (front_revision front) text) =
          subst (λ (n : ℕ). Appends held then (frame n text)) c.revision.ensures
          c.in_ok-write_frame.ensures.frame in
          let written : Appends held then (frame (front_revision front) (document (front_set front).flags)) =
          subst (λ (d : List ℕ). Appends held then (frame (front_revision front) d)) c.document-in-loop-handed.ensures
          numbered in
          let fits : front_revision front < 2 ^ 64 = search rules in
          let short : length (document (front_set front).flags) ≤ MOST_BODY = search rules in
          let begins = subst (λ (s : FrontState). IsSomeAnd now (Begins s)) c.shown.ensures keeps.more in
          subst (λ (h : Hello). IsSent now had h before then) (sym news.1)
          (sent-more c.loop-handed.shown now had (had_by c.loop-handed.seat) before held
          then front was keeps.kept begins news.0 fits short written),
    )

-- fewer revisions may be news
pub loop-handed-smaller : goal.loop-handed-smaller
loop-handed-smaller g c =
    let front = c.in-Ok.handed in let news = c.in-Ok.ensures.news in
    let fits : front_revision front < 2 ^ 64 = search rules in
    subst (λ (h : Hello). news_left h < news_left (had_by c.loop-handed.seat)) (sym news.1)
    (fewer_left (had_by c.loop-handed.seat) (front_revision front) news.0 fits)

-- the plane was stopped, or it has left
pub returns-in-Err-clause-sent : goal.returns-in-Err-clause-sent
returns-in-Err-clause-sent g c = λ had before sent. (had_by c.loop-handed.seat, c.loop-handed.invariant.2 had before sent, tt)
