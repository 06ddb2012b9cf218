-- Frames, one behind the other.
use Rattle.std.proofs.Common.{◌≡◌, ◌<◌, ◌≤◌, ◌+◌, ◌-◌, ◌^◌, ℕ, Bool, true, false, List, [], ◌∷◌, ◌++◌, Option, None, Some, IsSomeAnd}
use Rattle.std.proofs.Common.{length, map, sym, ap, subst, ◌∙◌, append-nil, slice_index_or, arith}
use Rattle.std.specs.Prelude.{MatchBool}
use mathlib.Core.List.{IsPrefix}
use Rattle.std.proofs.lemmas.List.{map-append}
use Rattle.std.proofs.lemmas.List.Elements.{All-push}
use Rattle.std.specs.Io.KnownBytes.{Appends}
use Rattle.fp_base.proofs.Known.{Appends-nil, Appends-more}
use Rattle.fp_documents.specs.Document.{document}
use Rattle.fp_group_commit.specs.Tokens.{FrontState, front_revision, front_set}
use Rattle.fp_publish.specs.Fronts.{Begins}
use Rattle.fp_publish.proofs.RuleLemmas.{begins_on}
use Rattle.fp_stream.specs.Frames.{AreNews, frame, has_after, stream_of}
use Rattle.fp_stream.specs.Heads.{IsNewer}
use Rattle.fp_stream.specs.declared.head.TheConstants.{MOST_BODY}
use Rattle.fp_stream.specs.declared.hello.Hello.{Hello}
use Rattle.fp_stream.specs.declared.hello.Hello.TheVariants.{Has, Nothing}
use Rattle.fp_stream.proofs.Streams.{AreNews-append, has_after-append, stream_of-append}
use Rattle.fp_conversations.specs.Editing.{GoesOnFrom}
use Rattle.fp_conversations.specs.Sending.{IsSent, snapshot_of}

-- how many revisions may be news yet
abbrev pub news_left : Hello → ℕ
news_left Nothing = 2 ^ 64 + 1
news_left (Has n) = 2 ^ 64 - n

pub fewer_left : (has : Hello) (n : ℕ) → IsNewer has n → n < 2 ^ 64 → news_left (Has n) < news_left has
fewer_left Nothing n newer fits = omega (arith, fits)
fewer_left (Has m) n newer fits = omega (arith, newer, fits)

-- nothing was sent yet
pub sent-none : (had has : Hello) (held : Option (List ℕ)) → has ≡ had → IsSent None had has held held
sent-none had has held same = record {
  fronts = [];
  each = λ k d below. absurd (omega (arith, below));
  news = tt;
  now = same;
  written = Appends-nil held;
}

-- of two fronts of a store one begins the other
pub behind : (b : Bool) (shown other : FrontState) → shown.store ≡ other.store →
    MatchBool b (IsPrefix other.edits shown.edits × (length other.edits < length shown.edits)) (IsPrefix shown.edits other.edits)
    → MatchBool b (Begins other shown) (Begins shown other)
behind true shown other store found = (sym store, found.0)
behind false shown other store found = (store, found)

-- what was shown may grow
begins-more : (shown more : Option FrontState) (f : FrontState) → GoesOnFrom more shown → IsSomeAnd shown (Begins f) →
    IsSomeAnd more (Begins f)
begins-more None more f less begins = absurd begins
begins-more (Some s) None f less begins = absurd less
begins-more (Some s) (Some t) f less begins = begins_on f s t begins less

-- and a frame more
pub sent-more : (shown more : Option FrontState) (had has : Hello) (before held then : Option (List ℕ)) (f : FrontState) →
    IsSent shown had has before held → GoesOnFrom more shown → IsSomeAnd more (Begins f) →
    IsNewer has (front_revision f) → front_revision f < 2 ^ 64
    → length (document (front_set f).flags) ≤ MOST_BODY →
    Appends held then (frame (front_revision f) (document (front_set f).flags)) →
    IsSent more had (Has (front_revision f)) before then
sent-more shown more had has before held then f sent less begins newer fits short written =
    let old = map snapshot_of sent.fronts in let one = snapshot_of f ∷ [] in
    let all : map snapshot_of (sent.fronts ++ f ∷ []) ≡ old ++ one = map-append snapshot_of sent.fronts (f ∷ []) in
    let bytes = frame (front_revision f) (document (front_set f).flags) in
    record {
      fronts = sent.fronts ++ f ∷ [];
      each = All-push (λ (g : FrontState). IsSomeAnd more (Begins g)) sent.fronts f
          (λ k d below. begins-more shown more (slice_index_or sent.fronts k d) less (sent.each k d below)) begins;
      news = subst (AreNews had) (sym all)
          (AreNews-append had old one sent.news (
            record {
              fits = fits;
              short = short;
              newer =
                  subst (λ (h : Hello). IsNewer h (front_revision f)) sent.now newer;
            },
            tt,
          ));
      now = sym (ap (has_after had) all ∙ has_after-append had old one);
      written = subst (Appends before then)
          (sym (ap stream_of all ∙ stream_of-append old one ∙
          ap (λ (t : List ℕ). stream_of old ++ t) (append-nil bytes)))
          (Appends-more before held then (stream_of old) bytes sent.written written);
    }

-- or more was shown, and nothing written yet
pub sent-as : (shown more : Option FrontState) (had has : Hello) (before held : Option (List ℕ)) →
    IsSent shown had has before held → GoesOnFrom more shown → IsSent more had has before held
sent-as shown more had has before held sent less = record {
  fronts = sent.fronts;
  each = λ k d below. begins-more shown more (slice_index_or sent.fronts k d) less (sent.each k d below);
  news = sent.news;
  now = sent.now;
  written = sent.written;
}
