-- What is shown of snapshots, one after another.
use Rattle.std.proofs.Common.{◌≡◌, List, [], ◌∷◌, ◌++◌, Bool, true, false, refl, sym, ap, ◌∙◌, append_assoc, append-nil}
use Rattle.fp_stream.specs.declared.hello.Hello.{Hello}
use Rattle.fp_stream.specs.declared.hello.Hello.TheVariants.{Has, Nothing}
use Rattle.fp_stream.specs.Frames.{Snapshot, AreNews, has_after}
use Rattle.fp_relay.specs.Following.{AreShort, Shows, is_news, news}

-- the news of two parts are those of the first, and of the second to who has those
abbrev pub InTurn : List Snapshot → List Snapshot → Hello → Type 0
InTurn a b last = news last (a ++ b) ≡ news last a ++ news (has_after last (news last a)) b

with_one : (last : Hello) (s : Snapshot) (a b : List Snapshot) (t : Bool) → is_news last s.revision ≡ t →
    ((l : Hello) → InTurn a b l) → InTurn (s ∷ a) b last
with_one last s a b true e others = rw e (ap (λ (l : List Snapshot). s ∷ l) (others (Has s.revision)))
with_one last s a b false e others = rw e (others last)

pub news-append : (last : Hello) (a b : List Snapshot) → InTurn a b last
news-append last [] b = refl
news-append last (s ∷ a) b = with_one last s a b (is_news last s.revision) refl (λ l. news-append l a b)

pub has_after-append : (last : Hello) (a b : List Snapshot) → has_after last (a ++ b) ≡ has_after (has_after last a) b
has_after-append last [] b = refl
has_after-append last (s ∷ a) b = has_after-append (Has s.revision) a b

-- what was shown of some, and then of more
pub shows-more : (last mid now : Hello) (old between new : List Snapshot) (a b : List Snapshot) →
    Shows last mid old between a → Shows mid now between new b → Shows last now old new (a ++ b)
shows-more last mid now old between new a b h k =
    let by_mid : news mid b ≡ news (has_after last (news last a)) b = ap (λ (m : Hello). news m b) h.latest in record {
      shown = k.shown ∙ ap (λ (l : List Snapshot). l ++ news mid b) h.shown ∙ append_assoc old (news last a) (news mid b)
          ∙ ap (λ (l : List Snapshot). old ++ l) (ap (λ (l : List Snapshot). news last a ++ l) by_mid ∙ sym (news-append last a b));
      latest = k.latest ∙ ap (λ (m : Hello). has_after m (news mid b)) h.latest ∙ sym (has_after-append last (news last a) (news mid b))
          ∙ ap (λ (l : List Snapshot). has_after last l) (ap (λ (l : List Snapshot). news last a ++ l) by_mid ∙ sym (news-append last a b));
    }

pub shows-none : (last : Hello) (old : List Snapshot) → Shows last last old old []
shows-none last old = record { shown = sym (append-nil old); latest = refl }

-- frames of a stream are short
pub short-of_news : (has : Hello) (frames : List Snapshot) → AreNews has frames → AreShort frames
short-of_news has [] h = tt
short-of_news has (s ∷ ss) h = (h.0.short, short-of_news (Has s.revision) ss h.1)

-- and so are those behind others
pub short-behind : (a b : List Snapshot) → AreShort (a ++ b) → AreShort b
short-behind [] b h = h
short-behind (s ∷ a) b h = short-behind a b h.1

-- what was shown last stays known while more is shown
pub shows-last : (last now : Hello) (old new of : List Snapshot) → last ≡ has_after Nothing old → Shows last now old new of →
    now ≡ has_after Nothing new
shows-last last now old new of h k = k.latest ∙ ap (λ (m : Hello). has_after m (news last of)) h
    ∙ sym (has_after-append Nothing old (news last of)) ∙ ap (λ (l : List Snapshot). has_after Nothing l) (sym k.shown)
