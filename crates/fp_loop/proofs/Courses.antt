-- Loops and their services go on.
use Rattle.std.proofs.Common.{◌≡◌, List, [], ◌∷◌, ◌++◌, refl, ap, subst}
use Rattle.std.specs.Arc.{arc_value}
use Rattle.http_server.specs.Exchange.{Call, Chain}
use Rattle.fp_stream.specs.declared.hello.Hello.{Hello}
use Rattle.fp_stream.specs.declared.hello.Hello.TheVariants.{Has}
use Rattle.fp_stream.specs.Frames.{Snapshot}
use Rattle.fp_stream.specs.Heads.{IsNewer}
use Rattle.fp_news.specs.declared.news.News.{Ghosts}
use Rattle.fp_loop.specs.declared.turning.Loop.{Loop}
use Rattle.fp_news.specs.Newest.{had}
use Rattle.fp_loop.specs.Talks.{Answering, Serves}
use Rattle.fp_loop.specs.Courses.{Step, Called, Told, Informing, Course, Rise, RunsOn, KeepsOn, shown_by}

course-append : {S N : Type 0} (answers : Answering S) (informs : Informing S N)
    (xs ys : List (Step N)) (a b c : S) → Course answers informs a xs b → Course answers informs b ys c
    → Course answers informs a (xs ++ ys) c
course-append answers informs [] ys a b c x y = subst (λ s. Course answers informs s ys c) x y
course-append answers informs (Called k ∷ xs) ys a b c x y =
    (x.0, x.1, course-append answers informs xs ys x.0 b c x.2 y)
course-append answers informs (Told n ∷ xs) ys a b c x y =
    (x.0, x.1, course-append answers informs xs ys x.0 b c x.2 y)

rise-append : {N : Type 0} (shows : N → Snapshot) (xs ys : List (Step N)) (a b c : Hello)
    → Rise shows a xs b → Rise shows b ys c → Rise shows a (xs ++ ys) c
rise-append shows [] ys a b c x y = subst (λ h. Rise shows h ys c) x y
rise-append shows (Called k ∷ xs) ys a b c x y = rise-append shows xs ys a b c x y
rise-append shows (Told n ∷ xs) ys a b c x y =
    (x.0, rise-append shows xs ys (Has (shows n).revision) b c x.1 y)

-- calls as steps
steps_of : {N : Type 0} → List Call → List (Step N)
steps_of [] = []
steps_of (c ∷ calls) = Called c ∷ steps_of calls

course_of : {S N : Type 0} (answers : Answering S) (informs : Informing S N) (calls : List Call) (a b : S)
    → Chain answers a calls b → Course answers informs a (steps_of calls) b
unfolding steps_of
course_of answers informs [] a b x = x
course_of answers informs (c ∷ calls) a b x =
    (x.0, x.1, course_of answers informs calls x.0 b x.2)

rise_of : {N : Type 0} (shows : N → Snapshot) (calls : List Call) (a b : Hello) → b ≡ a
    → Rise shows a (steps_of calls) b
unfolding steps_of
rise_of shows [] a b same = same
rise_of shows (c ∷ calls) a b same = rise_of shows calls a b same

module _ {S N : Type 0} {g : Ghosts N} (answers : Answering S) (informs : Informing S N) where
  pub runs_kept : (l m : Loop S N g) → KeepsOn l m → RunsOn answers informs l m
  runs_kept l m x = record {
    steps = [];
    course = x.service;
    rise = ap (λ n. had (λ a. g.shows (arc_value a)) n.news) x.shown;
  }

  pub runs_then : (l m n : Loop S N g) → RunsOn answers informs l m → RunsOn answers informs m n
      → RunsOn answers informs l n
  runs_then l m n x y = record {
    steps = x.steps ++ y.steps;
    course = course-append answers informs x.steps y.steps _ m.service.service _ x.course y.course;
    rise = rise-append g.shows x.steps y.steps _ (shown_by m) _ x.rise y.rise;
  }

  -- its service was called
  pub runs_served : (l m : Loop S N g) → Serves answers l.service.service m.service.service
      → m.shown ≡ l.shown → RunsOn answers informs l m
  runs_served l m x same = record {
    steps = steps_of x.0;
    course = course_of answers informs x.0 l.service.service m.service.service x.1;
    rise =
        rise_of g.shows x.0 (shown_by l) (shown_by m)
        (ap (λ n. had (λ a. g.shows (arc_value a)) n.news) same);
  }

  -- its service was informed
  pub runs_informed : (l m : Loop S N g) (n : N) → informs l.service.service n m.service.service
      → IsNewer (shown_by l) (g.shows n).revision → shown_by m ≡ Has (g.shows n).revision
      → RunsOn answers informs l m
  runs_informed l m n told newer shown = record {
    steps = Told n ∷ [];
    course = (m.service.service, told, refl);
    rise = (newer, shown);
  }
