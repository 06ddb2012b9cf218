-- The lines of an editor, and what they are answered.
use Rattle.std.proofs.Common.{◌≡◌, ◌<◌, ◌≤◌, ◌+◌, ℕ, List, [], ◌∷◌, ◌++◌, length, Bool, true, false, nat_lt, All}
use Rattle.std.proofs.Common.{Option, None, Some, Ok, Err, IfSome, IsSomeAnd}
use Rattle.std.proofs.Common.{refl, sym, ap, subst, ◌∙◌, append_assoc, append-nil, inl, inr, slice_index_or, arith}
use Rattle.std.specs.Prelude.{MatchBool}
use mathlib.Core.List.{IsPrefix}
use Rattle.std.proofs.lemmas.List.Elements.{All-push}
use Rattle.std.specs.Io.KnownBytes.{Appends}
use Rattle.fp_base.proofs.Known.{Appends-nil, Appends-more}
use Rattle.fp_edit.specs.Edits.{Change, change_in}
use Rattle.fp_group_commit.specs.Tokens.{FrontState, Identity, front_revision}
use Rattle.fp_hall.specs.Places.{StandsAt}
use Rattle.fp_hall.specs.declared.editor.Said.{Said}
use Rattle.fp_hall.proofs.Halls.{begins_reaches}
use Rattle.fp_hall.proofs.PlaceLemmas.{stands-on}
use Rattle.fp_publish.specs.Fronts.{Begins}
use Rattle.fp_publish.proofs.FrontLemmas.{compared}
use Rattle.fp_session.specs.Asks.{Ask, asked_by_input}
use Rattle.fp_session.specs.Sources.{HasAsked}
use Rattle.fp_conversations.specs.Answers.{Answer, IsShownAs, IsWithin, may_want, revision_in, answer_text, texts_of}
use Rattle.fp_conversations.specs.Editing.{GoesOnFrom, HandsIn, IsServed, IsServedFirst}
use Rattle.fp_conversations.specs.Outcomes.{AreAnswersTo, AreHandedIn, IsAnswerTo, IsHandedIn, IsMadeBy, answer_to_outcome}

-- ---- answers, one behind the other

-- behind nothing
last : (heard here : List Said) → heard ≡ [] → heard ++ here ≡ here ++ []
last heard here none = ap (λ (h : List Said). h ++ here) none ∙ sym (append-nil here)

-- behind the rest
behind : (heard first later here : List Said) → heard ≡ first ++ later → heard ++ here ≡ first ++ (later ++ here)
behind heard first later here part = ap (λ (h : List Said). h ++ here) part ∙ append_assoc first later here

AreAnswersTo-push : (told : Option FrontState) (xs : List Ask) (bs : List Answer) (heard : List Said) (x : Ask) (a : Answer)
    (here : List Said) → AreAnswersTo told xs bs heard → IsAnswerTo told x a here →
    AreAnswersTo told (xs ++ x ∷ []) (bs ++ a ∷ []) (heard ++ here)
AreAnswersTo-push told [] [] heard x a here each one = (here, [], last heard here each, one, refl)
AreAnswersTo-push told [] (b ∷ bs) heard x a here each one = absurd each
AreAnswersTo-push told (y ∷ xs) [] heard x a here each one = absurd each
AreAnswersTo-push told (y ∷ xs) (b ∷ bs) heard x a here each one = (
  each.0,
  each.1 ++ here,
  behind heard each.0 each.1 here each.2,
  each.3,
  AreAnswersTo-push told xs bs each.1 x a here each.4 one,
)

texts_of-push : (bs : List Answer) (a : Answer) → texts_of (bs ++ a ∷ []) ≡ texts_of bs ++ (answer_text a ++ 10 ∷ [])
texts_of-push [] a = append-nil (answer_text a ++ 10 ∷ [])
texts_of-push (b ∷ bs) a = ap (λ (t : List ℕ). (answer_text b ++ 10 ∷ []) ++ t) (texts_of-push bs a) ∙
    sym (append_assoc (answer_text b ++ 10 ∷ []) (texts_of bs) (answer_text a ++ 10 ∷ []))

-- ---- what was told

-- of two fronts of a store the revisions tell which one begins the other
pub above : (told other p q : FrontState) (m n : ℕ) (w : List Change) → p ≡ told → q ≡ other → told.store ≡ other.store →
    IsPrefix p.edits w → IsPrefix q.edits w → m ≡ front_revision other → n ≡ front_revision told →
    MatchBool (nat_lt m n) (Begins other told) (Begins told other)
above told other p q m n w is_p is_q store at_p at_q is_m is_n =
    turned (nat_lt m n) (compared (nat_lt m n) told.store.start.revision m n other.edits told.edits w refl
    (subst (λ (f : FrontState). IsPrefix f.edits w) is_q at_q) (subst (λ (f : FrontState). IsPrefix f.edits w) is_p at_p)
    (is_m ∙ ap (λ (s : Identity). s.start.revision + length other.edits) (sym store)) is_n)
  where
    turned : (b : Bool) → MatchBool b (IsPrefix other.edits told.edits × (length other.edits < length told.edits))
        (IsPrefix told.edits other.edits) → MatchBool b (Begins other told) (Begins told other)
    turned true found = (sym store, found.0)
    turned false found = (store, found)

-- what was told may grow
abbrev IsUpTo : Option ℕ → Option FrontState → Type 0
IsUpTo r told = IfSome r (λ n. IsSomeAnd told (λ f. n ≤ front_revision f))

up_to-more : (r : Option ℕ) (told more : Option FrontState) → GoesOnFrom more told → IsUpTo r told → IsUpTo r more
up_to-more None told more less within = tt
up_to-more (Some n) None more less within = absurd within
up_to-more (Some n) (Some f) None less within = absurd less
up_to-more (Some n) (Some f) (Some g) less within = omega (arith, begins_reaches f g less, within)

pub within-more : (told more : Option FrontState) (a : Answer) → GoesOnFrom more told → IsWithin told a → IsWithin more a
within-more told more a less within = up_to-more (revision_in a) told more less within

all_within-more : (told more : Option FrontState) (bs : List Answer) → GoesOnFrom more told → All (IsWithin told) bs →
    All (IsWithin more) bs
all_within-more told more bs less all = λ k d below. within-more told more (slice_index_or bs k d) less (all k d below)

made-more : (r : Option ℕ) (c : Change) (told more : Option FrontState) → GoesOnFrom more told →
    IfSome r (λ n. IsSomeAnd told (λ f. StandsAt f n c)) → IfSome r (λ n. IsSomeAnd more (λ f. StandsAt f n c))
made-more None c told more less made = tt
made-more (Some n) c None more less made = absurd made
made-more (Some n) c (Some f) None less made = absurd less
made-more (Some n) c (Some f) (Some g) less made = stands-on f g n c less made

pub answers-more : (told more : Option FrontState) (x : Ask) (a : Answer) (here : List Said) → GoesOnFrom more told →
    IsAnswerTo told x a here → IsAnswerTo more x a here
answers-more told more (Ok edit) a here less answers = (made-more (revision_in a) (change_in edit) told more less answers.0, answers.1)
answers-more told more (Err fault) a here less answers = answers

each-more : (told more : Option FrontState) (xs : List Ask) (bs : List Answer) (heard : List Said) → GoesOnFrom more told →
    AreAnswersTo told xs bs heard → AreAnswersTo more xs bs heard
each-more told more [] [] heard less each = each
each-more told more [] (b ∷ bs) heard less each = absurd each
each-more told more (y ∷ xs) [] heard less each = absurd each
each-more told more (y ∷ xs) (b ∷ bs) heard less each = (
  each.0,
  each.1,
  each.2,
  answers-more told more y b each.0 less each.3,
  each-more told more xs bs each.1 less each.4,
)

-- ---- what is shown of an answer

-- what is shown of what is shown
shown-again : (a b c : Answer) → IsShownAs a b → IsShownAs b c → IsShownAs a c
shown-again a b c first (inl same) = subst (IsShownAs a) (sym same) first
shown-again a b c (inl same) (inr wanting) = inr (subst (λ (x : Answer). may_want x ≡ true) same wanting.0, wanting.1)
shown-again a b c (inr first) (inr wanting) = inr (first.0, wanting.1)

pub shown-answers : (told : Option FrontState) (x : Ask) (a b : Answer) (here : List Said) → IsAnswerTo told x a here →
    IsShownAs a b → IsAnswerTo told x b here
shown-answers told (Err f) a b here answers (inl same) = subst (λ (c : Answer). IsAnswerTo told (Err f) c here) (sym same) answers
shown-answers told (Err f) a b here answers (inr wanting) = (answers.0, inr wanting.1)
shown-answers told (Ok edit) a b here answers (inl same) = subst (λ (c : Answer). IsAnswerTo told (Ok edit) c here) (sym same) answers
shown-answers told (Ok edit) a b here (made, inl by) (inr wanting) = (
  subst (IsMadeBy edit told) (sym wanting.1) tt,
  inl (by.0, by.1, by.2, shown-again (answer_to_outcome by.0) a b by.3 (inr wanting)),
)
shown-answers told (Ok edit) a b here (made, inr wanted) (inr wanting) =
    (subst (IsMadeBy edit told) (sym wanting.1) tt, inr (wanted.0, wanting.1))

pub shown-within : (told : Option FrontState) (a b : Answer) → IsWithin told a → IsShownAs a b → IsWithin told b
shown-within told a b within (inl same) = subst (IsWithin told) (sym same) within
shown-within told a b within (inr wanting) = subst (IsWithin told) (sym wanting.1) tt

-- ---- lines that were served

pub served-none : (store : Identity) (was : List Said) (held : Option (List ℕ)) → IsServed store None [] was was held held
served-none store was held = record {
  answers = [];
  said = [];
  each = refl;
  heard = sym (append-nil was);
  written = Appends-nil held;
  within = λ k d below. absurd (omega (arith, below));
  ours = tt;
}

pub served-more : (store : Identity) (told more : Option FrontState) (asked : List Ask) (was heard now here : List Said)
    (before held then : Option (List ℕ)) (x : Ask) (a : Answer) → IsServed store told asked was heard before held →
    GoesOnFrom more told → IsAnswerTo more x a here → IsWithin more a → IfSome more (λ f. f.store ≡ store) →
    now ≡ heard ++ here → Appends held then (answer_text a ++ 10 ∷ []) → IsServed store more (asked ++ x ∷ []) was now before then
served-more store told more asked was heard now here before held then x a served less answers within ours grown written = record {
  answers = served.answers ++ a ∷ [];
  said = served.said ++ here;
  each = AreAnswersTo-push more asked served.answers served.said x a here
      (each-more told more asked served.answers served.said less served.each) answers;
  heard = grown ∙ behind heard was served.said here served.heard;
  written = subst (Appends before then) (sym (texts_of-push served.answers a))
      (Appends-more before held then (texts_of served.answers) (answer_text a ++ 10 ∷ []) served.written written);
  within = All-push (IsWithin more) served.answers a (all_within-more told more served.answers less served.within) within;
  ours = ours;
}

-- ---- lines that were handed in

one-handed : (told : Option FrontState) (x : Ask) (a : Answer) (here : List Said) → IsAnswerTo told x a here → IsHandedIn x here
one-handed told (Ok edit) a here (made, inl by) = inr (by.0, by.1, by.2)
one-handed told (Ok edit) a here (made, inr wanted) = inl wanted.0
one-handed told (Err fault) a here answers = answers.0

each-handed : (told : Option FrontState) (xs : List Ask) (bs : List Answer) (heard : List Said) →
    AreAnswersTo told xs bs heard → AreHandedIn xs heard
each-handed told [] [] heard each = each
each-handed told [] (b ∷ bs) heard each = absurd each
each-handed told (x ∷ xs) [] heard each = absurd each
each-handed told (x ∷ xs) (b ∷ bs) heard each =
    (each.0, each.1, each.2, one-handed told x b each.0 each.3, each-handed told xs bs each.1 each.4)

pub served-handed : (store : Identity) (told : Option FrontState) (asked : List Ask) (was now : List Said)
    (before held : Option (List ℕ)) → IsServed store told asked was now before held → HandsIn asked was now
served-handed store told asked was now before held served = record {
  said = served.said;
  each = each-handed told asked served.answers served.said served.each;
  heard = served.heard;
}

AreHandedIn-push : (xs : List Ask) (heard : List Said) (x : Ask) (here : List Said) → AreHandedIn xs heard → IsHandedIn x here →
    AreHandedIn (xs ++ x ∷ []) (heard ++ here)
AreHandedIn-push [] heard x here each one = (here, [], last heard here each, one, refl)
AreHandedIn-push (y ∷ xs) heard x here each one = (
  each.0,
  each.1 ++ here,
  behind heard each.0 each.1 here each.2,
  each.3,
  AreHandedIn-push xs each.1 x here each.4 one,
)

pub handed-more : (asked : List Ask) (was heard now here : List Said) (x : Ask) → HandsIn asked was heard → IsHandedIn x here →
    now ≡ heard ++ here → HandsIn (asked ++ x ∷ []) was now
handed-more asked was heard now here x handed one grown = record {
  said = handed.said ++ here;
  each = AreHandedIn-push asked handed.said x here handed.each one;
  heard = grown ∙ behind heard was handed.said here handed.heard;
}

-- what is asked later hands in nothing
none-handed : (x : Ask) → IsHandedIn x []
none-handed (Ok edit) = inl refl
none-handed (Err fault) = refl

AreHandedIn-none : (ys : List Ask) → AreHandedIn ys []
AreHandedIn-none [] = refl
AreHandedIn-none (y ∷ ys) = ([], [], refl, none-handed y, AreHandedIn-none ys)

AreHandedIn-later : (xs ys : List Ask) (heard : List Said) → AreHandedIn xs heard → AreHandedIn (xs ++ ys) heard
AreHandedIn-later [] ys heard each = subst (AreHandedIn ys) (sym each) (AreHandedIn-none ys)
AreHandedIn-later (x ∷ xs) ys heard each = (each.0, each.1, each.2, each.3, AreHandedIn-later xs ys each.1 each.4)

pub handed-later : (asked later all : List Ask) (was now : List Said) → asked ++ later ≡ all → HandsIn asked was now → HandsIn all was now
handed-later asked later all was now part handed = record {
  said = handed.said;
  each = subst (λ (a : List Ask). AreHandedIn a handed.said) part (AreHandedIn-later asked later handed.said handed.each);
  heard = handed.heard;
}

-- nothing was handed in
pub handed-none : (asks : List Ask) (was : List Said) → HandsIn asks was was
handed-none asks was = record { said = []; each = AreHandedIn-none asks; heard = sym (append-nil was) }

-- ---- a source that was asked

-- what it was asked so far, and how that was answered
pub record IsUnderWay {A S : Type 0} (asks : A → S → List Ask → Type 0) (first : A) (at_first : S) (source : A)
    (stream : S) (store : Identity) (told : Option FrontState) (was now : List Said) (before held : Option (List ℕ)) : Type 0 where
  pub asked : List Ask
  pub came : HasAsked asks first at_first source stream asked
  pub served : IsServed store told asked was now before held

-- so nothing is handed in but what is asked
pub under-way-handed : {A S : Type 0} (asks : A → S → List Ask → Type 0) (first : A) (at_first : S) (source : A) (stream : S)
    (store : Identity) (told : Option FrontState) (was now : List Said) (before held : Option (List ℕ)) →
    IsUnderWay asks first at_first source stream store told was now before held →
    (all : List Ask) → asks first at_first all → HandsIn all was now
under-way-handed asks first at_first source stream store told was now before held way all a =
    let came = way.came all a in
    handed-later way.asked came.0 all was now came.1 (served-handed store told way.asked was now before held way.served)

-- of an input of which nothing was asked yet
pub input-handed : (o : Option (List ℕ)) (was : List Said) → IfSome o (λ input. HandsIn (asked_by_input input) was was)
input-handed None was = tt
input-handed (Some input) was = handed-none (asked_by_input input) was

pub input-served : (o : Option (List ℕ)) (store : Identity) (was : List Said) (held : Option (List ℕ)) →
    IfSome o (λ input. IsServedFirst store None (asked_by_input input) was was held held)
input-served None store was held = tt
input-served (Some input) store was held =
    record { asked = []; later = asked_by_input input; part = refl; served = served-none store was held }
