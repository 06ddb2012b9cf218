-- Conversations over HTTP go on.
use Rattle.std.proofs.Common.{◌≡◌, ℕ, List, [], ◌∷◌, ◌++◌, length, take, Option, Some, None, refl}
use Rattle.std.proofs.Common.{sym, ap, subst, ◌∙◌, append_assoc, append-nil, arith}
use Rattle.std.proofs.lemmas.List.{take-append-drop}
use Rattle.std.specs.Io.KnownBytes.{Keeps, Appends, Consumes}
use Rattle.http_server.specs.declared.state.Config.{Config}
use Rattle.http_server.specs.Exchange.{Call, Calls, Chain, continue_text}
use Rattle.http_server.specs.Exchange as exchange
use Rattle.http_server.specs.declared.state.State.{State}
use Rattle.http_server.specs.declared.state.State.TheVariants.{Closing}
use Rattle.http_server.specs.declared.state.Reason.TheVariants.{EndOfInput}
use Rattle.http_server.specs.History.{History, IsServed, Stands, Rests, WantsRead, after_read, after_sent, output}
use Rattle.http_server.proofs.StreamLemmas.{Calls-then, Calls-none}
use Rattle.fp_loop.specs.Talks.{Answering, Serves, Talks, Hears, Says, Rested}

pub consumes_none : (a b : Option (List ℕ)) → Keeps a b → Consumes a b []
consumes_none None b kept = tt
consumes_none (Some xs) None kept = absurd kept
consumes_none (Some xs) (Some ys) kept = sym kept

pub appends_none : (a b : Option (List ℕ)) → Keeps a b → Appends a b []
appends_none None b kept = tt
appends_none (Some xs) None kept = absurd kept
appends_none (Some xs) (Some ys) kept = kept ∙ sym (append-nil xs)

empty-nil : (xs : List ℕ) → length xs ≡ 0 → xs ≡ []
empty-nil [] none = refl
empty-nil (x ∷ xs) none = absurd (omega (arith, none))

-- what is put together to nothing is nothing
pub first-nil : (xs ys : List ℕ) → [] ≡ xs ++ ys → xs ≡ []
first-nil [] ys none = refl
first-nil (x ∷ xs) ys none = cc

-- the calls of a service are those of what counts them
pub chain_inside : {C S : Type 0} (inside : C → S) (answers : Answering S) (calls : List Call) (old new : C)
    → Chain (λ a r x b. answers (inside a) r x (inside b)) old calls new
    → Chain answers (inside old) calls (inside new)
chain_inside inside answers [] old new x = ap inside x
chain_inside inside answers (c ∷ calls) old new x =
    (inside x.0, x.1, chain_inside inside answers calls x.0 new x.2)

pub calls_inside : {C S : Type 0} (inside : C → S) (answers : Answering S) (old new : C) (xs ys : List Call)
    → Calls (λ a r x b. answers (inside a) r x (inside b)) old new xs ys
    → Calls answers (inside old) (inside new) xs ys
calls_inside inside answers old new xs ys x = (x.0, x.1, chain_inside inside answers x.0 old new x.2)

-- it goes on by these calls
pub calls_serve : {C S : Type 0} (inside : C → S) (answers : Answering S) (old new : C) (xs ys : List Call)
    → Calls (λ a r x b. answers (inside a) r x (inside b)) old new xs ys
    → Serves answers (inside old) (inside new)
calls_serve inside answers old new xs ys x = (x.0, chain_inside inside answers x.0 old new x.2)

-- what waited for nothing but input still does, where room was left and some of the output went
pub rests_sent : (config : Config) (h : History) (n : ℕ) → Rests config h → WantsRead config h
    → Rests config (after_sent h n)
rests_sent config h n rests wants stays_open short =
    let x = rests wants.0 wants.2 in
    let same : output (after_sent h n) ≡ output h =
    append_assoc h.sent _ _ ∙ ap (λ (t : List ℕ). h.sent ++ t) (take-append-drop n h.pending) in (
      x.0,
      x.1,
      λ ms rest reads many waits.
          subst (λ (o : List ℕ). ∥ ((front : List ℕ) × (o ≡ front ++ continue_text)) ∥₁) (sym same)
          (x.2 ms rest reads many waits),
    )

module _ {C S : Type 0} (inside : C → S) (answers : Answering S) (config : Config) (a b : C) where
  -- bytes came, and then the service was called
  pub hears_of : (h m i : History) (held left : Option (List ℕ)) (came : List ℕ) → m ≡ after_read h came
      → Consumes held left came → i.received ≡ m.received → i.sent ≡ m.sent
      → Calls (λ a r x b. answers (inside a) r x (inside b)) a b m.calls i.calls → Rests config i
      → Hears answers config (inside a) (inside b) h i held left
  hears_of h m i held left came is taken received sent calls rests =
      let k = calls_inside inside answers a b m.calls i.calls calls in
      record {
        came = came;
        received = received ∙ ap (λ (j : History). j.received) is;
        taken = taken;
        sent = sent ∙ ap (λ (j : History). j.sent) is;
        calls = (k.0, k.1 ∙ ap (λ (j : History). j.calls ++ k.0) is, k.2);
        rests = λ before. rests;
      }

  -- bytes went, and then the service was called
  pub says_of : (h m i : History) (held holds : Option (List ℕ)) (n : ℕ) → m ≡ after_sent h n
      → Appends held holds (take n h.pending) → i.received ≡ m.received → i.sent ≡ m.sent
      → Calls (λ a r x b. answers (inside a) r x (inside b)) a b m.calls i.calls
      → (Rests config h → Rests config i) → Says answers config (inside a) (inside b) h i held holds
  says_of h m i held holds n is written received sent calls rests =
      let k = calls_inside inside answers a b m.calls i.calls calls in
      record {
        received = received ∙ ap (λ (j : History). j.received) is;
        went = take n h.pending;
        sent = sent ∙ ap (λ (j : History). j.sent) is;
        written = written;
        calls = (k.0, k.1 ∙ ap (λ (j : History). j.calls ++ k.0) is, k.2);
        rests = rests;
      }

module _ {S : Type 0} (answers : Answering S) (config : Config) where
  pub hears_none : (a : S) (h i : History) (held left : Option (List ℕ)) → i ≡ h → Keeps held left
      → Hears answers config a a h i held left
  hears_none a h i held left same kept = record {
    came = [];
    received = ap (λ (j : History). j.received) same ∙ sym (append-nil h.received);
    taken = consumes_none held left kept;
    sent = ap (λ (j : History). j.sent) same;
    calls = Calls-none answers a a h.calls i.calls refl (ap (λ (j : History). j.calls) same);
    rests = λ rests. subst (λ (j : History). Rests config j) (sym same) rests;
  }

  pub says_none : (a : S) (h i : History) (held holds : Option (List ℕ)) → i ≡ h → Keeps held holds
      → Says answers config a a h i held holds
  says_none a h i held holds same kept = record {
    received = ap (λ (j : History). j.received) same;
    went = [];
    sent = ap (λ (j : History). j.sent) same ∙ sym (append-nil h.sent);
    written = appends_none held holds kept;
    calls = Calls-none answers a a h.calls i.calls refl (ap (λ (j : History). j.calls) same);
    rests = λ rests. subst (λ (j : History). Rests config j) (sym same) rests;
  }

  -- bytes went, and the service wasn't called
  pub says_only : (a : S) (h i : History) (held holds : Option (List ℕ)) (n : ℕ) → i ≡ after_sent h n
      → Appends held holds (take n h.pending) → (Rests config h → Rests config (after_sent h n))
      → Says answers config a a h i held holds
  says_only a h i held holds n is written rests = record {
    received = ap (λ (j : History). j.received) is;
    went = take n h.pending;
    sent = ap (λ (j : History). j.sent) is;
    written = written;
    calls = Calls-none answers a a h.calls i.calls refl (ap (λ (j : History). j.calls) is);
    rests = λ before. subst (λ (j : History). Rests config j) (sym is) (rests before);
  }

module _ {S : Type 0} (answers : Answering S) where
  -- a connection whose input ended well was at rest before
  pub rested : (a b : S) (config : Config) (h i : History) → IsServed config i
      → i.state ≡ Closing EndOfInput → length i.pending ≡ 0 → i.received ≡ h.received → i.sent ≡ h.sent
      → Calls answers a b h.calls i.calls → Rested answers a b config h
  rested a b config h i x closed empty received sent calls =
      let st : Stands (Closing EndOfInput) config i x.answered x.text x.interim x.rest =
      subst (λ (s : State). Stands s config i x.answered x.text x.interim x.rest) closed x.stands in
      let none : i.pending ≡ [] = empty-nil i.pending empty in
      let text : x.text ≡ h.sent =
      sym st.3 ∙ ap (λ (t : List ℕ). i.sent ++ t) none ∙ append-nil i.sent ∙ sent in
      record {
        answered = x.answered;
        calls = subst (λ (l : List Call). Calls answers a b h.calls l) st.0 calls;
        serves =
            subst (λ (r : List ℕ). exchange.Serves config h.received x.answered h.sent r) st.2
            (subst (λ (t : List ℕ). exchange.Serves config h.received x.answered t x.rest) text
            (subst (λ (r : List ℕ). exchange.Serves config r x.answered x.text x.rest) received x.serves));
      }

  pub talks_none : (config : Config) (a : S) (h : History) → Talks answers config a a h h
  talks_none config a h = record {
    came = [];
    received = sym (append-nil h.received);
    went = [];
    sent = sym (append-nil h.sent);
    calls = Calls-none answers a a h.calls h.calls refl refl;
    rests = λ rests. rests;
  }

  pub talks_then : (config later : Config) (a b c : S) (h i j : History) → later ≡ config
      → Talks answers config a b h i → Talks answers later b c i j → Talks answers config a c h j
  talks_then config later a b c h i j same x y = record {
    came = x.came ++ y.came;
    received =
        y.received ∙ ap (λ (t : List ℕ). t ++ y.came) x.received ∙ append_assoc h.received x.came y.came;
    went = x.went ++ y.went;
    sent = y.sent ∙ ap (λ (t : List ℕ). t ++ y.went) x.sent ∙ append_assoc h.sent x.went y.went;
    calls = Calls-then answers a b c h.calls i.calls j.calls x.calls y.calls;
    rests = λ rests.
        subst (λ (k : Config). Rests k j) same
        (y.rests (subst (λ (k : Config). Rests k i) (sym same) (x.rests rests)));
  }

  pub hears_talks : (config : Config) (a b : S) (h i : History) (held left : Option (List ℕ))
      → Hears answers config a b h i held left → Talks answers config a b h i
  hears_talks config a b h i held left x = record {
    came = x.came;
    received = x.received;
    went = [];
    sent = x.sent ∙ sym (append-nil h.sent);
    calls = x.calls;
    rests = x.rests;
  }

  pub says_talks : (config : Config) (a b : S) (h i : History) (held holds : Option (List ℕ))
      → Says answers config a b h i held holds → Talks answers config a b h i
  says_talks config a b h i held holds x = record {
    came = [];
    received = x.received ∙ sym (append-nil h.received);
    went = x.went;
    sent = x.sent;
    calls = x.calls;
    rests = x.rests;
  }

-- what a reader at its end gives is nothing
took_none : (left : Option (List ℕ)) (more : List ℕ) → Consumes (Some []) left more → more ≡ []
took_none None more taken = absurd taken
took_none (Some ys) more taken = first-nil more ys taken

module _ {C S : Type 0} (inside : C → S) (answers : Answering S) (a b : C) where
  -- the input of a connection ended, and nothing was under way
  pub rested_of : (config : Config) (h m i : History) (left : Option (List ℕ)) (more : List ℕ)
      → m ≡ after_read h more → Consumes (Some []) left more → IsServed config i
      → i.state ≡ Closing EndOfInput → length i.pending ≡ 0 → i.received ≡ m.received → i.sent ≡ m.sent
      → Calls (λ a r x b. answers (inside a) r x (inside b)) a b m.calls i.calls
      → Rested answers (inside a) (inside b) config h
  rested_of config h m i left more is taken served closed empty received sent calls =
      let k = calls_inside inside answers a b m.calls i.calls calls in
      let none = took_none left more taken in
      rested answers (inside a) (inside b) config h i served closed empty
      (received ∙ ap (λ (j : History). j.received) is ∙ ap (λ (l : List ℕ). h.received ++ l) none
      ∙ append-nil h.received)
      (sent ∙ ap (λ (j : History). j.sent) is)
      (k.0, k.1 ∙ ap (λ (j : History). j.calls ++ k.0) is, k.2)
