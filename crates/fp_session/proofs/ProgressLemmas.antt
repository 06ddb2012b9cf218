-- How what was answered grows, and where it breaks off.
use Rattle.std.proofs.Common.{◌≡◌, ◌≤◌, ℕ, List, [], ◌∷◌, ◌++◌, map, Bool, true, false, ◌&&◌, ◌⊎◌, ⊎_elim, inl, Err}
use Rattle.std.proofs.Common.{refl, sym, ap, subst, ◌∙◌, append_assoc, append-nil, length, arith}
use Rattle.std.proofs.lemmas.List.{length-map}
use Rattle.std.proofs.lemmas.List.Folds.{list_all-append}
use Rattle.std.specs.List.{list_all}
use Rattle.fp_edit.specs.Flags.{State}
use Rattle.fp_session.specs.Asks.{Ask}
use Rattle.fp_session.specs.Fault.{of_commit}
use Rattle.fp_session.specs.Progress.{At, IsAt, IsBroken, IsEnded, IsToldUpTo, StopsAt, Takes}
use Rattle.fp_session.specs.Reply.{Reply, is_told, reply_of_code, texts_of, told_if}
use Rattle.fp_session.specs.Run.{Answers, IsRun, IsAfterPrefix, IsTold, last_replies, most_open, show_line}
use Rattle.fp_session.specs.StoreRun.{StoreRun}
use Rattle.fp_committer.specs.declared.fault.CommitFault.{CommitFault}
use Rattle.fp_committer.specs.declared.fault.CommitFault.TheVariants as commit
use Rattle.fp_session.specs.declared.edit_store.EditStore.{Ghosts}
use Rattle.fp_session.specs.declared.fault.ApplyFault.{ApplyFault}
use Rattle.fp_session.specs.declared.fault.ApplyFault.TheVariants.{Device, Memory}
use Rattle.fp_session.specs.declared.replies.Replies.{Replies}
use Rattle.fp_session.specs.declared.replies.Telling.{Telling}
use Rattle.fp_session.specs.declared.reply.Reply as code
use Rattle.fp_session.proofs.RunLemmas.{run-append, run-lengths, run-single, run-none, texts_of-append, prefix-start}
use Rattle.fp_session.proofs.RunLemmas.{prefix-whole, prefix-more, prefix-behind, told-more, told_if-kept}
use Rattle.fp_session.proofs.RunLemmas.{told_up_to-all}

module _ {E : Type 0} (store : Ghosts E) where
  -- nothing was asked yet
  at-start : (first : E) (r : Replies) → r.text.items ≡ [] → r.is_told ≡ true →
      ((u : State) → store.may_stand first u → u ≡ store.state first)
      → store.leaves first first (store.may_stand first) → At store first first [] [] r.text.items [] r.is_told
  at-start first r text told fresh still = record {
    done = [];
    batch = [];
    kept = store.state first;
    replies = [];
    split = refl;
    run = refl;
    on = refl;
    ahead = λ u a. subst (λ s. IsAfterPrefix (store.state first) [] s) (sym (fresh u a)) (prefix-start (store.state first) []);
    written = text;
    told = told;
    led = store.leads_to_itself first;
    leaves = store.leaves_as first first (store.may_stand first) (IsAfterPrefix (store.state first) [])
        (λ u a. subst (λ s. IsAfterPrefix (store.state first) [] s) (sym (fresh u a))
        (prefix-start (store.state first) [])) still;
  }

  pub is_at-start : (first : E) (r : Replies) → r.text.items ≡ [] → r.waiting.items ≡ [] → r.is_told ≡ true →
      ((u : State) → store.may_stand first u → u ≡ store.state first)
      → store.leaves first first (store.may_stand first) → IsAt store first first [] [] r
  is_at-start first r text none told fresh still =
      subst (λ (rs : List Reply). At store first first [] [] r.text.items rs r.is_told)
      (ap (λ (ws : List code.Reply). map reply_of_code ws) (sym none)) (at-start first r text told fresh still)

  module _ (first now : E) (asked : List Ask) (sent text : List ℕ) (waiting : List Reply) (told : Bool)
      (i : At store first now asked sent text waiting told) where
    abbrev pub start : State
    start = store.state first

    whole : IsRun start asked (i.replies ++ waiting) (store.state now)
    whole = subst (λ xs. IsRun start xs (i.replies ++ waiting) (store.state now)) (sym i.split)
        (run-append start i.kept (store.state now) i.done i.batch i.replies waiting i.run i.on)

    -- what may stand is as some first of what was asked leaves it
    pub at-ahead : (u : State) → store.may_stand now u → IsAfterPrefix start asked u
    at-ahead u a = subst (λ xs. IsAfterPrefix start xs u) (sym i.split)
        (prefix-behind start i.kept u i.done i.batch i.replies i.run (i.ahead u a))

    pub at-left : IsAfterPrefix start asked (store.state now)
    at-left = prefix-whole start (store.state now) asked (i.replies ++ waiting) whole

    -- one thing more was answered
    pub at-more : (next : E) (x : Ask) (reply : Reply) → Answers (store.state now) x reply (store.state next)
        → ((u : State) → store.may_stand next u → store.may_stand now u ⊎ (u ≡ store.state next)) →
        store.continues_to first next → store.leaves first next (IsAfterPrefix start (asked ++ x ∷ []))
        → At store first next (asked ++ x ∷ []) sent text (waiting ++ reply ∷ []) told
    at-more next x reply answers ahead led leaves =
        let on : IsRun i.kept (i.batch ++ x ∷ []) (waiting ++ reply ∷ []) (store.state next) =
        run-append i.kept (store.state now) (store.state next) i.batch (x ∷ []) waiting (reply ∷ []) i.on
        (run-single (store.state now) (store.state next) x reply answers) in
        record {
          done = i.done;
          batch = i.batch ++ x ∷ [];
          kept = i.kept;
          replies = i.replies;
          split = ap (λ (l : List Ask). l ++ x ∷ []) i.split ∙ append_assoc i.done i.batch (x ∷ []);
          run = i.run;
          on = on;
          ahead = λ u a. ⊎_elim (λ was. prefix-more i.kept u i.batch (x ∷ []) (i.ahead u was))
              (λ is. subst (λ s. IsAfterPrefix i.kept (i.batch ++ x ∷ []) s) (sym is)
              (prefix-whole i.kept (store.state next) (i.batch ++ x ∷ []) (waiting ++ reply ∷ []) on))
              (ahead u a);
          written = i.written;
          told = i.told;
          led = led;
          leaves = leaves;
        }

    pub at-asked : (next : E) (x : Ask) (reply : Reply) → Takes store now x reply next →
        At store first next (asked ++ x ∷ []) sent text (waiting ++ reply ∷ []) told
    at-asked next x reply t =
        let more = λ (u : State) (p : IsAfterPrefix start asked u). prefix-more start u asked (x ∷ []) p in
        at-more next x reply t.answered t.ahead (store.leads_on first now next i.led t.goes_on)
        (store.leaves_on first now next (IsAfterPrefix start (asked ++ x ∷ []))
        (store.leaves_as first now (IsAfterPrefix start asked) (IsAfterPrefix start (asked ++ x ∷ [])) more i.leaves)
        (store.leaves_as now next (store.may_stand now) (IsAfterPrefix start (asked ++ x ∷ [])) (λ u a. more u (at-ahead u a)) t.leaves))

    -- what was asked is no edit
    pub at-no_edit : (x : Ask) (reply : Reply) → Answers (store.state now) x reply (store.state now) →
        At store first now (asked ++ x ∷ []) sent text (waiting ++ reply ∷ []) told
    at-no_edit x reply answers =
        at-more now x reply answers (λ u a. inl a) i.led
        (store.leaves_as first now (IsAfterPrefix start asked) (IsAfterPrefix start (asked ++ x ∷ []))
        (λ u p. prefix-more start u asked (x ∷ []) p) i.leaves)

    -- ---- what waited is kept
    module _ (next : E) (same : store.state next ≡ store.state now)
        (kept : (u : State) → store.may_stand next u → u ≡ store.state next)
        (moment : store.leaves now next (store.may_stand now)) (goes : store.continues_to now next) where
      next_leaves : store.leaves first next (IsAfterPrefix start asked)
      next_leaves = store.leaves_on first now next (IsAfterPrefix start asked) i.leaves
          (store.leaves_as now next (store.may_stand now) (IsAfterPrefix start asked) at-ahead moment)

      whole_next : IsRun start asked (i.replies ++ waiting) (store.state next)
      whole_next = subst (λ s. IsRun start asked (i.replies ++ waiting) s) (sym same) whole

      all_texts : sent ++ (text ++ texts_of (map (told_if true) waiting)) ≡ texts_of (i.replies ++ waiting)
      all_texts =
          sym (append_assoc sent text (texts_of (map (told_if true) waiting))) ∙
          ap (λ (l : List ℕ). l ++ texts_of (map (told_if true) waiting)) i.written
          ∙ ap (λ (rs : List Reply). texts_of i.replies ++ texts_of rs) (told_if-kept waiting) ∙ sym (texts_of-append i.replies waiting)

      -- and told
      pub at-sealed : (text' : List ℕ) (told' : Bool) → text' ≡ text ++ texts_of (map (told_if true) waiting) →
          told' ≡ (told && list_all is_told (map (told_if true) waiting)) →
          At store first next asked sent text' [] told'
      at-sealed text' told' texts tells = record {
        done = asked;
        batch = [];
        kept = store.state next;
        replies = i.replies ++ waiting;
        split = sym (append-nil asked);
        run = whole_next;
        on = refl;
        ahead = λ u a. subst (λ s. IsAfterPrefix (store.state next) [] s) (sym (kept u a)) (prefix-start (store.state next) []);
        written = ap (λ (l : List ℕ). sent ++ l) texts ∙ all_texts;
        told = tells ∙ ap (λ b. b && list_all is_told (map (told_if true) waiting)) i.told
            ∙ ap (λ (rs : List Reply). list_all is_told i.replies && list_all is_told rs) (told_if-kept waiting) ∙
            sym (list_all-append is_told i.replies waiting);
        led = store.leads_on first now next i.led goes;
        leaves = next_leaves;
      }

    -- ---- what is told where it breaks off: what was sent, and at most so much of what waited
    at-told : (taken u : State) (most : ℕ) (fault : ApplyFault) (all : List ℕ) → taken ≡ store.state now →
        store.may_stand now u → length waiting ≤ most_open fault most →
        all ≡ sent ++ (text ++ texts_of (last_replies fault waiting)) → IsTold start asked most fault all taken u
    at-told taken u most fault all same a le is = record {
      done = i.done;
      batch = i.batch;
      later = [];
      kept = i.kept;
      replies = i.replies;
      waiting = waiting;
      split = i.split ∙ ap (λ (l : List Ask). i.done ++ l) (sym (append-nil i.batch));
      run = i.run;
      on = subst (λ s. IsRun i.kept i.batch waiting s) (sym same) i.on;
      few = let len = run-lengths i.kept (store.state now) i.batch waiting i.on in omega (arith, le, len);
      holds = i.ahead u a;
      written = is ∙ sym (append_assoc sent text (texts_of (last_replies fault waiting))) ∙
          ap (λ (l : List ℕ). l ++ texts_of (last_replies fault waiting)) i.written ∙
          sym (texts_of-append i.replies (last_replies fault waiting));
    }

    -- ---- what waited isn't kept
    pub seal-broken : (next : E) (q : Replies) (most : ℕ) (f : CommitFault) → store.state next ≡ store.state now →
        ((u : State) → store.may_stand next u → store.may_stand now u)
        → store.leaves now next (store.may_stand now) → store.fails_on f now next →
        q.text.items ≡ text ++ texts_of (map (told_if false) waiting) → length waiting ≤ most →
        IsBroken store most first next asked sent q (of_commit f)
    seal-broken next q most f same ahead moment fails texts le = record {
      told = λ u a. at-told (store.state next) u most (of_commit f) (sent ++ q.text.items) same (ahead u a)
          (opened f) (ap (λ (l : List ℕ). sent ++ l) texts ∙
          ap (λ (rs : List Reply). sent ++ (text ++ texts_of rs)) (lasts f));
      stops = record {
        left = subst (λ s. IsAfterPrefix start asked s) (sym same) at-left;
        course = failed f fails;
        leaves = store.leaves_on first now next (IsAfterPrefix start asked) i.leaves
            (store.leaves_as now next (store.may_stand now) (IsAfterPrefix start asked) at-ahead moment);
      };
    }
      where
        failed : (f : CommitFault) → store.fails_on f now next →
            StoreRun {A = Unit {0}} store (IsAfterPrefix start asked) first next (Err (of_commit f))
        failed commit.StoreFailed h = record { before = now; led = i.led; asked = at-ahead; failed = h }
        failed commit.Memory h = record { before = now; led = i.led; asked = at-ahead; failed = h }

        opened : (f : CommitFault) → length waiting ≤ most_open (of_commit f) most
        opened f = grind arith

        lasts : (f : CommitFault) → map (told_if false) waiting ≡ last_replies (of_commit f) waiting
        lasts f = grind arith

    -- ---- what is done beside it went on
    pub at-gone : (next : E) → store.state next ≡ store.state now →
        ((u : State) → store.may_stand next u → store.may_stand now u) →
        store.leaves now next (store.may_stand now) → store.continues_to now next
        → At store first next asked sent text waiting told
    at-gone next same ahead moment goes = record {
      done = i.done;
      batch = i.batch;
      kept = i.kept;
      replies = i.replies;
      split = i.split;
      run = i.run;
      on = subst (λ s. IsRun i.kept i.batch waiting s) (sym same) i.on;
      ahead = λ u a. i.ahead u (ahead u a);
      written = i.written;
      told = i.told;
      led = store.leads_on first now next i.led goes;
      leaves = store.leaves_on first now next (IsAfterPrefix start asked) i.leaves
          (store.leaves_as now next (store.may_stand now) (IsAfterPrefix start asked) at-ahead moment);
    }

    -- ---- memory is wanting here
    pub at-broken : (q : Replies) (most : ℕ) → q.text.items ≡ text → length waiting ≤ most →
        IsBroken store most first now asked sent q Memory
    at-broken q most same le = record {
      told = λ u a. at-told (store.state now) u most Memory (sent ++ q.text.items) refl a le
          (ap (λ (l : List ℕ). sent ++ l) (same ∙ sym (append-nil text)));
      stops = record { left = at-left; course = i.led; leaves = i.leaves };
    }

    -- ---- a stream failed here, where nothing waits and all was sent
    pub at-failed : waiting ≡ [] → text ≡ [] → (most : ℕ) (u : State) → store.may_stand now u →
        IsTold start asked most Device sent (store.state now) u
    at-failed none empty most u a = let zero = ap length none in
        at-told (store.state now) u most Device sent refl a (omega (arith, zero))
        (sym (append-nil sent) ∙ ap (λ (l : List ℕ). sent ++ l) (sym empty ∙ sym (append-nil text)))

  pub is_at-broken : (first now : E) (asked : List Ask) (sent : List ℕ) (r q : Replies) (most : ℕ) →
      IsAt store first now asked sent r → q.text.items ≡ r.text.items → length r.waiting.items ≤ most →
      IsBroken store most first now asked sent q Memory
  is_at-broken first now asked sent r q most i same le =
      let all = length-map r.waiting.items reply_of_code in
      at-broken first now asked sent r.text.items (map reply_of_code r.waiting.items) r.is_told i q most same (omega (arith, le, all))

  -- what waited is kept, and told
  pub is_at-sealed : (first now next : E) (asked : List Ask) (sent : List ℕ) (old q : Replies) (t : Telling) →
      IsAt store first now asked sent old → store.state next ≡ store.state now →
      ((u : State) → store.may_stand next u → u ≡ store.state next) → store.leaves now next (store.may_stand now)
      → store.continues_to now next → IsToldUpTo true old.waiting.items t (length old.waiting.items) →
      q.text.items ≡ old.text.items ++ t.text.items → q.is_told ≡ (old.is_told && t.is_told) →
      q.waiting.items ≡ [] → IsAt store first next asked sent q
  is_at-sealed first now next asked sent old q t i same kept moment goes told texts tells none =
      let all = told_up_to-all true old.waiting.items t told in
      subst (λ (ws : List code.Reply). At store first next asked sent q.text.items (map reply_of_code ws) q.is_told) (sym none)
      (at-sealed first now asked sent old.text.items (map reply_of_code old.waiting.items) old.is_told i next same
      kept moment goes q.text.items q.is_told
      (texts ∙ ap (λ (l : List ℕ). old.text.items ++ l) all.0) (tells ∙ ap (λ (b : Bool). old.is_told && b) all.1))

  -- ---- what is done beside the edits, where none waits
  module _ (first now next : E) (asked : List Ask) (sent : List ℕ) (r : Replies)
      (i : IsAt store first now asked sent r) (same : store.state next ≡ store.state now)
      (ahead : (u : State) → store.may_stand next u → store.may_stand now u)
      (moment : store.leaves now next (store.may_stand now)) where
    pub is_at-gone : store.continues_to now next → IsAt store first next asked sent r
    is_at-gone goes = at-gone first now asked sent r.text.items (map reply_of_code r.waiting.items) r.is_told i next same ahead moment goes

    pub is_at-halted : (most : ℕ) (f : CommitFault) → r.waiting.items ≡ [] → store.fails_on f now next →
        IsBroken store most first next asked sent r (of_commit f)
    is_at-halted most f none fails =
        let zero = ap length none in let all = length-map r.waiting.items reply_of_code in
        seal-broken first now asked sent r.text.items (map reply_of_code r.waiting.items) r.is_told i next r most f same ahead moment fails
        (sym (append-nil r.text.items) ∙
        ap (λ (ws : List code.Reply). r.text.items ++ texts_of (map (told_if false) (map reply_of_code ws)))
        (sym none)) (omega (arith, zero, all))

  -- ---- the end, where nothing waits
  pub at-ended : (first now : E) (asked : List Ask) (sent text : List ℕ) (told : Bool) (q : Replies) →
      At store first now asked sent text [] told
      → q.text.items ≡ text ++ show_line (store.state now) → q.is_told ≡ told → store.rests now → IsEnded store first now asked sent q
  at-ended first now asked sent text told q i shown same rests =
      let none = run-none i.kept (store.state now) i.batch i.on in
      let all : asked ≡ i.done = i.split ∙ ap (λ (l : List Ask). i.done ++ l) none ∙ append-nil i.done in
      let here : store.state now ≡ i.kept = subst (λ xs. IsRun i.kept xs [] (store.state now)) none i.on in
      record {
        replies = i.replies;
        run = subst (λ xs. IsRun (store.state first) xs i.replies (store.state now)) (sym all)
            (subst (λ s. IsRun (store.state first) i.done i.replies s) (sym here) i.run);
        kept = λ u a. let p = subst (λ xs. IsAfterPrefix i.kept xs u) none (i.ahead u a) in
            only i.kept u p.later p.done p.replies p.split p.run ∙ sym here;
        written = ap (λ (l : List ℕ). sent ++ l) shown ∙ sym (append_assoc sent text (show_line (store.state now))) ∙
            ap (λ (l : List ℕ). l ++ show_line (store.state now)) i.written;
        told = same ∙ i.told;
        rests = rests;
        led = i.led;
        leaves = i.leaves;
      }
    where
      only : (s u : State) (later done : List Ask) (replies : List Reply) → [] ≡ done ++ later → IsRun s done replies u → u ≡ s
      only s u later [] replies split run = grind arith
      only s u later (x ∷ done) replies split run = absurd cc

  -- ---- whatever was to be asked behind

  -- whatever else what may stand is
  pub course-as : (A B : Type 0) (first now : E) (P Q : State → Type 0) → ((u : State) → P u → Q u) →
      (f : ApplyFault) → StoreRun {A = A} store P first now (Err f) → StoreRun {A = B} store Q first now (Err f)
  course-as A B first now P Q on f c = grind arith

  pub stops-more : (first now : E) (asked more : List Ask) (f : ApplyFault) → StopsAt store first now asked f →
      StopsAt store first now (asked ++ more) f
  stops-more first now asked more f s = record {
    left = wider (store.state now) s.left;
    course = course-as (Unit {0}) (Unit {0}) first now (IsAfterPrefix (store.state first) asked)
        (IsAfterPrefix (store.state first) (asked ++ more)) wider f s.course;
    leaves = store.leaves_as first now (IsAfterPrefix (store.state first) asked)
        (IsAfterPrefix (store.state first) (asked ++ more)) wider s.leaves;
  }
    where
      wider : (u : State) → IsAfterPrefix (store.state first) asked u → IsAfterPrefix (store.state first) (asked ++ more) u
      wider u p = prefix-more (store.state first) u asked more p

  pub broken-more : (first now : E) (asked more : List Ask) (most wider : ℕ) (sent : List ℕ) (q : Replies)
      (f : ApplyFault) → most ≤ wider → IsBroken store most first now asked sent q f →
      IsBroken store wider first now (asked ++ more) sent q f
  broken-more first now asked more most wider sent q f le b = record {
    told = λ u a. told-more (store.state first) (store.state now) u asked more most wider f (sent ++ q.text.items) le (b.told u a);
    stops = stops-more first now asked more f b.stops;
  }

  -- where more may be open
  pub broken-wider : (first now : E) (asked : List Ask) (most wider : ℕ) (sent : List ℕ) (q : Replies)
      (f : ApplyFault) → most ≤ wider → IsBroken store most first now asked sent q f →
      IsBroken store wider first now asked sent q f
  broken-wider first now asked most wider sent q f le b =
      subst (λ (xs : List Ask). IsBroken store wider first now xs sent q f) (append-nil asked)
      (broken-more first now asked [] most wider sent q f le b)
