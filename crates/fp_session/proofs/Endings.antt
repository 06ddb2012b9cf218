-- How runs end, with what a writer then holds.
use Rattle.std.proofs.Common.{◌≡◌, ◌<◌, ◌≤◌, ℕ, List, [], ◌++◌, length, map, Bool, Option, IfErr, OnOk, MatchResult}
use Rattle.std.proofs.Common.{Result, Ok, Err, refl, sym, ap, subst, ◌∙◌, arith}
use Rattle.std.specs.Io.KnownBytes.{Appends}
use Rattle.fp_base.proofs.Known.{Appends-more}
use Rattle.fp_edit.specs.Flags.{State}
use Rattle.fp_session.specs.Asks.{Ask}
use Rattle.fp_session.specs.Progress.{Ends, EndsOver, IsAt, IsAtWith, IsBroken, IsBrokenWith, IsEnded, IsSentFurther, StopsAt}
use Rattle.fp_session.specs.Reply.{Reply, reply_of_code}
use Rattle.fp_session.specs.Run.{after, IsAfterPrefix, IsRun, IsRunWritten, IsToldBy, script}
use Rattle.fp_session.specs.RunPromise.{RunPromise}
use Rattle.fp_session.specs.declared.edit_store.EditStore.{Ghosts}
use Rattle.fp_session.specs.declared.fault.ApplyFault.{ApplyFault}
use Rattle.fp_session.specs.declared.fault.ApplyFault.TheVariants.{Device}
use Rattle.fp_session.specs.declared.replies.Replies.{Replies}
use Rattle.fp_session.specs.declared.reply.Reply as code
use Rattle.fp_session.proofs.ProgressLemmas.{at-failed, broken-wider, course-as, is_at-broken}
use Rattle.fp_session.proofs.RunLemmas.{prefix-more, prefix-whole, told_by-more, written-flags, written-script}

module _ {E : Type 0} (store : Ghosts E) (first now : E) where
  -- ---- what isn't the run's own fault
  at-device : (asked : List Ask) (sent : List ℕ) (r : Replies) → IsAt store first now asked sent r → StopsAt store first now asked Device
  at-device asked sent r i =
      let b = is_at-broken store first now asked sent r r (length r.waiting.items) i refl (omega arith) in
      record { left = b.stops.left; course = i.led; leaves = i.leaves }

  -- all is sent, and the reader fails
  pub read-device : (asked : List Ask) (sent : List ℕ) (most : ℕ) (before now_held : Option (List ℕ)) (f0 f : ℕ)
      (r : Replies) → IsAt store first now asked sent r → r.waiting.items ≡ [] → r.text.items ≡ [] →
      Appends before now_held sent
      → IsBrokenWith store most first now asked before now_held f0 f Device
  read-device asked sent most before now_held f0 f r i none empty appended = record {
    told = λ same u a. (
      sent,
      appended,
      at-failed store first now asked sent r.text.items (map reply_of_code r.waiting.items) r.is_told i
          (ap (λ (ws : List code.Reply). map reply_of_code ws) none) empty most u a,
    );
    stops = at-device asked sent r i;
  }

  -- the writer fails
  pub sent-device : (asked : List Ask) (sent : List ℕ) (most : ℕ) (before now_held : Option (List ℕ)) (f0 f : ℕ)
      (r : Replies) → IsAt store first now asked sent r → f0 < f →
      IsBrokenWith store most first now asked before now_held f0 f Device
  sent-device asked sent most before now_held f0 f r i rose = record {
    told = λ same u a. absurd (omega (arith, rose, same));
    stops = at-device asked sent r i;
  }

  -- ---- what was broken off, and then sent
  pub broken-sent : (asked : List Ask) (sent : List ℕ) (least most : ℕ) (before held now_held : Option (List ℕ))
      (f0 f : ℕ) (r : Replies) (fault : ApplyFault) → least ≤ most →
      IsBroken store least first now asked sent r fault → Appends before held sent
      → (f ≡ f0 → Appends held now_held r.text.items) → IsBrokenWith store most first now asked before now_held f0 f fault
  broken-sent asked sent least most before held now_held f0 f r fault le b was more =
      let wider = broken-wider store first now asked least most sent r fault le b in record {
        told = λ same u a. (sent ++ r.text.items, Appends-more before held now_held sent r.text.items was (more same), wider.told u a);
        stops = wider.stops;
      }

  -- ---- more was sent
  pub at-further : (asked : List Ask) (sent : List ℕ) (before now_held : Option (List ℕ)) (r q : Replies) →
      IsAt store first now asked sent r → IsSentFurther before now_held sent r q →
      IsAtWith store first now asked before now_held q
  at-further asked sent before now_held r q i s = record {
    sent = s.all;
    appended = s.appended;
    at = record {
      done = i.done;
      batch = i.batch;
      kept = i.kept;
      replies = i.replies;
      split = i.split;
      run = i.run;
      on = subst (λ (rs : List Reply). IsRun i.kept i.batch rs (store.state now))
          (ap (λ v. map reply_of_code v.items) (sym s.waiting)) i.on;
      ahead = i.ahead;
      written = s.same ∙ i.written;
      told = s.told ∙ i.told;
      led = i.led;
      leaves = i.leaves;
    };
  }

  -- or the writer failed
  pub further : (asked : List Ask) (sent : List ℕ) (most : ℕ) (before now_held : Option (List ℕ)) (f0 f : ℕ)
      (r q : Replies) (o : Result (Unit {0}) ApplyFault) → IsAt store first now asked sent r →
      OnOk o (IsSentFurther before now_held sent r q)
      → IfErr o (λ e. (e ≡ Device) × (f0 < f)) →
      MatchResult o (λ _. IsAtWith store first now asked before now_held q)
      (IsBrokenWith store most first now asked before now_held f0 f)
  further asked sent most before now_held f0 f r q (Ok x) i s failed = at-further asked sent before now_held r q i s
  further asked sent most before now_held f0 f r q (Err e) i s failed =
      subst (λ (x : ApplyFault). IsBrokenWith store most first now asked before now_held f0 f x) (sym failed.0)
      (sent-device asked sent most before now_held f0 f r i failed.1)

  -- ---- the end
  pub concluded : (asked : List Ask) (sent : List ℕ) (least most : ℕ) (before held now_held : Option (List ℕ))
      (f0 f1 f : ℕ) (r : Replies) (ended : Result (Unit {0}) ApplyFault) (outcome : Result Bool ApplyFault)
      → least ≤ most → MatchResult ended (λ _. IsEnded store first now asked sent r)
      (IsBroken store least first now asked sent r) → Appends before held sent → f1 ≡ f0
      → (f ≡ f1 → Appends held now_held r.text.items) → IfErr ended (λ e. (outcome ≡ Err e) × (f1 ≤ f))
      → OnOk ended (MatchResult outcome (λ told. (told ≡ r.is_told) × (f ≡ f1)) (λ e. (e ≡ Device) × (f1 < f))) →
      Ends store most first now asked before now_held f0 f outcome
  concluded asked sent least most before held now_held f0 f1 f r (Err e) outcome le broken was none more is done =
      subst (λ (o : Result Bool ApplyFault). Ends store most first now asked before now_held f0 f o) (sym is.0)
      (broken-sent asked sent least most before held now_held f0 f r e le broken was
      (λ same. more (same ∙ sym none)))
  concluded asked sent least most before held now_held f0 f1 f r (Ok x) (Ok told) le e was none more is done = record {
    written = record {
      replies = e.replies;
      run = e.run;
      written = subst (λ (l : List ℕ). Appends before now_held l) e.written
          (Appends-more before held now_held sent r.text.items was (more done.1));
      told_is = done.0 ∙ e.told;
    };
    kept = e.kept;
    rests = e.rests;
    led = e.led;
    leaves = e.leaves;
  }
  concluded asked sent least most before held now_held f0 f1 f r (Ok x) (Err fault) le e was none more is done =
      let rose = done.1 in subst (λ (o : ApplyFault). IsBrokenWith store most first now asked before now_held f0 f o)
      (sym done.0) (record {
        told = λ same u a. absurd (omega (arith, rose, same, none));
        stops = record {
          left = prefix-whole (store.state first) (store.state now) asked e.replies e.run;
          course =
              e.led;
          leaves = e.leaves;
        };
      })

  -- ---- over a source
  -- that had asked so much where it broke off
  pub broke-over : (most : ℕ) (asks : List Ask → Type 0) (before now_held : Option (List ℕ)) (f0 f1 f : ℕ)
      (fault : ApplyFault) (asked : List Ask) →
      ((all : List Ask) → asks all → (later : List Ask) × (asked ++ later ≡ all)) → f1 ≡ f0
      → IsBrokenWith store most first now asked before now_held f1 f fault →
      EndsOver store most first now asks before now_held f0 f (Err fault)
  broke-over most asks before now_held f0 f1 f fault asked part same broken =
      record {
        asked = asked;
        part = part;
        whole = tt;
        ends =
            subst (λ (n : ℕ). IsBrokenWith store most first now asked before now_held n f fault) same broken;
      }

  -- what is promised of it
  module _ (most : ℕ) (asks : List Ask → Type 0) (before now_held : Option (List ℕ)) (f0 f : ℕ)
      (Of : (List Ask → Type 0) → Type 0)
      (known : (P : List Ask → Type 0) → ((all : List Ask) → asks all → P all) → Of P) where
    -- what some first of it leaves
    abbrev Left : State → Type 0
    Left u = Of (λ xs. IsAfterPrefix (store.state first) xs u)

    within : (outcome : Result Bool ApplyFault) (e : EndsOver store most first now asks before now_held f0 f outcome)
        (u : State) → IsAfterPrefix (store.state first) e.asked u → Left u
    within outcome e u p = known (λ xs. IsAfterPrefix (store.state first) xs u) (λ all is.
        let q = e.part all is in subst (λ (xs : List Ask). IsAfterPrefix (store.state first) xs u) q.1
        (prefix-more (store.state first) u e.asked q.0 p))

    pub promised : (outcome : Result Bool ApplyFault) →
        EndsOver store most first now asks before now_held f0 f outcome →
        RunPromise store Of most first now before now_held f0 f outcome
    promised (Ok told) e = record {
      script = λ all. known (λ xs. Appends before now_held (script (store.state first) xs))
          (λ xs is. written-script (store.state first) xs told before now_held (store.state now) (written xs is) all);
      flags = λ all. known (λ xs. store.state now ≡ after (store.state first) xs)
          (λ xs is. written-flags (store.state first) xs told before now_held (store.state now) (written xs is) all);
      run = known (λ xs. IsRunWritten (store.state first) xs told before now_held (store.state now)) written;
      kept = e.ends.kept;
      told = tt;
      left = within (Ok told) e (store.state now)
          (prefix-whole (store.state first) (store.state now) e.asked e.ends.written.replies e.ends.written.run);
      any_moment = store.leaves_as first now (IsAfterPrefix (store.state first) e.asked) Left (within (Ok told) e) e.ends.leaves;
      rests = e.ends.rests;
      course = e.ends.led;
    }
      where
        written : (xs : List Ask) → asks xs → IsRunWritten (store.state first) xs told before now_held (store.state now)
        written xs is = subst (λ (l : List Ask). IsRunWritten (store.state first) l told before now_held
            (store.state now)) (e.whole xs is) e.ends.written
    promised (Err fault) e = record {
      script = tt;
      flags = tt;
      run = tt;
      kept = tt;
      told = λ same u a. known (λ xs. IsToldBy (store.state first) xs most fault before now_held (store.state now) u) (λ all is.
          let q = e.part all is in
          subst (λ (xs : List Ask). IsToldBy (store.state first) xs most fault before now_held (store.state now) u) q.1
          (told_by-more (store.state first) (store.state now) u e.asked q.0 most fault before now_held (e.ends.told same u a)));
      left = within (Err fault) e (store.state now) e.ends.stops.left;
      any_moment = store.leaves_as first now (IsAfterPrefix (store.state first) e.asked) Left (within (Err fault) e) e.ends.stops.leaves;
      rests = tt;
      course = course-as store (Unit {0}) Bool first now (IsAfterPrefix (store.state first) e.asked) Left
          (within (Err fault) e) fault e.ends.stops.course;
    }
