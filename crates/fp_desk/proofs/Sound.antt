-- A desk from call to call.
use Rattle.std.proofs.Common.{◌≡◌, ◌<◌, ◌≤◌, ◌+◌, ◌^◌, ℕ, Bool, List, [], ◌∷◌, ◌++◌, length, Option, sym, ap, subst}
use Rattle.std.proofs.Common.{◌∙◌, arith, append_assoc, length-append, None}
use Rattle.fp_edit.specs.Admits.{Admits, accepted, next, refusal}
use Rattle.fp_edit.specs.Edits.{Change, Proposal, change_in}
use Rattle.fp_edit.specs.declared.edit.EditFault.{EditFault}
use Rattle.fp_edit.specs.Flags.{State}
use Rattle.fp_edit.specs.Log.{after_all}
use Rattle.fp_edit.proofs.Runs.{revision-after_all}
use Rattle.fp_edit.specs.Following.{unconditional}
use Rattle.fp_edit.proofs.Followed.{after-append, freely, has_next}
use Rattle.fp_pending.specs.Following.{Follows}
use Rattle.fp_group_commit.specs.Tokens.{Identity}
use Rattle.fp_pending.proofs.Following.{follows_join, follows_behind, follows_front}
use Rattle.fp_desk.specs.declared.desk.TheConstants.{MOST_QUEUED}
use Rattle.fp_desk.specs.Desk.{DeskState, IsSound, head, log, settled_set, settled_revision, unsettled_count}

pub with_settled : (waiting : List Change) (stopped : Bool) (s t : Identity) (xs ys ds es last now : List Change) →
    s ≡ t → xs ≡ ys → ds ≡ es → last ≡ now
    → ◌≡◌ {A = DeskState} (record {
      store = s;
      settled = xs;
      drawn = ds;
      waiting = waiting;
      stopped = stopped;
      last =
          last;
    }) (record { store = t; settled = ys; drawn = es; waiting = waiting; stopped = stopped; last = now })
with_settled waiting stopped s t xs ys ds es last now store settled drawn came = cc

module _ (d : DeskState) (h base : State) (lag : List Change) (i : IsSound d h base lag) where
  -- the numbers
  pub revisions : settled_revision d + (length d.drawn + length d.waiting) < 2 ^ 63
  revisions =
      let all = revision-after_all d.store.start (log d) in let small = i.bounded in
      let len = length-append d.settled (d.drawn ++ d.waiting) in let more = length-append d.drawn d.waiting in
      omega (arith, all, small, len, more)

  -- the edit is judged by the head, and the queue is full or isn't
  pub judged : (p : Proposal) (found is : Option EditFault) → found ≡ refusal h p → found ≡ is → refusal (head d) p ≡ is
  judged p found is by eq = ap (λ (t : State). refusal t p) (sym i.head_is) ∙ sym by ∙ eq

  pub full : (n : ℕ) → unsettled_count d ≡ n → MOST_QUEUED ≤ n → unsettled_count d ≡ MOST_QUEUED
  full n count most = let few = i.few in omega (arith, few, count, most)

  pub still : (h2 : State) (waiting : List Change) → h2 ≡ h → waiting ≡ d.waiting →
      IsSound (record {
        store = d.store;
        settled = d.settled;
        drawn = d.drawn;
        waiting = waiting;
        stopped =
            d.stopped;
        last = d.last;
      }) h2 base lag
  still h2 waiting same waits =
      subst (λ (l : List Change). IsSound
      (record {
        store = d.store;
        settled = d.settled;
        drawn = d.drawn;
        waiting = l;
        stopped = d.stopped;
        last =
            d.last;
      }) h2 base lag) (sym waits)
      (subst (λ (t : State). IsSound d t base lag) (sym same) i)

  pub behind : (base1 : State) (left : List Change) → after_all base1 left ≡ after_all base lag →
      Follows base1 left → IsSound d h base1 left
  behind base1 left same led = record {
    head_is = i.head_is;
    base_is = same ∙ i.base_is;
    lag_follows = led;
    follows = i.follows;
    few =
        i.few;
    bounded = i.bounded;
  }

  -- ---- what is drawn is settled
  module _ (base1 : State) (left : List Change) (same : after_all base1 left ≡ after_all base lag) (none : left ≡ []) where
    pub caught : base1 ≡ settled_set d
    caught = ap (λ (l : List Change). after_all base1 l) (sym none) ∙ same ∙ i.base_is

    pub drawn_follows : Follows base1 d.drawn
    drawn_follows = subst (λ (t : State). Follows t d.drawn) (sym caught) (follows_front (settled_set d) d.drawn d.waiting i.follows)

    pub settled_on : (n : DeskState) → n.store ≡ d.store → n.settled ≡ d.settled ++ d.drawn → n.drawn ≡ [] →
        n.waiting ≡ d.waiting → (base2 : State) (lag2 : List Change) →
        after_all base2 lag2 ≡ after_all base1 d.drawn → Follows base2 lag2 → IsSound n h base2 lag2
    settled_on n store settled drawn waiting base2 lag2 led follows =
        let set_is : settled_set n ≡ after_all (settled_set d) d.drawn =
        ap (λ (x : Identity). after_all x.start n.settled) store ∙
        ap (λ (l : List Change). after_all d.store.start l) settled ∙
        after-append d.store.start d.settled d.drawn in
        let log_is : log n ≡ log d = ap (λ (l : List Change). l ++ (n.drawn ++ n.waiting)) settled ∙
        ap (λ (l : List Change). (d.settled ++ d.drawn) ++ (l ++ n.waiting)) drawn ∙
        ap (λ (l : List Change). (d.settled ++ d.drawn) ++ l) waiting ∙
        append_assoc d.settled d.drawn d.waiting in
        let head_is : head n ≡ head d = ap (λ (x : Identity). after_all x.start (log n)) store ∙
        ap (λ (l : List Change). after_all d.store.start l) log_is in
        let rest : n.drawn ++ n.waiting ≡ d.waiting = ap (λ (l : List Change). l ++ n.waiting) drawn ∙ waiting in
        let few = i.few in let len = ap length drawn in let len' = ap length waiting in
        record {
          head_is = i.head_is ∙ sym head_is;
          base_is = led ∙ ap (λ (t : State). after_all t d.drawn) caught ∙ sym set_is;
          lag_follows = follows;
          follows = subst (λ (l : List Change). Follows (settled_set n) l) (sym rest)
              (subst (λ (t : State). Follows t d.waiting) (sym set_is)
              (follows_behind (settled_set d) d.drawn d.waiting i.follows));
          few = omega (arith, few, len, len');
          bounded = subst (λ (t : State). t.revision < 2 ^ 63) (sym head_is) i.bounded;
        }

  -- ---- one edit more waits
  pub waiting_on : (p : Proposal) (h2 : State) → Admits h p (accepted h2) →
      length d.drawn + length d.waiting < MOST_QUEUED → (n : DeskState) → n.store ≡ d.store → n.settled ≡ d.settled →
      n.drawn ≡ d.drawn → n.waiting ≡ d.waiting ++ change_in p ∷ [] → IsSound n h2 base lag
  waiting_on p h2 admits room n store settled drawn waiting =
      let c = change_in p in
      let set_is : settled_set n ≡ settled_set d = ap (λ (x : Identity). after_all x.start n.settled) store ∙
      ap (λ (l : List Change). after_all d.store.start l) settled in
      let tail_is : n.drawn ++ n.waiting ≡ (d.drawn ++ d.waiting) ++ c ∷ [] =
      ap (λ (l : List Change). l ++ n.waiting) drawn ∙ ap (λ (l : List Change). d.drawn ++ l) waiting ∙
      sym (append_assoc d.drawn d.waiting (c ∷ [])) in
      let log_is : log n ≡ log d ++ c ∷ [] = ap (λ (l : List Change). l ++ (n.drawn ++ n.waiting)) settled ∙
      ap (λ (l : List Change). d.settled ++ l) tail_is ∙
      sym (append_assoc d.settled (d.drawn ++ d.waiting) (c ∷ [])) in
      let head_is : head n ≡ next (head d) c = ap (λ (x : Identity). after_all x.start (log n)) store ∙
      ap (λ (l : List Change). after_all d.store.start l) log_is ∙ after-append d.store.start (log d) (c ∷ []) in
      let met : refusal (head d) (unconditional c) ≡ None =
      freely (head d) p (subst (λ (t : State). refusal t p ≡ None) i.head_is admits.0) in
      let behind : head d ≡ after_all (settled_set d) (d.drawn ++ d.waiting) =
      after-append d.store.start d.settled (d.drawn ++ d.waiting) in
      let all : Follows (settled_set d) ((d.drawn ++ d.waiting) ++ c ∷ []) =
      follows_join (settled_set d) (d.drawn ++ d.waiting) (c ∷ []) i.follows
      (subst (λ (t : State). refusal t (unconditional c) ≡ None) behind met, tt) in
      let small : (head d).revision + 1 < 2 ^ 63 = has_next (head d) (unconditional c) met in
      let len = ap length drawn in let len' = ap length waiting in let len'' = length-append d.waiting (c ∷ []) in
      record {
        head_is = admits.1 ∙ ap (λ (t : State). next t c) i.head_is ∙ sym head_is;
        base_is = i.base_is ∙ sym set_is;
        lag_follows = i.lag_follows;
        follows = subst (λ (l : List Change). Follows (settled_set n) l) (sym tail_is)
            (subst (λ (t : State). Follows t ((d.drawn ++ d.waiting) ++ c ∷ [])) (sym set_is) all);
        few = omega (arith, room, len, len', len'');
        bounded = subst (λ (t : State). t.revision < 2 ^ 63) (sym head_is) small;
      }

  -- ---- a first part of what waits is drawn
  pub drawn_on : (n : DeskState) → n.store ≡ d.store → n.settled ≡ d.settled →
      n.drawn ++ n.waiting ≡ d.drawn ++ d.waiting → IsSound n h base lag
  drawn_on n store settled rest =
      let set_is : settled_set n ≡ settled_set d = ap (λ (x : Identity). after_all x.start n.settled) store ∙
      ap (λ (l : List Change). after_all d.store.start l) settled in
      let log_is : log n ≡ log d = ap (λ (l : List Change). l ++ (n.drawn ++ n.waiting)) settled ∙
      ap (λ (l : List Change). d.settled ++ l) rest in
      let head_is : head n ≡ head d = ap (λ (x : Identity). after_all x.start (log n)) store ∙
      ap (λ (l : List Change). after_all d.store.start l) log_is in
      let len = ap length rest in let mine = length-append n.drawn n.waiting in
      let its = length-append d.drawn d.waiting in let few = i.few in
      record {
        head_is = i.head_is ∙ sym head_is;
        base_is = i.base_is ∙ sym set_is;
        lag_follows = i.lag_follows;
        follows = subst (λ (l : List Change). Follows (settled_set n) l) (sym rest)
            (subst (λ (t : State). Follows t (d.drawn ++ d.waiting)) (sym set_is) i.follows);
        few = omega (arith, len, mine, its, few);
        bounded = subst (λ (t : State). t.revision < 2 ^ 63) (sym head_is) i.bounded;
      }
