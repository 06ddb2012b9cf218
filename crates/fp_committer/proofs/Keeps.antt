-- What a disk keeps of the edits that its store was given.
use Rattle.std.proofs.Common.{◌≡◌, ◌≢◌, ◌≤◌, ◌+◌, ◌-◌, ℕ, List, [], ◌∷◌, ◌++◌, length, zero, suc, take, refl, sym, ap}
use Rattle.std.proofs.Common.{subst, ◌∙◌, inl, inr, arith, append_assoc, length-append}
use Rattle.std.proofs.lemmas.List.{append-nil, append_cancel_left, take_at}
use mathlib.Core.List.{IsPrefix}
use Rattle.fp_disk.specs.Crashes.{AtAnyMoment, EachCrash, SameHonesty}
use Rattle.fp_disk.specs.Moments.{leaves_map, leaves_still}
use Rattle.fp_disk.specs.Outcomes.{IsOutcome, LeavesOnly}
use Rattle.fp_disk.specs.declared.disk.Disk.{Ghosts}
use Rattle.fp_edit.specs.Edits.{Change}
use Rattle.fp_edit.specs.Flags.{State}
use Rattle.fp_edit.specs.Log.{after_all}
use Rattle.fp_group_commit.specs.declared.phase.Phase.TheVariants.{Idle}
use Rattle.fp_recovery.specs.Stands.{StandsFor}
use Rattle.fp_group_commit.specs.Store.{StoreState, Leaves}
use Rattle.fp_group_commit.specs.Tokens.{Identity}
use Rattle.fp_group_commit.proofs.Steps.{exit_has}
use Rattle.fp_desk.specs.Desk.{DeskState, TicketState, log, settled_revision}
use Rattle.fp_committer.specs.Commits.{GoesOnBy, taken_from, told_after}
use Rattle.fp_committer.specs.Committer.{CommitterState, DeskHalfState, IsCommitter, IsListed, KeepsTold, commits_of}
use Rattle.fp_committer.specs.Halves.{ArePair, HalfState}
use Rattle.fp_committer.specs.Kept.{KeptFrom, KeptOf}
use Rattle.fp_committer.specs.StoreHalf.{IsOut, IsSilent, IsStoreHalf, KeepsHalf, KeptBy, RisesFor, StoreHalfState}
use Rattle.fp_committer.specs.StoreHalf.{changes_held, taken_by, way_by}
use Rattle.fp_committer.specs.Way.{Progress, Taken, Way}
use Rattle.fp_committer.specs.declared.event.Answer.{Answer}
use Rattle.fp_committer.specs.declared.event.Answer.TheVariants as answer
use Rattle.fp_committer.specs.declared.held.Held.{Held}
use Rattle.fp_committer.specs.declared.held.Held.TheVariants as held

-- ---- logs
ends_there : {A : Type 0} (xs ys rest : List A) → xs ++ rest ≡ ys → length rest ≡ 0 → ys ≡ xs
ends_there xs ys [] is none = sym is ∙ append-nil xs
ends_there xs ys (x ∷ rest) is none = absurd (omega (arith, none))

-- of two lists each begins the other where they are equal
pub each_begins : {A : Type 0} (xs ys : List A) → IsPrefix xs ys → IsPrefix ys xs → ys ≡ xs
each_begins xs ys p q =
    let a = ap length p.1 in let b = ap length q.1 in let c = length-append xs p.0 in let d = length-append ys q.0 in
    ends_there xs ys p.0 p.1 (omega (arith, a, b, c, d))

-- a front of the log is kept
pub front_kept : (start : State) (log xs rest : List Change) (low : ℕ) (c : List ℕ) → log ≡ xs ++ rest →
    low ≤ start.revision + length xs → StandsFor c (after_all start xs) → KeptOf start log low c
front_kept start log xs rest low c is le stands =
    let r = start.revision in
    let count : (r + length xs) - r ≡ length xs = omega arith in
    let cut : take ((r + length xs) - r) log ≡ xs = ap (λ (l : List Change). take ((r + length xs) - r) l) is ∙
    take_at xs rest ((r + length xs) - r) (sym count) in
    let len = ap length is in let more = length-append xs rest in
    (r + length xs, le, omega (arith, len, more), subst (λ (l : List Change). StandsFor c (after_all start l)) (sym cut) stands)

pub kept_low : (start : State) (log : List Change) (high low : ℕ) (c : List ℕ) → low ≤ high →
    KeptOf start log high c → KeptOf start log low c
kept_low start log high low c le k = let at = k.1 in (k.0, omega (arith, le, at), k.2, k.3)

take_front : {A : Type 0} (n : ℕ) (xs ys : List A) → n ≤ length xs → take n (xs ++ ys) ≡ take n xs
take_front zero xs ys le = refl
take_front (suc n) [] ys le = absurd (omega (arith, le))
take_front (suc n) (x ∷ xs) ys le = ap (λ (l : List _). x ∷ l) (take_front n xs ys (omega (arith, le)))

-- a longer log keeps what the shorter did
pub kept_longer : (start : State) (log more : List Change) (low : ℕ) (c : List ℕ) → KeptOf start log low c →
    KeptOf start (log ++ more) low c
kept_longer start log more low c k =
    let high = k.2 in let all = length-append log more in
    let cut : take (k.0 - start.revision) (log ++ more) ≡ take (k.0 - start.revision) log =
    take_front (k.0 - start.revision) log more (omega (arith, high)) in
    (k.0, k.1, omega (arith, high, all), subst (λ (l : List Change). StandsFor c (after_all start l)) (sym cut) k.3)

-- ---- the store's half
-- what is sealed begins what was drawn, and so does it with the batch in flight
abbrev Begins : List Change → HalfState → Type 0
Begins xs half = (rest : List Change) × (half.all ≡ xs ++ rest) × (length half.settled ≤ length xs)

module _ {D : Type 0} (s : StoreState D) (half : HalfState) where
  sealed_begins : (h : Held) → IsOut h s half.settled → half.all ≡ half.settled ++ changes_held h s → Begins s.sealed half
  sealed_begins held.Nothing o whole =
      ([], whole ∙ ap (λ (l : List Change). l ++ []) (sym o.1), (let len = ap length o.1 in omega (arith, len)))
  sealed_begins (held.Drawn group) o whole = (
    group.changes,
    whole ∙ ap (λ (l : List Change). l ++ group.changes) (sym o.1),
    (let len = ap length o.1 in
        omega (arith, len)),
  )
  sealed_begins held.InFlight o whole = (
    s.staged,
    whole ∙ ap (λ (l : List Change). l ++ s.staged) (sym o.1),
    (let len = ap length o.1 in
        omega (arith, len)),
  )
  sealed_begins (held.Sealed receipt) o whole = (
    [],
    whole ∙ sym o.1 ∙ sym (append-nil s.sealed),
    (let len = ap length o.1 in
        let all = length-append half.settled receipt.batch.changes in omega (arith, len, all)),
  )

  coming_begins : (h : Held) → IsOut h s half.settled → half.all ≡ half.settled ++ changes_held h s →
      s.phase ≢ Idle → Begins (s.sealed ++ s.staged) half
  coming_begins held.Nothing o whole off = absurd (off o.0)
  coming_begins (held.Drawn group) o whole off = absurd (off o.0)
  coming_begins held.InFlight o whole off =
      let is : half.all ≡ s.sealed ++ s.staged = whole ∙ ap (λ (l : List Change). l ++ s.staged) (sym o.1) in (
        [],
        is ∙ sym (append-nil (s.sealed ++ s.staged)),
        (let len = ap length o.1 in
            let all = length-append s.sealed s.staged in omega (arith, len, all)),
      )
  coming_begins (held.Sealed receipt) o whole off = absurd (off o.0)

  -- what a crash leaves of the store keeps all that is settled
  pub leaves_kept : (h : Held) → IsOut h s half.settled → half.all ≡ half.settled ++ changes_held h s →
      (c : List ℕ) → Leaves s c → KeptOf s.store.start half.all (s.store.start.revision + length half.settled) c
  leaves_kept h o whole c (inl stands) =
      let b = sealed_begins h o whole in let more = b.2 in
      front_kept s.store.start half.all s.sealed b.0 (s.store.start.revision + length half.settled) c b.1 (omega (arith, more)) stands
  leaves_kept h o whole c (inr both) =
      let b = coming_begins h o whole both.0 in let more = b.2 in
      front_kept s.store.start half.all (s.sealed ++ s.staged) b.0 (s.store.start.revision + length half.settled) c
      b.1 (omega (arith, more)) both.2

abbrev pub Half : {D : Type 0} → StoreState D → Progress → List Change → HalfState → StoreHalfState D
Half s progress drawn half = record { store = s; progress = progress; drawn = drawn; half = half }

-- what a half keeps, by its store and its lists
abbrev pub Kept : {D : Type 0} → StoreState D → HalfState → List ℕ → Type 0
Kept s half c = KeptOf s.store.start half.all (s.store.start.revision + length half.settled) c

module _ {D : Type 0} (disk : Ghosts D) {h : Held} {s : StoreState D} {half : HalfState}
    (w : IsStoreHalf disk.honest disk.unsynced h s half) where
  -- what a crash leaves now
  pub kept_now : EachCrash disk s.disk (Kept s half)
  kept_now = λ honest c out. leaves_kept s half h w.out w.whole c (w.now honest c out)

  -- an event that does nothing
  pub stays : (p q : Progress) (l m : List Change) {a : Answer} →
      ((d : D) (c : List ℕ) → disk.honest d → disk.crash_states_since d (disk.moment d) c →
      IsOutcome (disk.unsynced d) c) → IsSilent a → RisesFor a (disk.faults s.disk) (disk.faults s.disk) → m ≡ l
      → KeepsHalf disk (Half s p l half) a (Half s q m half)
  stays p q l m only_now silent rises same = record {
    silent = silent;
    same = (refl, same, refl);
    any_moment = λ honest. leaves_still disk.moment disk.crash_states_since s.disk (Kept s half)
        (λ c left. kept_now honest c (only_now s.disk c honest left));
    exit = kept_now;
    honest = (λ honest. honest, λ honest. honest);
    cause = rises;
  }

  -- what the store may leave is kept by one of the same identity
  pub kept_then : (n : StoreState D) → n.store ≡ s.store → (c : List ℕ) → Leaves s c → Kept n half c
  kept_then n store c left = subst
      (λ (x : Identity). KeptOf x.start half.all (x.start.revision + length half.settled) c) (sym store)
      (leaves_kept s half h w.out w.whole c left)

-- an event that calls the store, which leaves what has P
pub calls : {D : Type 0} (disk : Ghosts D) (s n : StoreState D) (half : HalfState) (p q : Progress)
    (l m : List Change) {a : Answer} →
    ((d : D) (t : ℕ) (c : List ℕ) → disk.honest d → t ≤ disk.moment d → IsOutcome (disk.unsynced d) c →
    disk.crash_states_since d t c) → (P : List ℕ → Type 0) → ((c : List ℕ) → P c → Kept n half c)
    → IsSilent a → n.store ≡ s.store → m ≡ l → AtAnyMoment disk s.disk n.disk P → SameHonesty disk s.disk n.disk →
    RisesFor a (disk.faults s.disk) (disk.faults n.disk)
    → KeepsHalf disk (Half s p l half) a (Half n q m half)
calls disk s n half p q l m counts_now P kept silent store same moment honest rises =
    let leaves : AtAnyMoment disk s.disk n.disk (Kept n half) =
    (λ h0. leaves_map disk.moment disk.crash_states_since s.disk n.disk P (Kept n half) kept (moment h0)) in
    record {
      silent = silent;
      same = (refl, same, store);
      any_moment = leaves;
      exit = exit_has disk counts_now s.disk n.disk _ _ (λ c k. k) honest.1 leaves;
      honest = honest;
      cause = rises;
    }

-- where the lists agree, so do the halves on what is settled and drawn
pub agree_on : (d : DeskState) (here there : HalfState) (drawn : List Change) → IsListed d here →
    there.all ≡ here.all → there.settled ≡ here.settled → there.all ≡ there.settled ++ drawn →
    (there.settled ≡ d.settled) × (drawn ≡ d.drawn)
agree_on d here there drawn listed all settled whole =
    let is = settled ∙ listed.0 in
    (is, append_cancel_left d.settled drawn d.drawn (ap (λ (l : List Change). l ++ drawn) (sym is) ∙ sym whole ∙ all ∙ listed.1))

-- ---- both halves
abbrev pub Both : {D : Type 0} → DeskHalfState → StoreHalfState D → ℕ → CommitterState D
Both a b told = record { store = b.store; desk = a.desk; progress = b.progress; told = told }

told_still : (told : ℕ) (a : Answer) → IsSilent a → told ≡ told_after told a
told_still told answer.NotNow silent = refl
told_still told answer.Memory silent = refl
told_still told (answer.Refused f) silent = refl
told_still told (answer.Fault f) silent = refl
told_still told (answer.Ticket n) silent = refl
told_still told (answer.Drawn n) silent = refl
told_still told answer.Done silent = refl
told_still told (answer.Sealed n) silent = refl
told_still told (answer.Settled n) silent = refl
told_still told (answer.Acked n) silent = absurd silent
told_still told answer.Waiting silent = refl
told_still told (answer.Phase n) silent = refl

-- what the store's half keeps is the desk's log, from what was told on
pub told_kept : {D : Type 0} (d : DeskState) (b : StoreHalfState D) (told : ℕ) → b.store.store ≡ d.store →
    b.half.settled ≡ d.settled → b.drawn ≡ d.drawn → b.half.all ≡ b.half.settled ++ b.drawn →
    told ≤ settled_revision d → (c : List ℕ) → KeptBy b c → KeptFrom d told c
told_kept d b told store settled drawn whole low c k =
    let all : b.half.all ≡ d.settled ++ d.drawn = whole ∙ ap (λ (l : List Change). l ++ b.drawn) settled ∙
    ap (λ (l : List Change). d.settled ++ l) drawn in
    let len = ap length settled in let start = ap (λ (x : Identity). x.start.revision) store in
    let lower : KeptOf b.store.store.start b.half.all told c =
    kept_low b.store.store.start b.half.all (b.store.store.start.revision + length b.half.settled) told c
    (omega (arith, low, len, start)) k in
    let longer : KeptOf b.store.store.start (b.half.all ++ d.waiting) told c =
    kept_longer b.store.store.start b.half.all d.waiting told c lower in
    subst (λ (x : Identity). KeptOf x.start (log d) told c) store
    (subst (λ (l : List Change). KeptOf b.store.store.start l told c)
    (ap (λ (l : List Change). l ++ d.waiting) all ∙ append_assoc d.settled d.drawn d.waiting) longer)

module _ {D : Type 0} (disk : Ghosts D) {a : DeskHalfState} {b : StoreHalfState D} {tickets : List TicketState}
    {start told : ℕ} (w : IsCommitter a b tickets start told) (whole : b.half.all ≡ b.half.settled ++ b.drawn) where
  pub kept_from : (c : List ℕ) → KeptBy b c → KeptFrom a.desk told c
  kept_from c k = told_kept a.desk b told w.halves.same w.agree.0 w.agree.1 whole w.low c k

  pub taken_is : taken_by b ≡ taken_from a.desk
  taken_is =
      ap (λ (x : Identity). record { start = x.start; settled = b.half.settled; drawn = b.drawn }) w.halves.same
      ∙ ap (λ (l : List Change). record { start = a.desk.store.start; settled = l; drawn = b.drawn }) w.agree.0
      ∙ ap (λ (l : List Change). record { start = a.desk.store.start; settled = a.desk.settled; drawn = l }) w.agree.1

  -- ---- an event of the store
  module _ {n : StoreHalfState D} {e : Answer} (k : KeepsHalf disk b e n) where
    pub on_way : IsCommitter a n tickets start told
    on_way = record {
      halves = record { pair = subst (λ (x : HalfState). ArePair a.half x) (sym k.same.0) w.halves.pair; same = k.same.2 ∙ w.halves.same };
      agree = (ap (λ (x : HalfState). x.settled) k.same.0 ∙ w.agree.0, k.same.1 ∙ w.agree.1);
      low = w.low;
      open_desk = w.open_desk;
      start_is = w.start_is;
      numbered = w.numbered;
      counted = w.counted;
    }

    pub carries : (Does : Taken → Way → Answer → Way → Type 0) → Does (taken_by b) (way_by b) e (way_by n) →
        GoesOnBy Does (commits_of (Both a b told)) e (commits_of (Both a n told))
    carries Does does = (subst (λ (t : Taken). Does t (way_by b) e (way_by n)) taken_is does, refl)

    whole_then : n.half.all ≡ n.half.settled ++ n.drawn
    whole_then = ap (λ (x : HalfState). x.all) k.same.0 ∙ whole ∙
        ap (λ (x : HalfState). x.settled ++ b.drawn) (sym k.same.0) ∙
        ap (λ (l : List Change). n.half.settled ++ l) (sym k.same.1)

    kept_then_from : (c : List ℕ) → KeptBy n c → KeptFrom a.desk told c
    kept_then_from c kept = told_kept a.desk n told on_way.halves.same on_way.agree.0 on_way.agree.1 whole_then w.low c kept

    pub carried : KeepsTold disk (Both a b told) e (Both a n told)
    carried = record {
      told = told_still told e k.silent;
      same = (k.same.2, refl);
      any_moment = λ h. leaves_map disk.moment disk.crash_states_since b.store.disk n.store.disk (KeptBy n)
          (KeptFrom a.desk told) kept_then_from (k.any_moment h);
      exit = λ h c out. kept_then_from c (k.exit h c out);
      honest = k.honest;
      cause = k.cause;
    }

  -- ---- an event of the desk
  pub desk_moved : ((d : D) (c : List ℕ) → disk.honest d → disk.crash_states_since d (disk.moment d) c →
      IsOutcome (disk.unsynced d) c) → EachCrash disk b.store.disk (KeptBy b)
      → (x : DeskHalfState) (p : Progress) (then : ℕ) {e : Answer} → x.desk.store ≡ a.desk.store → told ≤ then →
      then ≡ told_after told e → ((n : ℕ) → RisesFor e n n) → ((c : List ℕ) → KeptBy b c → KeptFrom x.desk then c)
      → KeepsTold disk (Both a b told) e (record { store = b.store; desk = x.desk; progress = p; told = then })
  desk_moved only_now now x p then store le is rises kept = record {
    told = is;
    same = (refl, store);
    any_moment = λ h. leaves_still disk.moment disk.crash_states_since b.store.disk (KeptFrom x.desk told) (λ c left.
        kept_low x.desk.store.start (log x.desk) then told c le (kept c (now h c (only_now b.store.disk c h left))));
    exit = λ h c out. kept c (now h c out);
    honest = (λ h. h, λ h. h);
    cause = rises (disk.faults b.store.disk);
  }

  pub desk_still : ((d : D) (c : List ℕ) → disk.honest d → disk.crash_states_since d (disk.moment d) c →
      IsOutcome (disk.unsynced d) c) → EachCrash disk b.store.disk (KeptBy b)
      → {e : Answer} → told ≡ told_after told e → ((n : ℕ) → RisesFor e n n) → KeepsTold disk (Both a b told) e (Both a b told)
  desk_still only_now now is rises = desk_moved only_now now a b.progress told refl (omega arith) is rises kept_from

-- a desk with the same log, or a longer one, keeps what it did
pub kept_same_log : (d n : DeskState) (low : ℕ) (c : List ℕ) → n.store ≡ d.store → log n ≡ log d → KeptFrom d low c → KeptFrom n low c
kept_same_log d n low c store same k =
    let both : (n.store ≡ d.store) × (log n ≡ log d) = (store, same) in
    rw (store, same) k

pub kept_more : (d n : DeskState) (more : List Change) (low : ℕ) (c : List ℕ) → n.store ≡ d.store →
    log n ≡ log d ++ more → KeptFrom d low c → KeptFrom n low c
kept_more d n more low c store grows k =
    let longer : KeptOf d.store.start (log d ++ more) low c = kept_longer d.store.start (log d) more low c k in
    rw (store, grows) longer

pub log_more : (d : DeskState) (c : Change) → d.settled ++ (d.drawn ++ (d.waiting ++ c ∷ [])) ≡ log d ++ c ∷ []
log_more d c = ap (λ (l : List Change). d.settled ++ l) (sym (append_assoc d.drawn d.waiting (c ∷ []))) ∙
    sym (append_assoc d.settled (d.drawn ++ d.waiting) (c ∷ []))

-- where the store stays, each moment keeps what it keeps now
pub rested : {D : Type 0} (disk : Ghosts D) →
    ((d : D) (c : List ℕ) → disk.honest d → disk.crash_states_since d (disk.moment d) c →
    IsOutcome (disk.unsynced d) c) → (old new : CommitterState D) → new.store ≡ old.store → old.told ≤ new.told →
    EachCrash disk new.store.disk (KeptFrom new.desk new.told)
    → AtAnyMoment disk old.store.disk new.store.disk (KeptFrom new.desk old.told)
rested {D} disk only_now old new same told exit =
    let is : new.store.disk ≡ old.store.disk = ap (λ (s : StoreState D). s.disk) same in
    λ h. subst (λ (d : D). LeavesOnly disk.moment disk.crash_states_since old.store.disk d (KeptFrom new.desk old.told)) (sym is)
    (leaves_still disk.moment disk.crash_states_since old.store.disk (KeptFrom new.desk old.told) (λ c left.
    kept_low new.desk.store.start (log new.desk) new.told old.told c told
    (exit (subst (λ (d : D). disk.honest d) (sym is) h) c
    (subst (λ (d : D). IsOutcome (disk.unsynced d) c) (sym is) (only_now old.store.disk c h left)))))
