-- What each call of a journal does to its invariant, and what it leaves at each moment.
use Rattle.std.proofs.Common.{◌≡◌, ◌⊎◌, ◌≤◌, ◌<◌, ◌+◌, ◌-◌, inl, inr, ⊎_elim, ℕ, Bool, true, false, List, [], ◌∷◌, ◌++◌}
use Rattle.std.proofs.Common.{length, refl, arith, sym, ◌∙◌, ap, subst, length-append}
use Rattle.std.specs.List.{AllByRecursion}
use Rattle.std.specs.Prelude.{Result, slice_index}
use Rattle.std.proofs.lemmas.List.{take_at}
use Rattle.fp_disk.specs.Outcomes.{ChangesWithin, CountsFaults, Elapses, IsOutcome, LeavesOnly, PendingState, Written}
use Rattle.fp_disk.specs.Outcomes.{all_synced, with_write}
use Rattle.fp_disk.specs.Crashes.{SameHonesty}
use Rattle.fp_disk.specs.declared.disk.DiskFault.{DiskFault}
use Rattle.fp_journal.specs.Calls.{KeepsAround}
use Rattle.fp_disk.specs.Word.{word_call}
use Rattle.fp_disk.specs.declared.disk.Disk.{Ghosts}
use Rattle.fp_journal.specs.declared.journal.Phase.{Phase}
use Rattle.fp_journal.specs.declared.journal.Phase.TheVariants.{Idle, Staged, BodySynced, GateOpened, Failed}
use Rattle.fp_journal.specs.Holds.{Apart, Holds}
use Rattle.fp_gate.specs.Gates.{IsOpen, IsShut, StaysAsRead}
use Rattle.fp_journal.specs.Chain.{Ends, with_length, with_gate, body_of, spell}
use Rattle.fp_journal.specs.Moments.{KeepsFirm}
use Rattle.fp_journal.specs.declared.held.Held.{Held}
use Rattle.fp_journal.specs.declared.held.Held.TheVariants as held
use Rattle.fp_journal.specs.State.{JournalState, HasChain, HasChainOrNext, HasNext, CrashStates, StatesAfterSync}
use Rattle.fp_journal.specs.State.{Outside, EndsClosed, IsAt, IsFrame, IsOnWay, InFlight, AllShort, IsHeld, IsKept}
use Rattle.fp_journal.specs.State.{IsLeft, SameSlot, begun_of, has_begun, phase_of, room}
use Rattle.fp_journal.proofs.Gates.{text-more, ready_written}
use Rattle.fp_journal.proofs.Calls as calls
use Rattle.fp_journal.proofs.Firm as firm
use Rattle.fp_journal.proofs.Holds.{holds_within}
use Rattle.fp_journal.proofs.Stays as stays
use Rattle.fp_gate.specs.declared.gate.TheConstants.{OPEN}

-- ---- the bytes of a body on its way
pub body_of-with_gate : (b : List ℕ) → body_of (with_gate b) ≡ b
body_of-with_gate b = let e = length-append b (0 ∷ []) in take_at b (0 ∷ []) (length (with_gate b) - 1 - 4) (omega (arith, e))

pub length_with_gate : (b : List ℕ) → length (with_gate b) ≡ length b + 5
length_with_gate b = let e = length-append b (0 ∷ []) in omega (arith, e)

pub All-push : {X : Type 0} (P : X → Type 0) (xs : List X) (x : X) → AllByRecursion P xs → P x → AllByRecursion P (xs ++ x ∷ [])
All-push P [] x all p = (p, tt)
All-push P (y ∷ ys) x all p = (all.0, All-push P ys x all.1 p)

longer_text : (t b : List ℕ) → length (t ++ OPEN ∷ with_length b) ≡ length t + 5 + length b
longer_text t b = let e = length-append t (OPEN ∷ with_length b) in omega (arith, e)

module _ {D : Type 0} (disk : Ghosts D)
    (present : (d : D) → disk.honest d → IsOutcome (disk.unsynced d) (disk.bytes d))
    (only_now : (d : D) (c : List ℕ) → disk.honest d → disk.crash_states_since d (disk.moment d) c →
    IsOutcome (disk.unsynced d) c)
    {k : JournalState D} {end : ℕ} {in_flight : List ℕ} (kept : IsKept disk.honest disk.bytes disk.unsynced k end in_flight) where
  abbrev text : List ℕ
  text = k.front ++ spell k.sealed

  abbrev next : List ℕ → List ℕ
  next body = k.front ++ spell (k.sealed ++ body ∷ [])

  abbrev State : Phase → Bool → List ℕ → D → Type 0
  State p begun body d = IsAt p begun (disk.unsynced d) (disk.bytes d) k.slot.start k.slot.stop text (with_length body) (next body)

  abbrev Kept : D → List ℕ → Phase → Bool → List ℕ → Type 0
  Kept d body p begun written = IsKept disk.honest disk.bytes disk.unsynced
      (record k { disk = d; staged = body; phase = p; begun = begun }) end written

  abbrev Time : D → PendingState → Type 0
  Time new u = Elapses (disk.moment k.disk) (disk.moment new) (disk.crash_states_since k.disk) (disk.crash_states_since new) (IsOutcome u)

  abbrev Leaves : D → (List ℕ → Type 0) → Type 0
  Leaves new P = LeavesOnly disk.moment disk.crash_states_since k.disk new P

  -- the outcomes now
  pub outcomes : disk.honest k.disk → (c : List ℕ) → IsOutcome (disk.unsynced k.disk) c → CrashStates k c
  outcomes h c o = stays.at_claims k.slot k.front k.sealed k.staged k.phase k.begun (disk.bytes k.disk)
      (disk.unsynced k.disk) c (kept.state h) o

  state_is : (p : Phase) → k.phase ≡ p → disk.honest k.disk → State p k.begun k.staged k.disk
  state_is p is h = subst (λ (q : Phase). State q k.begun k.staged k.disk) is (kept.state h)

  -- what a read gives once the gate is open
  pub reads_opened : disk.honest k.disk → k.phase ≡ GateOpened → HasChain k.slot k.front (k.sealed ++ k.staged ∷ []) (disk.bytes k.disk)
  reads_opened h opened = (state_is GateOpened opened h).0

  flight_is : (p : Phase) → k.phase ≡ p → InFlight p k.slot.most (k.slot.stop - end) k.staged in_flight
  flight_is p is = subst (λ (q : Phase). InFlight q k.slot.most (k.slot.stop - end) k.staged in_flight) is kept.flight

  -- the bytes of a body on its way
  pub frame_on_way : IsOnWay k.phase → IsFrame k.slot.most (k.slot.stop - end) k.staged in_flight
  frame_on_way on = stays.by_phase
      (λ p. IsOnWay p → InFlight p k.slot.most (k.slot.stop - end) k.staged in_flight →
      IsFrame k.slot.most (k.slot.stop - end) k.staged in_flight) (λ on f. absurd on) (λ on f. f) (λ on f. f)
      (λ on f. f) (λ on f. absurd on) k.phase on kept.flight

  goes_on : (d : D) (body : List ℕ) (p : Phase) (begun : Bool) (written : List ℕ) →
      InFlight p k.slot.most (k.slot.stop - end) body written → (disk.honest d → State p begun body d) →
      Kept d body p begun written
  goes_on d body p begun written flight state =
      record { place = kept.place; within = kept.within; short = kept.short; flight = flight; state = state }

  -- ---- body_synced
  pub body_done : k.phase ≡ Staged →
      (disk.honest k.disk → (c : List ℕ) → IsOutcome (disk.unsynced k.disk) c →
      HasNext k.slot k.front k.sealed k.staged c) → Kept k.disk k.staged BodySynced false in_flight
  body_done staged all = goes_on k.disk k.staged BodySynced false in_flight (flight_is Staged staged) (λ h.
      let q = firm.ends_firm (disk.unsynced k.disk) (disk.bytes k.disk) (present k.disk h)
      (k.slot.start + length text + 1) k.slot.stop (with_length k.staged) (λ c o. (all h c o).next) in
      ((state_is Staged staged h).0, record { gate = q.gate; shut = q.shut; firm = q.firm; within = q.within }))

  -- ---- the gate of a body that is synced
  module _ (synced : k.phase ≡ BodySynced) where
    pub gate_shut : disk.honest k.disk → IsShut (disk.unsynced k.disk) end
    gate_shut h = subst (λ (at : ℕ). IsShut (disk.unsynced k.disk) at) (sym kept.place)
        (firm.quiet_shut k.slot.start k.slot.stop text (disk.unsynced k.disk) (state_is BodySynced synced h).0)

    frame_long : length in_flight ≡ length k.staged + 5
    frame_long = let f : IsFrame k.slot.most (k.slot.stop - end) k.staged in_flight = flight_is BodySynced synced in
        ap length f.shape ∙ length_with_gate k.staged

    pub body_stays : disk.honest k.disk → StaysAsRead (disk.unsynced k.disk) (disk.bytes k.disk) (end + 1) (end + 1 + length in_flight)
    body_stays h = let size = frame_long in let place = kept.place in
        let from : end + 1 ≡ k.slot.start + length text + 1 = omega (arith, place) in
        let to : end + 1 + length in_flight ≡ k.slot.start + length text + 1 + (length (with_length k.staged) + 1) =
        omega (arith, place, size) in
        subst (λ (j : ℕ). StaysAsRead (disk.unsynced k.disk) (disk.bytes k.disk) j (end + 1 + length in_flight)) (sym from)
        (subst (λ (j : ℕ). StaysAsRead (disk.unsynced k.disk) (disk.bytes k.disk) (k.slot.start + length text + 1) j) (sym to)
        (firm.sure_stays k.slot.start k.slot.stop text (disk.unsynced k.disk) (with_length k.staged)
        (disk.bytes k.disk) (state_is BodySynced synced h).1 (present k.disk h)))

  -- ---- gate_synced
  module _ (opened : k.phase ≡ GateOpened)
      (all : disk.honest k.disk → (c : List ℕ) → IsOutcome (disk.unsynced k.disk) c →
      HasChain k.slot k.front (k.sealed ++ k.staged ∷ []) c) where
    pub gate_open : disk.honest k.disk → IsOpen (disk.unsynced k.disk) end
    gate_open h = λ c o. subst (λ (at : ℕ). (at < length c) × (slice_index c at ≡ OPEN)) (sym kept.place)
        (firm.ends_open k.slot.start k.slot.stop text (with_length k.staged) c
        (subst (λ (t : List ℕ). Ends k.slot.start k.slot.stop t c) (text-more k.front k.sealed k.staged)
        (all h c o)))

    pub sealed_done : (name : ℕ) (sealed : List (List ℕ)) (n : ℕ) → sealed ≡ k.sealed ++ k.staged ∷ [] → n ≡ length in_flight
        → IsKept disk.honest disk.bytes disk.unsynced
        (record k { name = name; sealed = sealed; phase = Idle; begun = false }) (end + n) in_flight
    sealed_done name sealed n is len =
        let f : IsFrame k.slot.most (k.slot.stop - end) k.staged in_flight = flight_is GateOpened opened in
        let place = kept.place in let fits = f.fits in let w = kept.within in
        let size : length in_flight ≡ length k.staged + 5 = ap length f.shape ∙ length_with_gate k.staged in
        let long : length (k.front ++ spell sealed) ≡ length text + 5 + length k.staged =
        ap (λ (bs : List (List ℕ)). length (k.front ++ spell bs)) is ∙
        ap length (text-more k.front k.sealed k.staged) ∙ longer_text text k.staged in
        record {
          place = omega (arith, place, len, size, long);
          within = omega (arith, len, size, fits, w);
          short = subst (λ (bs : List (List ℕ)). AllShort k.slot.most bs) (sym is)
              (All-push (λ (b : List ℕ). length b ≤ k.slot.most) k.sealed k.staged kept.short f.short);
          flight = tt;
          state = λ h. subst (λ (bs : List (List ℕ)). EndsClosed k.slot.start k.slot.stop (k.front ++ spell bs)
              (disk.unsynced k.disk)) (sym is)
              (firm.ends_firm (disk.unsynced k.disk) (disk.bytes k.disk) (present k.disk h) k.slot.start k.slot.stop
              (next k.staged) (all h));
        }

  module _ (new : D) where
    -- ---- stage
    module _ (idle : k.phase ≡ Idle) where
      quiet : disk.honest k.disk → EndsClosed k.slot.start k.slot.stop text (disk.unsynced k.disk)
      quiet h = state_is Idle idle h

      behind : k.slot.start + length text < end + 1
      behind = let p = kept.place in omega (arith, p)

      pub stage_leaves : (n : ℕ) → (disk.honest k.disk → Time new (with_write (disk.unsynced k.disk) (end + 1) n)) →
          disk.honest k.disk → Leaves new (HasChain k.slot k.front k.sealed)
      stage_leaves n time h = calls.stage_leaves disk.honest disk.bytes disk.unsynced disk.moment
          disk.crash_states_since present only_now k.disk new h k.slot.start k.slot.stop text [] (text ++ OPEN ∷ [])
          refl (quiet h) (end + 1) n behind (time h)

      pub stage_failed : (body written : List ℕ) (n : ℕ) → (disk.honest new → disk.honest k.disk) →
          (disk.honest k.disk → (disk.unsynced new ≡ disk.unsynced k.disk) ⊎
          (disk.unsynced new ≡ with_write (disk.unsynced k.disk) (end + 1) n)) → Kept new body Failed false written
      stage_failed body written n back failed = goes_on new body Failed false written tt
          (λ h. let h0 = back h in calls.stage_failed disk.honest disk.bytes disk.unsynced disk.moment
          disk.crash_states_since present only_now k.disk new h0 k.slot.start k.slot.stop text (with_length body)
          (next body) (text-more k.front k.sealed body) (quiet h0) (end + 1) n behind (failed h0))

      -- the body lies in the frame's bytes, of which the piece is what was written
      module _ (body written piece : List ℕ) (frame : written ≡ with_gate body) (shape : piece ≡ with_gate body)
          (fits : length body + 6 ≤ room k) where
        pub stage_done : length body ≤ k.slot.most → (disk.honest new → disk.honest k.disk)
            → (disk.honest k.disk → Written (disk.bytes k.disk) (end + 1) piece (disk.bytes new)) →
            (disk.honest k.disk → disk.unsynced new ≡ with_write (disk.unsynced k.disk) (end + 1) (length piece))
            → Kept new (body_of written) Staged false written
        stage_done short back wrote touch =
            let place = kept.place in let within = kept.within in
            let is : body_of written ≡ body = ap body_of frame ∙ body_of-with_gate body in
            subst (λ (b : List ℕ). Kept new b Staged false written) (sym is)
            (goes_on new body Staged false written
            (record { shape = frame; short = short; fits = omega (arith, fits, place) }) (λ h. let h0 = back h in (
              calls.stage_quiet disk.honest disk.bytes disk.unsynced disk.moment disk.crash_states_since present
                  only_now k.disk new h0 k.slot.start k.slot.stop text (with_length body) (next body)
                  (text-more k.front k.sealed body) (quiet h0) (end + 1) (length piece) behind (touch h0),
              ready_written k.slot.start k.slot.stop text (with_length body) (disk.bytes k.disk) (disk.bytes new)
                  (end + 1) (omega (arith, place)) (omega (arith, place, fits, within))
                  (subst (λ (t : List ℕ). Written (disk.bytes k.disk) (end + 1) t (disk.bytes new)) shape (wrote h0)),
            )))

    -- ---- open_gate
    module _ (synced : k.phase ≡ BodySynced) (place : ℕ) (is : place ≡ end) where
      pub gate_leaves : (disk.honest k.disk → Time new (with_write (disk.unsynced k.disk) place 1)) →
          disk.honest k.disk → Leaves new (HasChainOrNext k.slot k.front k.sealed k.staged)
      gate_leaves time h = calls.gate_leaves disk.honest disk.bytes disk.unsynced disk.moment disk.crash_states_since
          present only_now k.disk new h k.slot.start k.slot.stop text (with_length k.staged) (next k.staged)
          (text-more k.front k.sealed k.staged) (state_is BodySynced synced h) place (is ∙ kept.place) (time h)

      pub gate_failed : (disk.honest new → disk.honest k.disk) →
          (disk.honest k.disk → (disk.unsynced new ≡ disk.unsynced k.disk) ⊎
          (disk.unsynced new ≡ with_write (disk.unsynced k.disk) place 1)) → Kept new k.staged Failed true in_flight
      gate_failed back failed = goes_on new k.staged Failed true in_flight tt
          (λ h. let h0 = back h in calls.gate_failed disk.honest disk.bytes disk.unsynced disk.moment
          disk.crash_states_since present only_now k.disk new h0 k.slot.start k.slot.stop text
          (with_length k.staged) (next k.staged) (text-more k.front k.sealed k.staged)
          (state_is BodySynced synced h0) place (is ∙ kept.place) (failed h0))

      pub gate_done : (disk.honest new → disk.honest k.disk) →
          (disk.honest k.disk → Written (disk.bytes k.disk) place (OPEN ∷ []) (disk.bytes new)) →
          (disk.honest k.disk → disk.unsynced new ≡ with_write (disk.unsynced k.disk) place 1) →
          Kept new k.staged GateOpened true in_flight
      gate_done back wrote touch = goes_on new k.staged GateOpened true in_flight (flight_is BodySynced synced)
          (λ h. let h0 = back h in calls.gate_open disk.honest disk.bytes disk.unsynced disk.moment
          disk.crash_states_since present only_now k.disk new h0 k.slot.start k.slot.stop text
          (with_length k.staged) (next k.staged) (text-more k.front k.sealed k.staged)
          (state_is BodySynced synced h0) place (is ∙ kept.place) (wrote h0) (touch h0))

      pub gate_reads : (disk.honest k.disk → Written (disk.bytes k.disk) place (OPEN ∷ []) (disk.bytes new)) →
          (disk.honest k.disk → disk.unsynced new ≡ with_write (disk.unsynced k.disk) place 1) → disk.honest k.disk →
          HasChain k.slot k.front (k.sealed ++ k.staged ∷ []) (disk.bytes new)
      gate_reads wrote touch h = (calls.gate_open disk.honest disk.bytes disk.unsynced disk.moment
          disk.crash_states_since present only_now k.disk new h k.slot.start k.slot.stop text (with_length k.staged)
          (next k.staged) (text-more k.front k.sealed k.staged) (state_is BodySynced synced h) place
          (is ∙ kept.place) (wrote h) (touch h)).0

    -- ---- syncs
    pub sync_apart : (Out : ℕ → ℕ → Type 0) → (disk.honest k.disk → Time new (disk.unsynced k.disk)) →
        (disk.honest k.disk → (disk.unsynced new ≡ disk.unsynced k.disk) ⊎
        (disk.unsynced new ≡ all_synced (disk.bytes k.disk))) → disk.honest k.disk →
        KeepsFirm disk.moment disk.crash_states_since disk.unsynced k.disk new Out
    sync_apart Out time is h = calls.frame_sync disk.honest disk.bytes disk.unsynced disk.moment
        disk.crash_states_since present only_now k.disk new h Out (time h) (is h)

    pub sync_failed : (begun : Bool) → has_begun k.phase k.begun ≡ begun → (disk.honest new → disk.honest k.disk) →
        (disk.honest k.disk → disk.unsynced new ≡ disk.unsynced k.disk) → Kept new k.staged Failed begun in_flight
    sync_failed begun is back same =
        subst (λ (b : Bool). Kept new k.staged Failed b in_flight) is
        (goes_on new k.staged Failed (has_begun k.phase k.begun) in_flight tt
        (λ h. let h0 = back h in subst
        (λ (u : PendingState). IsLeft (has_begun k.phase k.begun) u k.slot.start k.slot.stop text
        (with_length k.staged)) (sym (same h0))
        (stays.left_at k.slot.start k.slot.stop text (with_length k.staged) (next k.staged) (disk.bytes k.disk)
        (disk.unsynced k.disk) k.phase k.begun (kept.state h0))))

    pub sync_done : (disk.honest new → disk.honest k.disk) →
        (disk.honest k.disk → disk.bytes new ≡ disk.bytes k.disk) →
        (disk.honest k.disk → disk.unsynced new ≡ all_synced (disk.bytes k.disk)) →
        Kept new k.staged k.phase k.begun in_flight
    sync_done back same sure = goes_on new k.staged k.phase k.begun in_flight kept.flight
        (λ h. let h0 = back h in subst
        (λ (b : List ℕ). IsAt k.phase k.begun (disk.unsynced new) b k.slot.start k.slot.stop text
        (with_length k.staged) (next k.staged)) (sym (same h0))
        (subst (λ (u : PendingState). IsAt k.phase k.begun u (disk.bytes k.disk) k.slot.start k.slot.stop text
        (with_length k.staged) (next k.staged)) (sym (sure h0))
        (stays.at_synced k.slot.start k.slot.stop text (with_length k.staged) (next k.staged) (disk.bytes k.disk)
        (disk.unsynced k.disk) (present k.disk h0) k.phase k.begun (kept.state h0))))

    pub sync_secures : (disk.honest new → disk.honest k.disk) →
        (disk.honest k.disk → disk.unsynced new ≡ all_synced (disk.bytes k.disk)) → disk.honest new → (c : List ℕ) →
        IsOutcome (disk.unsynced new) c → StatesAfterSync k c
    sync_secures back sure h c o = let h0 = back h in
        stays.at_secures k.slot k.front k.sealed k.staged k.phase k.begun (disk.bytes k.disk) (disk.unsynced k.disk)
        c (present k.disk h0) (kept.state h0) (subst (λ (u : PendingState). IsOutcome u c) (sure h0) o)

    -- ---- write_outside
    module _ (from : ℕ) (piece : List ℕ) (out : Outside k.slot from (length piece)) where
      abbrev Tried : PendingState
      Tried = with_write (disk.unsynced k.disk) from (length piece)

      pub outside_leaves : (disk.honest k.disk → Time new Tried) → disk.honest k.disk → Leaves new (CrashStates k)
      outside_leaves time h = calls.goes disk.honest disk.bytes disk.unsynced disk.moment disk.crash_states_since
          present only_now k.disk new h Tried (CrashStates k) (time h) (outcomes h)
          (λ c o. stays.outside_claims k.slot k.front k.sealed k.staged from (length piece) out k.phase k.begun
          (disk.bytes k.disk) (disk.unsynced k.disk) c (kept.state h) o)

      pub outside_failed : (begun : Bool) → has_begun k.phase k.begun ≡ begun →
          (disk.honest new → disk.honest k.disk) →
          (disk.honest k.disk → (disk.unsynced new ≡ disk.unsynced k.disk) ⊎ (disk.unsynced new ≡ Tried)) →
          Kept new k.staged Failed begun in_flight
      outside_failed begun is back failed =
          subst (λ (b : Bool). Kept new k.staged Failed b in_flight) is
          (goes_on new k.staged Failed (has_begun k.phase k.begun) in_flight tt (λ h. let h0 = back h in ⊎_elim
          (λ same. subst (λ (u : PendingState). IsLeft (has_begun k.phase k.begun) u k.slot.start k.slot.stop text
          (with_length k.staged)) (sym same)
          (stays.left_at k.slot.start k.slot.stop text (with_length k.staged) (next k.staged) (disk.bytes k.disk)
          (disk.unsynced k.disk) k.phase k.begun (kept.state h0)))
          (λ touch. subst (λ (u : PendingState). IsLeft (has_begun k.phase k.begun) u k.slot.start k.slot.stop text
          (with_length k.staged)) (sym touch)
          (stays.left_outside k.slot.start k.slot.stop text (with_length k.staged) (next k.staged) from
          (length piece) out k.phase k.begun (disk.bytes k.disk) (disk.unsynced k.disk) (kept.state h0)))
          (failed h0)))

      pub outside_done : (disk.honest new → disk.honest k.disk) →
          (disk.honest k.disk → Written (disk.bytes k.disk) from piece (disk.bytes new)) →
          (disk.honest k.disk → disk.unsynced new ≡ Tried) → Kept new k.staged k.phase k.begun in_flight
      outside_done back wrote touch = goes_on new k.staged k.phase k.begun in_flight kept.flight
          (λ h. let h0 = back h in subst
          (λ (u : PendingState). IsAt k.phase k.begun u (disk.bytes new) k.slot.start k.slot.stop text
          (with_length k.staged) (next k.staged)) (sym (touch h0))
          (stays.at_outside k.slot.start k.slot.stop text (with_length k.staged) (next k.staged) from
          (length piece) out (disk.bytes k.disk) (disk.bytes new) piece refl (wrote h0) k.phase k.begun
          (disk.unsynced k.disk) (kept.state h0)))

  -- ---- what a call keeps, however it ended
  module _ {S : Type 0} {l : JournalState D} {r : Result S DiskFault} (same : SameSlot k l)
      (back : SameHonesty disk k.disk l.disk) (cause : CountsFaults (disk.faults k.disk) (disk.faults l.disk) r) where
    pub sync_kept : (disk.honest k.disk → Time l.disk (disk.unsynced k.disk)) →
        (disk.honest k.disk → (disk.unsynced l.disk ≡ disk.unsynced k.disk) ⊎
        (disk.unsynced l.disk ≡ all_synced (disk.bytes k.disk))) →
        (disk.honest k.disk → disk.bytes l.disk ≡ disk.bytes k.disk) →
        KeepsAround disk k l (CrashStates k) (λ at n. Unit {0}) r
    sync_kept time is read = record {
      same = same;
      call = record {
        word = word_call disk only_now back time outcomes outcomes;
        apart =
            sync_apart l.disk (λ at n. Unit {0}) time is;
        cause = cause;
      };
      beside =
          λ h at t out p. subst (λ (b : List ℕ). Holds b at t) (sym (read h)) p;
    }

    module _ (from : ℕ) (piece : List ℕ)
        (time : disk.honest k.disk → Time l.disk (with_write (disk.unsynced k.disk) from (length piece)))
        (failed : disk.honest k.disk →
        (disk.unsynced l.disk ≡ disk.unsynced k.disk) ⊎
        (disk.unsynced l.disk ≡ with_write (disk.unsynced k.disk) from (length piece)))
        (changes : disk.honest k.disk → ChangesWithin (disk.bytes k.disk) from (length piece) (disk.bytes l.disk)) where
      written_kept : (P : List ℕ → Type 0) (Out : ℕ → ℕ → Type 0) → (disk.honest k.disk → Leaves l.disk P) →
          ((at m : ℕ) → Out at m → Apart from (length piece) at m) → KeepsAround disk k l P Out r
      written_kept P Out leaves apart = record {
        same = same;
        call = record {
          word = record { any_moment = leaves; honest = back };
          apart = λ h. calls.frame_write disk.honest disk.bytes disk.unsynced disk.moment disk.crash_states_since
              present only_now k.disk l.disk h from (length piece) Out apart (time h) (failed h);
          cause = cause;
        };
        beside = λ h at t out p. holds_within (disk.bytes k.disk) (disk.bytes l.disk) t from (length piece)
            at (changes h) (apart at (length t) out) p;
      }

      pub outside_kept : Outside k.slot from (length piece) → KeepsAround disk k l (CrashStates k) (Apart from (length piece)) r
      outside_kept out = written_kept (CrashStates k) (Apart from (length piece))
          (outside_leaves l.disk from piece out time) (λ at m apart. apart)

      pub gate_kept : k.phase ≡ BodySynced → from ≡ end → length piece ≡ 1 →
          KeepsAround disk k l (HasChainOrNext k.slot k.front k.sealed k.staged) (Outside k.slot) r
      gate_kept synced is one = let ends = kept.place in let within = kept.within in
          written_kept (HasChainOrNext k.slot k.front k.sealed k.staged) (Outside k.slot)
          (gate_leaves l.disk synced from is (λ h. subst (λ (n : ℕ). Time l.disk (with_write (disk.unsynced k.disk) from n)) one (time h)))
          (λ at m out. ⊎_elim (λ before. inr (omega (arith, before, ends, is))) (λ after. inl (omega (arith, after, within, is, one))) out)

      pub stage_kept : k.phase ≡ Idle → from ≡ end + 1 → (body : List ℕ) → piece ≡ with_gate body →
          length body + 6 ≤ room k → KeepsAround disk k l (HasChain k.slot k.front k.sealed) (Outside k.slot) r
      stage_kept idle is body shape fits = let place = kept.place in
          let size : length piece ≡ length body + 5 = ap length shape ∙ length_with_gate body in
          written_kept (HasChain k.slot k.front k.sealed) (Outside k.slot)
          (stage_leaves l.disk idle (length piece)
          (λ h. subst (λ (n : ℕ). Time l.disk (with_write (disk.unsynced k.disk) n (length piece))) is (time h)))
          (λ at m out. ⊎_elim (λ before. inr (omega (arith, before, place, is)))
          (λ after. inl (omega (arith, after, place, size, fits, is))) out)

-- ---- what is kept for the next call
pub begun_is : {D : Type 0} (held : Held D) → has_begun (phase_of held) (begun_of held) ≡ begun_of held
begun_is held.Idle = refl
begun_is held.Staged = refl
begun_is (held.BodySynced synced) = refl
begun_is (held.GateOpened gate) = refl
begun_is (held.Failed begun) = refl

-- a call of the disk leaves it so
pub held_stays : {D : Type 0} (honest : D → Type 0) (moment : D → ℕ) (old new : D) (name end : ℕ) (held : Held D) →
    (honest new → honest old) → (honest old → moment old ≤ moment new) → IsHeld honest moment old name end held →
    IsHeld honest moment new name end held
held_stays honest moment old new name end held.Idle back later is = tt
held_stays honest moment old new name end held.Staged back later is = tt
held_stays honest moment old new name end (held.BodySynced synced) back later is =
    (is.0, λ h. let h0 = back h in let a = is.1 h0 in let b = later h0 in omega (arith, a, b))
held_stays honest moment old new name end (held.GateOpened gate) back later is = is
held_stays honest moment old new name end (held.Failed begun) back later is = tt
