-- An opening, by the calls that it makes in turn.
use Rattle.std.proofs.Common.{◌≡◌, ◌<◌, ⊎_elim, inl, inr, ℕ, List, [], ◌∷◌, ◌++◌, refl, sym, ◌∙◌, subst}
use Rattle.std.specs.Prelude.{Result, Ok, Err}
use Rattle.std.proofs.lemmas.List.{append-nil}
use Rattle.fp_disk.specs.Crashes.{SameHonesty}
use Rattle.fp_disk.specs.Outcomes.{IsOutcome}
use Rattle.fp_disk.specs.Word.{Adds, KeepsWord, OnlyNow, word_call, word_map, word_then}
use Rattle.fp_disk.specs.declared.disk.Disk.{Ghosts}
use Rattle.fp_disk.specs.declared.history.CallKind.{CallKind}
use Rattle.fp_journal.specs.Pieces.{OnlyReads, ThenReads, ThenSomeReads}
use Rattle.fp_journal.specs.declared.chain.ChainFault.{ChainFault}
use Rattle.fp_journal.specs.declared.chain.ChainFault.TheVariants as chain_fault
use Rattle.fp_journal.proofs.OnlyReading.{reads_behind}
use Rattle.fp_layout.specs.Faults.{fault_of_chain}
use Rattle.fp_layout.specs.Opens.{Opens}
use Rattle.fp_layout.specs.declared.fault.OpenFault.{OpenFault}
use Rattle.fp_layout.specs.declared.fault.OpenFault.TheVariants.{Device, Memory}
use Rattle.fp_layout.proofs.Calls.{none_made, reads_after, some_reads_after}

-- a call that adds no outcome
pub call_word : {D : Type 0} (disk : Ghosts D) {old new : D} → OnlyNow disk → SameHonesty disk old new
    → Adds disk old new (disk.unsynced old) → KeepsWord disk old new (IsOutcome (disk.unsynced old))
call_word disk only_now honest time = word_call disk only_now honest time (λ h c out. out) (λ h c out. out)

-- where none but reads were made
only_reads : (old new : List CallKind) → ThenSomeReads [] old new → ThenReads [] old new
only_reads old new some = ⊎_elim (λ is. ([], tt, is ∙ sym (append-nil old))) (λ reads. reads) some

-- what a chain's reader says is the device's or memory's where its fault is
of_chain : (P Q : Type 0) (f : ChainFault) → (f ≡ chain_fault.Device → P) → (f ≡ chain_fault.Memory → Q)
    → (fault_of_chain f ≡ Device → P) × (fault_of_chain f ≡ Memory → Q)
of_chain P Q (chain_fault.Damaged k) device memory = (λ e. absurd (cc e), λ e. absurd (cc e))
of_chain P Q chain_fault.Device device memory = (λ e. device refl, λ e. absurd (cc e))
of_chain P Q chain_fault.Memory device memory = (λ e. absurd (cc e), λ e. memory refl)

module _ {D : Type 0} {disk : Ghosts D} {old new : D} where
  -- reads alone
  pub reads_ok : {T : Type 0} {x : T} → OnlyReads disk old new → disk.faults new ≡ disk.faults old → Opens disk [] old new (Ok x)
  reads_ok k faults = record { same = λ h. (k.same h).0; word = k.word; called = k.called; no_failure = faults; cause = tt; memory = tt }

  pub reads_err : {T : Type 0} {f : OpenFault} → OnlyReads disk old new → (f ≡ Device → disk.faults old < disk.faults new)
      → (f ≡ Memory → disk.faults new ≡ disk.faults old) → Opens {T = T} disk [] old new (Err f)
  reads_err k cause memory =
      record { same = λ h. (k.same h).0; word = k.word; called = inr k.called; no_failure = tt; cause = cause; memory = memory }

  pub chain_err : {T : Type 0} (f : ChainFault) → OnlyReads disk old new → (f ≡ chain_fault.Device → disk.faults old < disk.faults new)
      → (f ≡ chain_fault.Memory → disk.faults new ≡ disk.faults old) → Opens {T = T} disk [] old new (Err (fault_of_chain f))
  chain_err f k cause memory =
      let p = of_chain (disk.faults old < disk.faults new) (disk.faults new ≡ disk.faults old) f cause memory in reads_err k p.0 p.1

  module _ {kinds : List CallKind} where
    -- another value, and another type of value
    pub opens_as : {S T : Type 0} {x : S} {y : T} → Opens disk kinds old new (Ok x) → Opens disk kinds old new (Ok y)
    opens_as o = record { same = o.same; word = o.word; called = o.called; no_failure = o.no_failure; cause = tt; memory = tt }

    pub refuses_as : {S T : Type 0} {f : OpenFault} → Opens {T = S} disk kinds old new (Err f) → Opens {T = T} disk kinds old new (Err f)
    refuses_as o = record { same = o.same; word = o.word; called = o.called; no_failure = tt; cause = o.cause; memory = o.memory }

    -- its first call failed
    pub opens_none : {T : Type 0} {kind : CallKind} → (disk.honest old → disk.bytes new ≡ disk.bytes old)
        → KeepsWord disk old new (IsOutcome (disk.unsynced old)) → disk.calls new ≡ disk.calls old ++ kind ∷ []
        → disk.faults old < disk.faults new → Opens {T = T} disk (kind ∷ kinds) old new (Err Device)
    opens_none {kind = kind} same word called cause = record {
      same = same;
      word = word;
      called = inl (inr (none_made kinds (disk.calls old ++ kind ∷ []) (disk.calls new) called));
      no_failure = tt;
      cause = λ e. cause;
      memory = λ e. absurd (cc e);
    }

-- ---- what is done where what came first left no new outcome
module _ {D : Type 0} {disk : Ghosts D} {old middle new : D}
    (none : disk.honest old → (c : List ℕ) → IsOutcome (disk.unsynced middle) c → IsOutcome (disk.unsynced old) c) where
  word_on : KeepsWord disk old middle (IsOutcome (disk.unsynced old)) → KeepsWord disk middle new (IsOutcome (disk.unsynced middle))
      → KeepsWord disk old new (IsOutcome (disk.unsynced old))
  word_on first next = word_then first (word_map (λ h. none (first.honest.1 h)) next)

  module _ {kinds : List CallKind} where
    -- an opening behind one call
    pub opens_after : {T : Type 0} (r : Result T OpenFault) (kind : CallKind) → (disk.honest old → disk.bytes middle ≡ disk.bytes old)
        → KeepsWord disk old middle (IsOutcome (disk.unsynced old)) → disk.calls middle ≡ disk.calls old ++ kind ∷ []
        → disk.faults middle ≡ disk.faults old → Opens disk kinds middle new r → Opens disk (kind ∷ kinds) old new r
    opens_after (Ok x) kind same word called faults o = record {
      same = λ h. o.same (word.honest.0 h) ∙ same h;
      word = word_on word o.word;
      called = reads_after kind kinds (disk.calls old) (disk.calls middle) (disk.calls new) called o.called;
      no_failure = o.no_failure ∙ faults;
      cause = tt;
      memory = tt;
    }
    opens_after (Err f) kind same word called faults o = record {
      same = λ h. o.same (word.honest.0 h) ∙ same h;
      word = word_on word o.word;
      called = some_reads_after kind kinds (disk.calls old) (disk.calls middle) (disk.calls new) called o.called;
      no_failure = tt;
      cause = λ e. subst (λ (n : ℕ). n < disk.faults new) faults (o.cause e);
      memory = λ e. o.memory e ∙ faults;
    }

    -- reads behind an opening
    pub opens_more : {S T : Type 0} {x : S} (r : Result T OpenFault) → Opens disk kinds old middle (Ok x) → Opens disk [] middle new r
        → Opens disk kinds old new r
    opens_more (Ok y) a o = record {
      same = λ h. o.same (a.word.honest.0 h) ∙ a.same h;
      word = word_on a.word o.word;
      called = reads_behind kinds (disk.calls old) (disk.calls middle) (disk.calls new) a.called o.called;
      no_failure = o.no_failure ∙ a.no_failure;
      cause = tt;
      memory = tt;
    }
    opens_more (Err f) a o = record {
      same = λ h. o.same (a.word.honest.0 h) ∙ a.same h;
      word = word_on a.word o.word;
      called = inr (reads_behind kinds (disk.calls old) (disk.calls middle) (disk.calls new) a.called
          (only_reads (disk.calls middle) (disk.calls new) o.called));
      no_failure = tt;
      cause = λ e. subst (λ (n : ℕ). n < disk.faults new) a.no_failure (o.cause e);
      memory = λ e. o.memory e ∙ a.no_failure;
    }
