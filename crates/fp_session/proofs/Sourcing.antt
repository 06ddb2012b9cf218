-- Sources of edits, and how far they were asked.
use Rattle.std.proofs.Common.{◌≡◌, List, [], ◌∷◌, ◌++◌, OnOk, Option, Some, None, Result, Ok, Err, sym, ap, subst, ◌∙◌}
use Rattle.std.proofs.Common.{append_assoc, append-nil, ◌≤◌, ◌+◌, ℕ, arith}
use Rattle.fp_edit.specs.declared.edit.Edit.{Edit}
use Rattle.fp_edit.specs.declared.line.LineFault.{LineFault}
use Rattle.fp_session.specs.Asks.{Ask}
use Rattle.fp_session.specs.Progress.{AsksFor}
use Rattle.fp_session.specs.Sources.{AsksNext, HasAsked, most_at_once, most_waiting}
use Rattle.fp_session.specs.declared.batching.Batching.{Batching}
use Rattle.fp_session.specs.declared.batching.Batching.TheVariants.{Single}

module _ {A S : Type 0} (asks : A → S → List Ask → Type 0) where
  pub asked-one : (old new : A) (o : Option (Result Edit LineFault)) (e : Result Edit LineFault) → o ≡ Some e → AsksNext asks old new o
      → (x : Ask) × AsksFor e x × ((stream : S) (all : List Ask) → asks old stream all → (rest : List Ask) ×
      (x ∷ rest ≡ all) × asks new stream rest)
  asked-one old new o e is h = subst (AsksNext asks old new) is h

  pub asked-none : (old new : A) (o : Option (Result Edit LineFault)) → o ≡ None → AsksNext asks old new o →
      (stream : S) (all : List Ask) → asks old stream all → asks new stream all
  asked-none old new o is h = subst (AsksNext asks old new) is h

  module _ (first : A) (at_first : S) (old new : A) (stream : S) (asked : List Ask)
      (came : HasAsked asks first at_first old stream asked) where
    pub came-one : (x : Ask) → ((s : S) (all : List Ask) → asks old s all → (rest : List Ask) × (x ∷ rest ≡ all) ×
        asks new s rest) → HasAsked asks first at_first new stream (asked ++ x ∷ [])
    came-one x on = λ all a.
        let h = came all a in let n = on stream h.0 h.2 in
        (n.0, append_assoc asked (x ∷ []) n.0 ∙ ap (λ (l : List Ask). asked ++ l) n.1 ∙ h.1, n.2)

    pub came-none : ((s : S) (all : List Ask) → asks old s all → asks new s all) → HasAsked asks first at_first new stream asked
    came-none on = λ all a. let h = came all a in (h.0, h.1, on stream h.0 h.2)

  module _ (first : A) (at_first : S) (now : A) (stream : S) (asked : List Ask) (came : HasAsked asks first at_first now stream asked) where
    pub came-part : (all : List Ask) → asks first at_first all → (later : List Ask) × (asked ++ later ≡ all)
    came-part all a = let h = came all a in (h.0, h.1)

    -- and nothing is left
    pub came-whole : {T : Type 0} {F : Type 0} → ((rest : List Ask) → asks now stream rest → rest ≡ []) →
        (o : Result T F) → OnOk o ((all : List Ask) → asks first at_first all → asked ≡ all)
    came-whole none (Ok x) = λ all a. let h = came all a in
        sym (append-nil asked) ∙ ap (λ (l : List Ask). asked ++ l) (sym (none h.0 h.2)) ∙ h.1
    came-whole none (Err e) = tt

-- ---- batches

-- no more waits than a batch takes
pub few-waiting : (b : Batching) (n : ℕ) → n ≤ most_waiting b → n ≤ most_at_once b
few-waiting b n le = grind arith

-- and one that is a batch of its own waits alone
pub few-alone : (b : Batching) (m n : ℕ) → b ≡ Single → m ≤ most_waiting b → n ≤ m + 1 → n ≤ most_at_once b
few-alone b m n is le more = grind arith
