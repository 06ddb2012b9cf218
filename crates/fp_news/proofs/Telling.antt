-- What was told to a subscriber goes on.
use Rattle.std.proofs.Common.{◌≡◌, ℕ, List, [], ◌∷◌, ◌++◌, Bool, true, false}
use Rattle.std.proofs.Common.{IsTrue, IsFalse, refl, sym, subst, append_assoc, append-nil}
use Rattle.fp_stream.specs.declared.hello.Hello.{Hello}
use Rattle.fp_stream.specs.Frames.{Snapshot}
use Rattle.fp_news.specs.declared.news.News.{Ghosts}
use Rattle.fp_news.specs.declared.outgoing.Outgoing.{Outgoing}
use Rattle.fp_news.specs.Outgoing.{Tells, GoesOnTelling}

module _ {N : Type 0} {g : Ghosts N} where
  -- nothing more went, of nothing newer
  same_bytes : (hello : Hello) (o : Outgoing N g) (went : List ℕ) (begun : List Snapshot)
      → Tells hello o went begun → Tells hello o (went ++ []) begun
  same_bytes hello o went begun t =
      subst (λ (w : List ℕ). Tells hello o w begun) (sym (append-nil went)) t

  same_frames : (hello : Hello) (o : Outgoing N g) (went : List ℕ) (begun : List Snapshot)
      → Tells hello o went begun → Tells hello o went (begun ++ [])
  same_frames hello o went begun t =
      subst (λ (b : List Snapshot). Tells hello o went b) (sym (append-nil begun)) t

  pub stays : (o : Outgoing N g) → GoesOnTelling o o
  stays o hello went begun t =
      ([], [], same_frames hello o (went ++ []) begun (same_bytes hello o went begun t))

  -- a frame began, or nothing changed
  pub offers : (b : Bool) (old new : Outgoing N g) (s : Snapshot)
      → (IsTrue b → (hello : Hello) (went : List ℕ) (begun : List Snapshot) → Tells hello old went begun
      → Tells hello new went (begun ++ s ∷ []))
      → (IsFalse b → new ≡ old) → GoesOnTelling old new
  offers true old new s told kept = λ hello went begun t.
      ([], s ∷ [], same_bytes hello new went (begun ++ s ∷ []) (told refl hello went begun t))
  offers false old new s told kept = subst (GoesOnTelling old) (sym (kept refl)) (stays old)

  -- these bytes went
  pub sends : (old new : Outgoing N g) (more : List ℕ)
      → ((hello : Hello) (went : List ℕ) (begun : List Snapshot) → Tells hello old went begun
      → Tells hello new (went ++ more) begun)
      → GoesOnTelling old new
  sends old new more told hello went begun t =
      (more, [], same_frames hello new (went ++ more) begun (told hello went begun t))

  pub goes_on : (a b c : Outgoing N g) → GoesOnTelling a b → GoesOnTelling b c → GoesOnTelling a c
  goes_on a b c first second hello went begun t =
      let x = first hello went begun t in
      let y = second hello (went ++ x.0) (begun ++ x.1) x.2 in (
        x.0 ++ y.0,
        x.1 ++ y.1,
        subst (λ (w : List ℕ). Tells hello c w (begun ++ (x.1 ++ y.1))) (append_assoc went x.0 y.0)
            (subst (λ (n : List Snapshot). Tells hello c ((went ++ x.0) ++ y.0) n) (append_assoc begun x.1 y.1) y.2),
      )
