-- Each answer of a body is a step of what is gathered of it.
use Rattle.std.proofs.Common.{◌≡◌, ℕ, List, [], ◌++◌, Some, None, Result, Ok, Err, refl, sym, ap, ◌∙◌, inl, append_assoc, append-nil}
use Rattle.std.specs.Global.{Vec}
use Rattle.futures.specs.Runs.{Runs, After, Within}
use Rattle.futures.proofs.SentLemmas.{EndsOrFails_failed, EndsOrFails-After, EndsOrFails-Within}
use Rattle.http_body.specs.declared.frame.Frame.{Frame}
use Rattle.http_body.specs.Frame.{bytes_in, joined_data}
use Rattle.fp_http.specs.Gathering.{Gathers}

module _ {E : Type 0} (old : Runs (Result (Frame (List ℕ)) E)) (came : List ℕ) where
  pub within : (new : Runs (Result (Frame (List ℕ)) E)) (r : Result (Vec ℕ) E) → Within old new → Gathers new came r → Gathers old came r
  within new r less h = EndsOrFails-Within _ old new _ less r h

  pub failed : (e : E) → old [] (Some (Err e)) → Gathers old came (Err e)
  failed e fails = EndsOrFails_failed _ old _ (Err e) e fails refl

  pub ended : (all : Vec ℕ) → all.items ≡ came → old [] None → Gathers old came (Ok all)
  ended all is ends =
      ([], inl (all, refl, (record { items = []; came = ends; values = refl }, is ∙ sym (append-nil came))))

  pub more : (new : Runs (Result (Frame (List ℕ)) E)) (next : List ℕ) (frame : Frame (List ℕ)) (r : Result (Vec ℕ) E)
      → After old (Ok frame) new → next ≡ came ++ bytes_in frame.kind → Gathers new next r → Gathers old came r
  more new next frame r after is h =
      EndsOrFails-After _ old _ (Ok frame) new _ frame after refl
      (λ frames all k. k ∙ ap (λ xs. xs ++ joined_data frames) is ∙ append_assoc came (bytes_in frame.kind) (joined_data frames)) r h
