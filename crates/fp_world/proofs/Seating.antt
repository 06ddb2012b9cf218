-- What subscribers have, as one of them is handed what is shown.
use Rattle.std.proofs.Common.{◌≡◌, ◌<◌, ℕ, zero, suc, List, [], ◌∷◌, Option, Some, None, length, map, get_or, set, refl}
use Rattle.std.proofs.Common.{sym, ap, ◌∙◌, arith}
use Rattle.std.specs.Prelude.{Result, Ok, Err, IfOk, OnErr, MatchOption, slice_get, slice_set}
use Rattle.std.proofs.lemmas.List.{map-set}
use Rattle.fp_group_commit.specs.Tokens.{FrontState, front_revision}
use Rattle.fp_publish.specs.Seats.{IsNews, had_by}
use Rattle.fp_publish.specs.declared.seats.Seat.{Seat}
use Rattle.fp_stream.specs.declared.hello.Hello.{Hello}
use Rattle.fp_stream.specs.declared.hello.Hello.TheVariants.{Has}
use Rattle.fp_world.specs.Views.{HasNews, HasNoNews, ViewsState}

had_at : (xs : List Seat) (i : ℕ) (x : Seat) → i < length xs → x ≡ get_or xs i x → slice_get (map had_by xs) i ≡ Some (had_by x)
had_at [] i x lt is = absurd (omega (arith, lt))
had_at (y ∷ ys) zero x lt is = ap (λ (z : Seat). Some (had_by z)) (sym is)
had_at (y ∷ ys) (suc i) x lt is = had_at ys i x (omega (arith, lt)) is

set_same : (xs : List Seat) (i : ℕ) (x y : Seat) → x ≡ get_or xs i x → had_by y ≡ had_by x → map had_by (set xs i y) ≡ map had_by xs
set_same [] i x y is same = refl
set_same (z ∷ xs) zero x y is same = ap (λ (h : Hello). h ∷ map had_by xs) (same ∙ ap had_by is)
set_same (z ∷ xs) (suc i) x y is same = ap (λ (l : List Hello). had_by z ∷ l) (set_same xs i x y is same)

module _ (board : FrontState) (readers : ℕ) (places : List Seat) (seat : ℕ) (before after : Seat)
    (lt : seat < length places) (is : before ≡ get_or places seat before) where
  abbrev Old : ViewsState
  Old = record { board = board; seats = map had_by places; readers = readers }

  abbrev New : List Seat → ViewsState
  New now = record { board = board; seats = map had_by now; readers = readers }

  -- by what the seats say
  pub hands : {E : Type 0} (r : Result (Option FrontState) E) (now : List Seat) → now ≡ set places seat after
      → IfOk r (λ o. MatchOption o (¬ IsNews (had_by before) board × (had_by after ≡ had_by before))
      (λ h. IsNews (had_by before) board × (h ≡ board) × (had_by after ≡ Has (front_revision board))))
      → IfOk r (λ o. MatchOption o (HasNoNews Old seat × (New now ≡ Old))
      (λ h. HasNews Old seat × (h ≡ board) ×
      (New now ≡ record Old { seats = slice_set (map had_by places) seat (Has (front_revision board)) })))
  hands (Ok None) now then handed = (
    (had_by before, had_at places seat before lt is, handed.0),
    ap (λ (l : List Hello). record Old { seats = l })
        (ap (λ (l : List Seat). map had_by l) then ∙ set_same places seat before after is handed.1),
  )
  hands (Ok (Some h)) now then handed = (
    (had_by before, had_at places seat before lt is, handed.0),
    handed.1,
    ap (λ (l : List Hello). record Old { seats = l })
        (ap (λ (l : List Seat). map had_by l) then ∙ map-set had_by places seat after ∙
        ap (λ (x : Hello). set (map had_by places) seat x) handed.2),
  )
  hands (Err e) now then handed = tt

  -- and where memory was wanting
  pub asked : {T E : Type 0} (r : Result T E) → OnErr r (IsNews (had_by before) board) → OnErr r (HasNews Old seat)
  asked (Ok h) news = tt
  asked (Err e) news = (had_by before, had_at places seat before lt is, news)
