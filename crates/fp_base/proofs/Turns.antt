-- A turn of a loop over a list.
use Rattle.std.proofs.Common.{◌≡◌, ◌<◌, ◌+◌, ℕ, List, [], ◌∷◌, ◌++◌, length, take, drop, get_or, set, sym, ap, ap₂, ◌∙◌, arith}
use Rattle.std.proofs.lemmas.List.{drop_more, drop-set-lt, get_or-set_same, length-set, take_more, take-append-drop, take-set}

-- what is left begins with the item of this turn
pub drop-here : {A : Type 0} (xs : List A) (i : ℕ) (x : A) → i < length xs → x ≡ get_or xs i x → drop i xs ≡ x ∷ drop (i + 1) xs
drop-here xs i x within is = drop_more xs i x within ∙ ap (λ y. y ∷ drop (i + 1) xs) (sym is)

-- what is done is one item more
pub take-here : {A : Type 0} (xs : List A) (i : ℕ) (x : A) → i < length xs → x ≡ get_or xs i x → take (i + 1) xs ≡ take i xs ++ x ∷ []
take-here xs i x within is = take_more xs i x within ∙ ap (λ y. take i xs ++ y ∷ []) (sym is)

-- another item in the place of one
pub set-here : {A : Type 0} (xs : List A) (i : ℕ) (y : A) → i < length xs → set xs i y ≡ take i xs ++ y ∷ drop (i + 1) xs
set-here xs i y within =
    let inside : i < length (set xs i y) = rw (length-set) within in
    sym (take-append-drop i (set xs i y))
    ∙ ap₂ (λ front behind. front ++ behind) (take-set xs i y)
    (drop_more (set xs i y) i y inside
    ∙ ap₂ (λ z zs. z ∷ zs) (get_or-set_same xs i y y within) (drop-set-lt (i + 1) xs i y (omega arith)))
