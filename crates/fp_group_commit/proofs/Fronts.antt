-- Beginnings of one list, and changes that lead from set to set.
use Rattle.std.proofs.Common.{◌≡◌, List, [], ◌∷◌, ◌++◌, length, refl, sym, ap, ◌∙◌, arith, append_assoc}
use mathlib.Core.List.{IsPrefix}
use Rattle.fp_edit.specs.Admits.{next}
use Rattle.fp_edit.specs.Edits.{Change}
use Rattle.fp_edit.specs.Flags.{State}
use Rattle.fp_pending.specs.Following.{Follows}
use Rattle.fp_edit.specs.Log.{after_all}
use Rattle.fp_edit.proofs.Followed.{change-unconditional}
use Rattle.fp_recovery.specs.Stands.{Leads}

-- changes that follow one another lead to what they come to
pub leads_all : (s : State) (cs : List Change) → Follows s cs → Leads s cs (after_all s cs)
leads_all s [] f = refl
leads_all s (c ∷ cs) f = (next s c, (f.0, ap (next s) (sym (change-unconditional c))), leads_all (next s c) cs f.1)

-- two beginnings of one list, as long as one another
same_front : {A : Type 0} (xs ys w : List A) → IsPrefix xs w → IsPrefix ys w → length xs ≡ length ys → xs ≡ ys
same_front [] [] w p q len = refl
same_front [] (y ∷ ys) w p q len = absurd (omega (arith, len))
same_front (x ∷ xs) [] w p q len = absurd (omega (arith, len))
same_front (x ∷ xs) (y ∷ ys) [] p q len = absurd (cc (p.1))
same_front (x ∷ xs) (y ∷ ys) (z ∷ w) p q len =
    let here : x ≡ y = cc (p.1, q.1) in
    let rest = same_front xs ys w (p.0, cc (p.1)) (q.0, cc (q.1)) (omega (arith, len)) in
    cc (here, rest)

-- a beginning r that is ys and more, where xs is as long as ys
pub front_more : {A : Type 0} (xs ys more r w : List A) → IsPrefix xs w → IsPrefix r w → r ≡ ys ++ more →
    length xs ≡ length ys → r ≡ xs ++ more
front_more xs ys more r w p q is len =
    let whole : (ys ++ more) ++ q.0 ≡ w = ap (λ (l : List _). l ++ q.0) (sym is) ∙ q.1 in
    let same = same_front xs ys w p (more ++ q.0, sym (append_assoc ys more q.0) ∙ whole) len in
    is ∙ ap (λ (l : List _). l ++ more) (sym same)
