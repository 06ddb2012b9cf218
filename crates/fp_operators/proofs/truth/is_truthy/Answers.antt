use Rattle.std.proofs.Common.{◌≡◌, ℕ, List, [], ◌∷◌, length, ◌==◌, not, refl, sym, ap, ◌∙◌, vec_len, true, suc, rules, arith}
use Rattle.fp_operators.specs.Data.{list}
use Rattle.fp_operators.specs.View.{view, items_view}
use Rattle.fp_operators.specs.declared.datum.Datum.{Datum, List as DList, the_lemmas}
use Rattle.fp_operators.specs.Truth.{has_items, truth}
use Rattle.fp_operators.proofs.truth.is_truthy.Goals as goal

suc_not_zero : (n : ℕ) → not (suc n == 0) ≡ true
suc_not_zero n = search rules

some_items : (ds : List Datum) → not (length ds == 0) ≡ has_items (items_view ds)
some_items [] = refl
some_items (d ∷ ds) = suc_not_zero (length ds)

pub returns-in-List : goal.returns-in-List
returns-in-List c =
    let seen : view (DList c.in-List.items) ≡ list (items_view c.in-List.items.items) = search (rules, the_lemmas) in
    let long : vec_len c.in-List.items ≡ length c.in-List.items.items = omega (arith, c.in-List.items.ok.0) in
    ap not c.is_empty-in-List.ensures ∙ ap (λ n. not (n == 0)) long ∙ some_items c.in-List.items.items ∙
    ap truth (sym seen) ∙ ap (λ d. truth (view d)) (sym c.in-List.is)
