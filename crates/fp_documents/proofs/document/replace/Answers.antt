use Rattle.std.proofs.Common.{◌≡◌, ℕ, List, [], ◌∷◌, ◌++◌, sym, ap, ◌∙◌}
use Rattle.std.proofs.lemmas.List.{append-nil, nil_from_length}
use Rattle.std.specs.Iterator.{Drains, Yields}
use Rattle.std.specs.List.{splice}
use Rattle.std.specs.Vec.Iter.{into_iter_items, into_iter_len, into_iter_steps}
use Rattle.std.specs.declared.alloc.Global.{Global}
use Rattle.std.specs.declared.vec.IntoIter.{IntoIter}
use Rattle.fp_documents.proofs.document.replace.Goals as goal

given : (s t : IntoIter ℕ Global) (xs : List ℕ) → Yields into_iter_steps s xs t → into_iter_items s ≡ xs ++ into_iter_items t
given s t [] y = ap into_iter_items y
given s t (x ∷ xs) y = y.1.0 ∙ ap (λ l. x ∷ l) (given y.0 t xs y.2)

empty : (t : IntoIter ℕ Global) → into_iter_len t ≡ 0 → into_iter_items t ≡ []
empty t none = nil_from_length (into_iter_items t) (sym t.rest.ok.0 ∙ none)

drained : (s : IntoIter ℕ Global) (xs : List ℕ) → Drains into_iter_steps s xs → into_iter_items s ≡ xs
drained s xs d = given s d.1.0 xs d.1.1 ∙ ap (λ l. xs ++ l) (empty d.1.0 d.1.2.0) ∙ append-nil xs

pub returns : goal.returns
returns c =
    let all = c.in_ok-splice.ensures.items in
    record {
      replaced = all.4 ∙ ap (splice c.args.text.now.items c.args.from c.args.to)
          (sym (drained all.0 all.1 all.3) ∙ all.2.0);
      unchanged = tt;
    }
