-- Two fronts of one list.
use Rattle.std.proofs.Common.{◌≡◌, ◌<◌, ◌≤◌, ◌+◌, ℕ, Bool, true, false, nat_lt, List, [], ◌∷◌, length, refl, sym, ap, subst, ◌∙◌, arith}
use Rattle.std.specs.Prelude.{MatchBool}
use Rattle.std.proofs.lemmas.Bool.{ltb-true, ltb-false}
use mathlib.Core.List.{IsPrefix}
use Rattle.fp_edit.specs.Edits.{Change}
use Rattle.fp_edit.specs.Log.{after_all}
use Rattle.fp_edit.specs.Flags.{State}
use Rattle.fp_documents.specs.Outline.{IsDocumentOf}
use Rattle.fp_edit.specs.Outline.{LeadsTo}
use Rattle.fp_documents.specs.declared.document.Document.{Document}
use Rattle.fp_edit.proofs.Followed.{after-append}
use Rattle.fp_group_commit.specs.Tokens.{FrontState, Identity, front_set}

-- the shorter one begins the longer
shorter : (xs ys w : List Change) → IsPrefix xs w → IsPrefix ys w → length xs ≤ length ys → IsPrefix xs ys
shorter [] ys w p q le = (ys, refl)
shorter (x ∷ xs) [] w p q le = absurd (omega (arith, le))
shorter (x ∷ xs) (y ∷ ys) [] p q le = absurd (cc (p.1))
shorter (x ∷ xs) (y ∷ ys) (z ∷ w) p q le =
    let here : x ≡ y = cc (p.1, q.1) in
    let rest = shorter xs ys w (p.0, cc (p.1)) (q.0, cc (q.1)) (omega (arith, le)) in
    (rest.0, cc (here, rest.1))

-- the revisions tell which one begins the other
pub compared : (b : Bool) (start m n : ℕ) (xs ys w : List Change) → nat_lt m n ≡ b → IsPrefix xs w → IsPrefix ys w →
    m ≡ start + length xs → n ≡ start + length ys →
    MatchBool b (IsPrefix xs ys × (length xs < length ys)) (IsPrefix ys xs)
compared true start m n xs ys w is p q left right = let lt : m < n = ltb-true m n is in
    (shorter xs ys w p q (omega (arith, lt, left, right)), omega (arith, lt, left, right))
compared false start m n xs ys w is p q left right = let le : n ≤ m = ltb-false m n is in
    shorter ys xs w q p (omega (arith, le, left, right))

-- edits lead from the set of a front to that of one which it begins
pub leads_to : (f g : FrontState) → f.store ≡ g.store → IsPrefix f.edits g.edits → LeadsTo (front_set f) (front_set g)
leads_to f g store p = (
  p.0,
  ap (after_all g.store.start) (sym p.1) ∙ after-append g.store.start f.edits p.0 ∙
      ap (λ (x : Identity). after_all (after_all x.start f.edits) p.0) (sym store),
)

-- the document of a front is that of a set from which edits lead to what is shown, where this goes on from that front
pub goes_on : (d : Document) (last old shown now : FrontState) (t : State) → IsDocumentOf d (front_set last) →
    last ≡ old → old.store ≡ now.store → shown ≡ now → IsPrefix last.edits shown.edits
    → t ≡ front_set now → (s : State) × IsDocumentOf d s × LeadsTo s t
goes_on d last old shown now t is same store shows begins lends =
    let leads = leads_to last now (ap (λ (x : FrontState). x.store) same ∙ store)
    (subst (λ (x : FrontState). IsPrefix last.edits x.edits) shows begins) in
    (front_set last, is, (leads.0, lends ∙ leads.1))
