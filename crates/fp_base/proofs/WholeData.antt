-- Data whose numbers are whole.
use Rattle.std.proofs.Common.{◌≡◌, ◌∙◌, ℕ, List, true, Some, sym, ap}
use Rattle.std.proofs.lemmas.Bool.{and_parts}
use Rattle.serde_json.specs.Data.{Data}
use Rattle.serde_json.specs.Find.{get}
use Rattle.fp_base.specs.Whole.{is_whole, members_whole}
use Rattle.fp_base.proofs.Inside.{inside}

-- a member of whole data is whole
pub whole-get : (k : List ℕ) (d e : Data) → is_whole d ≡ true → get k d ≡ Some e → is_whole e ≡ true
whole-get k d e w h = inside (λ x. is_whole x ≡ true) (λ ms. members_whole ms ≡ true)
    (λ l x ms all. and_parts (is_whole x) (members_whole ms) all) k d e (λ ms is. ap is_whole (sym is) ∙ w) h
