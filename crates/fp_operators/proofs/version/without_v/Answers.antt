use Rattle.std.proofs.Common.{◌≡◌, ◌≢◌, ℕ, List, [], ◌∷◌, refl, ap, arith, ne_eqb}
use Rattle.std.proofs.lemmas.Str.Pattern.{strip_prefix_char}
use Rattle.fp_operators.specs.Version.{without_v}
use Rattle.fp_operators.proofs.version.without_v.Goals as goal

no_v : (bs : List ℕ) → ((rest : List ℕ) → bs ≢ 118 ∷ rest) → bs ≡ without_v bs
no_v [] h = refl
no_v (b ∷ bs) h = rw (ne_eqb b 118 (λ e. h bs (ap (λ y. y ∷ bs) e))) refl

pub returns-in-None : goal.returns-in-None
returns-in-None c = no_v c.args.text.now
    (rw c.in-None.is at (strip_prefix_char 118 c.args.text.now c.strip_prefix.result c.strip_prefix.ensures.cases
    (omega arith)))
