-- A flag by what becomes of its targeting.
use Rattle.std.proofs.Common.{◌≡◌, ℕ, Some, Ok, Err, codes, ap, ◌∙◌}
use Rattle.serde_json.specs.Data.{Data, object, Members, put}
use Rattle.serde_json.specs.Find.{get_member}
use Rattle.fp_imports.specs.Document.{flag_expansion, targeting_expansion, walk_made, with_targeting}
use Rattle.fp_imports.specs.References.{Broken, whole_expansion}

module _ (evaluators ms : Members) (t : Data) (there : get_member (codes "targeting") ms ≡ Some t) where
  pub targeting-put : (e : Data) (rest : ℕ) → whole_expansion evaluators t ≡ Ok (e, rest) →
      flag_expansion evaluators (object ms) ≡ Ok (object (put (codes "targeting") e ms))
  targeting-put e rest made = ap (with_targeting ms) (ap (targeting_expansion evaluators) there ∙ ap walk_made made)

  pub targeting-broken : (x : Broken) → whole_expansion evaluators t ≡ Err x → flag_expansion evaluators (object ms) ≡ Err x
  targeting-broken x broken = ap (with_targeting ms) (ap (targeting_expansion evaluators) there ∙ ap walk_made broken)
