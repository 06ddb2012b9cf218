use Rattle.std.proofs.Common.{Bool, ap, ◌∙◌}
use Rattle.std.specs.FinMap as map
use Rattle.std.specs.Prelude.{if◌then◌else◌, None, Result}
use Rattle.serde_json.specs.Data.{Data}
use Rattle.fp_ofrep.specs.Bulk.{bulk_in}
use Rattle.fp_ofrep.specs.Single.{after_body, evaluation_at, flag_at, response_of}
use Rattle.fp_ofrep.specs.declared.failure.Failure.{Failure}
use Rattle.fp_ofrep.proofs.LawLemmas.{items-entries}
use Rattle.fp_ofrep.proofs.laws.all_flags_agree_with_each.Goals as goal

pub returns : goal.returns
returns c = λ set k if_none_match body context now is there. (
  ap (λ (r : Result Data Failure). response_of set.revision k (after_body k (flag_at set.flags k) r now)) is
      ∙ ap (λ (b : Bool). response_of set.revision k (evaluation_at k (if b then map.get set.flags k else None) context now)) there,
  ap (λ (r : Result Data Failure). bulk_in set if_none_match r now) is,
  items-entries set.flags k context now,
)
