-- What holds of a board between its calls.
use Rattle.std.specs.Prelude.{◌≡◌, Bool, true, List, fold, Option, Some}
use Rattle.fp_group_commit.specs.Tokens.{FrontState}
use Rattle.fp_publish.specs.Rule.{page_after, page_at}
use Rattle.fp_publish.specs.declared.page.Page.{Page}
use Rattle.fp_publish.specs.declared.page.Step.{Step}

-- readers take what stands for `shown`, which the board's own seat knows; where `leads`, the steps
-- that are pending lead from there to what stands for `next`
pub record IsReady (published : Page) (knows : Option FrontState) (pending : List Step)
    (shown next : FrontState) (leads : Bool) : Type 0 where
  pub now : published ≡ page_at shown
  pub known : knows ≡ Some shown
  pub store : next.store ≡ shown.store
  pub led : leads ≡ true → fold page_after published pending ≡ page_at next
