use Rattle.std.proofs.Common.{◌≡◌, ℕ, List, Option, Some, None, Result, Ok, Err, OnOk, refl, sym, subst, ap, ◌∙◌}
use Rattle.std.specs.Option.{option_copied, option_map}
use Rattle.http_server.specs.declared.response.Response.{Response}
use Rattle.fp_edit.specs.Flags.{State}
use Rattle.fp_shown.specs.Sets.{IsLawful, IsSetOf}
use Rattle.fp_stream.specs.Frames.{Snapshot}
use Rattle.fp_relay_replies.specs.Answers.{IsSent, Responds, and_allowed, answer_from_set, answer_without_set}
use Rattle.fp_relay_replies.specs.Asking.{Asked, asked_by}
use Rattle.fp_relay_replies.specs.CrossOrigin.{Allowed, allowed, allowance_seen}
use Rattle.fp_relay_replies.proofs.evaluating.respond.Goals as goal

-- the answer over a set of what is shown, with what is allowed to who asks
over : {T E : Type 0} (r : Result T E) (shown : Option Snapshot) (s : Snapshot) (set : State)
    (origins : List (List ℕ)) (asked : Asked) (seconds now : ℕ) (response : Response) (a : Option Allowed)
    → shown ≡ Some s → IsLawful set → IsSetOf s.revision s.document set → a ≡ allowed origins asked.origin → seconds ≡ now
    → OnOk r (IsSent (and_allowed (answer_from_set set asked a seconds) origins a) response)
    → OnOk r (Responds shown origins asked now response)
over (Ok x) shown s set origins asked seconds now response a is lawful h e same sent =
    subst (λ (o : Option Snapshot). Responds o origins asked now response) (sym is) (
      set,
      lawful,
      h,
      subst (λ (b : Option Allowed). IsSent (and_allowed (answer_from_set set asked b now) origins b) response) e
          (subst (λ (n : ℕ). IsSent (and_allowed (answer_from_set set asked a n) origins a) response) same sent),
    )
over (Err x) shown s set origins asked seconds now response a is lawful h e same sent = tt

pub returns-in-Some : goal.returns-in-Some
returns-in-Some c =
    let asked = asked_by c.args.request.now in
    over _ (option_copied c.args.shown) c.in-Some.shown.now c.set-set.result.now c.args.origins.now asked c.seconds-now.result
    c.args.moment c.respond_over.new.response (option_map allowance_seen c.allowance-allowance.result) (rw c.in-Some.is refl)
    c.set-set.ensures.lawful c.set-set.ensures.set
    (c.allowance-allowance.ensures ∙ ap (λ (o : Option (List ℕ)). allowed c.args.origins.now o) c.first_value.ensures)
    c.seconds-now.ensures.same c.respond_over.ensures

-- the answer where nothing is shown, with what is allowed to who asks
without : {T E : Type 0} (r : Result T E) (shown : Option Snapshot) (origins : List (List ℕ)) (asked : Asked)
    (now : ℕ) (response : Response) (a : Option Allowed)
    → shown ≡ None → a ≡ allowed origins asked.origin
    → OnOk r (IsSent (and_allowed (answer_without_set asked a) origins a) response)
    → OnOk r (Responds shown origins asked now response)
without (Ok x) shown origins asked now response a is e sent =
    subst (λ (o : Option Snapshot). Responds o origins asked now response) (sym is)
    (subst (λ (b : Option Allowed). IsSent (and_allowed (answer_without_set asked b) origins b) response) e sent)
without (Err x) shown origins asked now response a is e sent = tt

pub returns-in-None : goal.returns-in-None
returns-in-None c =
    without _ (option_copied c.args.shown) c.args.origins.now (asked_by c.args.request.now) c.args.moment
    c.respond_without_set.new.response (option_map allowance_seen c.allowance-allowance.result) (rw c.in-None.is refl)
    (c.allowance-allowance.ensures ∙ ap (λ (o : Option (List ℕ)). allowed c.args.origins.now o) c.first_value.ensures)
    c.respond_without_set.ensures
