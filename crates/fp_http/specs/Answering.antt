-- The response to what was asked, by the replies that may be given to it.
use Rattle.std.specs.Prelude.{◌≡◌, ℕ, List, Option, Some, None, Result, Ok, Err, option_map}
use Rattle.std.specs.Prelude.{string_bytes, length, ◌==◌, if◌then◌else◌}
use Rattle.std.specs.Global.{Vec}
use Rattle.http.specs.declared.response.Parts.{Parts}
use Rattle.http_body_util.specs.declared.limited.LimitedError.{LimitedError}
use Rattle.http_body_util.specs.declared.limited.LimitedError.TheVariants as limited
use Rattle.fp_ofrep.specs.Response as reply
use Rattle.fp_http.specs.Responses.{IsHeadOf}
use Rattle.fp_http.specs.declared.asked.Asked.{Asked}

-- the replies to a method, a target, the text of `if-none-match`, a body and a moment
abbrev pub Replies : Type 1
Replies = List ℕ → List ℕ → Option (List ℕ) → Option (List ℕ) → ℕ → reply.Response → Type 0

-- a reply to what was asked
abbrev pub MayReply : Replies → Asked → Option (List ℕ) → ℕ → reply.Response → Type 0
MayReply replies asked body moment said =
    replies asked.method (string_bytes asked.target) (option_map (λ v. v.items) asked.if_none_match)
    body moment said

-- what came is this body, or one that is too long
abbrev pub WasGathered : {E : Type 0} → Result (Vec ℕ) (LimitedError E) → Option (List ℕ)
    → Type 0
WasGathered (Ok whole) body = body ≡ Some whole.items
WasGathered (Err limited.LengthLimit) body = body ≡ None
WasGathered (Err (limited.Body cause)) body = ⊥

-- a head and a body are sent for a reply that may be given
pub record Answers (replies : Replies) (asked : Asked) (body : Option (List ℕ)) (moment : ℕ)
    (head : Parts) (sent : Option (List ℕ)) : Type 0 where
  pub said : reply.Response
  pub may : MayReply replies asked body moment said
  pub head_is : IsHeadOf said head
  pub whole : sent ≡ (if length said.body == 0 then None else Some said.body)
