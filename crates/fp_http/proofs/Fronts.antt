-- Replies over some front.
use Rattle.std.specs.Prelude.{IfOk, Result, Ok, Err}
use Rattle.fp_group_commit.specs.Tokens.{FrontState}
use Rattle.fp_http.specs.declared.fault.NoReply.{NoReply}
use Rattle.fp_ofrep.specs.declared.reply.Reply.{Reply}

-- what is said over this front is said over some
pub over_some : (r : Result Reply NoReply) (f : FrontState) (said : FrontState → Reply → Type 0) → IfOk r (λ x. said f x)
    → IfOk r (λ x. (front : FrontState) × said front x)
over_some (Ok x) f said h = (f, h)
over_some (Err e) f said h = tt
