-- A conversation over HTTP, and the service that answers in it.
use Rattle.std.specs.Prelude.{◌≡◌, ℕ, List, [], ◌++◌, Option}
use Rattle.std.specs.Io.KnownBytes.{Appends, Consumes}
use Rattle.http.specs.declared.request.Request.{Request}
use Rattle.http_server.specs.declared.response.Response.{Response}
use Rattle.http_server.specs.declared.state.Config.{Config}
use Rattle.http_server.specs.Exchange.{Call, Calls, Chain}
use Rattle.http_server.specs.Exchange as exchange
use Rattle.http_server.specs.History.{History, Rests}

-- how a service answers: its states before and after, and between them a request and a response
abbrev pub Answering : Type 0 → Type 1
Answering S = S → Request (List ℕ) → Response → S → Type 0

-- a service goes on by calls alone
abbrev pub Serves : {S : Type 0} → Answering S → S → S → Type 0
Serves answers before after = (calls : List Call) × Chain answers before calls after

-- More bytes may have come, and more may have gone out. The service goes on by its calls. What
-- waited for nothing but input still does
pub record Talks {S : Type 0} (answers : Answering S) (config : Config) (before after : S)
    (old new : History) : Type 0 where
  pub came : List ℕ
  pub received : new.received ≡ old.received ++ came
  pub went : List ℕ
  pub sent : new.sent ≡ old.sent ++ went
  pub calls : Calls answers before after old.calls new.calls
  pub rests : Rests config old → Rests config new

-- what came is what was taken of a reader, and nothing went out
pub record Hears {S : Type 0} (answers : Answering S) (config : Config) (before after : S)
    (old new : History) (held left : Option (List ℕ)) : Type 0 where
  pub came : List ℕ
  pub received : new.received ≡ old.received ++ came
  pub taken : Consumes held left came
  pub sent : new.sent ≡ old.sent
  pub calls : Calls answers before after old.calls new.calls
  pub rests : Rests config old → Rests config new

-- what went out stands behind what a writer held, and nothing came
pub record Says {S : Type 0} (answers : Answering S) (config : Config) (before after : S)
    (old new : History) (held holds : Option (List ℕ)) : Type 0 where
  pub received : new.received ≡ old.received
  pub went : List ℕ
  pub sent : new.sent ≡ old.sent ++ went
  pub written : Appends held holds went
  pub calls : Calls answers before after old.calls new.calls
  pub rests : Rests config old → Rests config new

-- All that came is the requests of calls, of which the last ones were made by now, and all that
-- went out is their answers
pub record Rested {S : Type 0} (answers : Answering S) (before after : S) (config : Config)
    (h : History) : Type 0 where
  pub answered : List Call
  pub calls : Calls answers before after h.calls answered
  pub serves : exchange.Serves config h.received answered h.sent []
