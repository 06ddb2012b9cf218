-- Connections for requests.
use Rattle.std.specs.Prelude.{◌≡◌, ◌⊎◌, ◌<◌, length, IsFalse}
use Rattle.http_server.specs.declared.state.Config.{Config}
use Rattle.http_server.specs.Connection as connection
use Rattle.http_server.specs.History.{History, WantsRead, new_history}
use Rattle.fp_loop.specs.declared.peer.Peer.{Peer}
use Rattle.fp_loop.specs.Talks.{Answering, Rested}

abbrev pub history_of : Peer → History
history_of p = connection.history p.connection

abbrev pub config_of : Peer → Config
config_of p = connection.config_of p.connection

-- what it has to say its socket doesn't take, and what it wants to hear isn't there
pub record CanDoNothing (p : Peer) : Type 0 where
  pub says : 0 < length (history_of p).pending → IsFalse p.socket.may_write
  pub hears : WantsRead (config_of p) (history_of p) → IsFalse p.socket.may_read

-- nothing changed; or all that came was answered and sent, and a new connection takes its place
abbrev pub Quiets : {S : Type 0} → Answering S → S → S → Peer → Peer → Type 0
Quiets answers before after old new =
    ((after ≡ before) × (history_of new ≡ history_of old))
    ⊎ (∥ Rested answers before after (config_of old) (history_of old) ∥₁
    × (history_of new ≡ new_history))
