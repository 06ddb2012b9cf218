-- What the program's words ask of the service.
use Rattle.std.specs.Prelude.{◌≡◌, ℕ, List, [], ◌∷◌, codes}
use Rattle.std.specs.Net.Grammar.{IsSocketV4Text}
use Rattle.std.specs.declared.net.socket_addr.SocketAddrV4.{SocketAddrV4}
use Rattle.fp_server.specs.declared.services.Addresses.{Addresses}
use Rattle.fp_server.specs.declared.task.Task.{Task}
use Rattle.fp_server.specs.declared.task.Task.TheVariants.{Serve, Watch}

-- `serve`, a path, and the addresses of evaluations, of edits and of snapshots
pub record AsksToServe (words : List (List ℕ)) (path : List ℕ) (addresses : Addresses) : Type 0
  where
    pub ofrep : List ℕ
    pub edit : List ℕ
    pub stream : List ℕ
    pub words_are : words ≡ codes "serve" ∷ path ∷ ofrep ∷ edit ∷ stream ∷ []
    pub ofrep_is : IsSocketV4Text ofrep addresses.ofrep
    pub edit_is : IsSocketV4Text edit addresses.edit
    pub stream_is : IsSocketV4Text stream addresses.stream

-- `watch` and an address
pub record AsksToWatch (words : List (List ℕ)) (address : SocketAddrV4) : Type 0 where
  pub text : List ℕ
  pub words_are : words ≡ codes "watch" ∷ text ∷ []
  pub address_is : IsSocketV4Text text address

abbrev pub AsksFor : List (List ℕ) → Task → Type 0
AsksFor words (Serve path addresses) = AsksToServe words path.now addresses
AsksFor words (Watch address) = AsksToWatch words address
