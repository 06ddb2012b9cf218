use Rattle.std.proofs.Common.{◌≡◌}
use Rattle.fp_loop.specs.Peers.{config_of, history_of}
use Rattle.fp_loop.specs.Talks.{Talks}
use Rattle.fp_loop.proofs.peer.Peer.turn.Given as goal

abbrev pub invariant-loop : goal.invariant-loop
invariant-loop g l =
    Talks g.S.Service.answers (config_of l.fn.self) l.fn.service.service l.service.service
    (history_of l.fn.self) (history_of l.self)
    × (config_of l.self ≡ config_of l.fn.self)
