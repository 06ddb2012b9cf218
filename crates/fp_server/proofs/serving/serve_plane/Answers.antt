use Rattle.std.proofs.Common.{subst}
use Rattle.std.specs.Prelude.{IfErr, OnErr, Result}
use Rattle.fp_commands.specs.declared.fault.CommandFault.{CommandFault}
use Rattle.fp_plane.specs.declared.flushing.Broken.{Broken}
use Rattle.fp_plane.specs.Flushing.{HasBroken}
use Rattle.fp_server.specs.Ends.{IsAttendingFault}
use Rattle.fp_server.proofs.EndsLemmas.{attending_calm}
use Rattle.fp_server.proofs.serving.serve_plane.Goals as goal

-- sealing broke off
pub returns-in-Ok-Err-clause-broken : goal.returns-in-Ok-Err-clause-broken
returns-in-Ok-Err-clause-broken g c =
    let D = g.D.Disk in let first = c.args.flusher.promise.0.value in let j = c.join-half in let last = j.result.half in
    rw (c.into_half-in-Ok-Err.ensures) (record {
      ended = j.result.ended;
      flushed = j.ensures;
      cause = λ _. subst (λ (r : Result (Unit {0}) Broken). OnErr r
          (HasBroken D first.store.disk last.store.disk last)) c.in-Ok-Err.is-1 j.ensures.cause;
    })

-- what let connections in ended by a fault
pub returns-in-Err-default-clause-broken : goal.returns-in-Err-default-clause-broken
returns-in-Err-default-clause-broken g c =
    let f = c.in-Err-default.fault in
    let fault : IsAttendingFault f =
    subst (λ (r : Result (Unit {0}) CommandFault). IfErr r IsAttendingFault) c.in-Err-default.is-0
    c.attend-attended.ensures.fault in
    rw (c.into_half-in-Err-default.ensures) (record {
      ended = c.join-half.result.ended;
      flushed = c.join-half.ensures;
      cause = λ failed. absurd (attending_calm f fault failed);
    })
