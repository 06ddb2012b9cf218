use Rattle.std.proofs.Common.{rules, ◌≡◌, ◌≢◌, sym, ap, ◌∙◌, ◌∷◌, []}
use denote.Exit.{no}
use denote.Param.{copied, param}
use denote.Param.Send.{arg_send, param_send}
use Rattle.fp_commands.specs.declared.fault.CommandFault.{CommandFault}
use Rattle.fp_commands.specs.declared.fault.CommandFault.TheVariants.{Device, Memory, StoreFailed}
use Rattle.fp_committer.specs.StoreHalf.{StoreHalfState}
use Rattle.fp_fronts.proofs.growing.Front.TheSendSync as front
use Rattle.fp_plane.proofs.PlaneCrossing.{flushed_sent, sealing_plane_sent}
use Rattle.fp_plane.specs.contracts.owned.OwnHalf as own_half
use Rattle.fp_plane.proofs.Spawning.{spawned, ◌and◌, nothing}
use Rattle.fp_server.proofs.EndsLemmas.{untouched_half}
use Rattle.fp_server.proofs.serving.serve_named.Goals as goal

pub spawn_with-requires-send-F : goal.spawn_with-requires-send-F
spawn_with-requires-send-F g c κs within =
    let b = c.type_bounds in
    let D = param 1 g.row.D in
    spawned 2 _ _ (front.the_send (own_half.the_row D g.D.Disk)
    and sealing_plane_sent (param 0 g.row.K) D g.K.Naming g.D.Disk b.send-D (copied 2 g.row.R) b.send-R b.sync-R and nothing)

pub spawn_with-requires-send-T : goal.spawn_with-requires-send-T
spawn_with-requires-send-T g c κs within = param_send 3 _ (arg_send _ no _ (flushed_sent (param 1 g.row.D) g.D.Disk c.type_bounds.send-D))

never_failed : (f : CommandFault) → f ≡ Memory → f ≢ StoreFailed
never_failed f is failed = let both : Memory ≡ StoreFailed = sym is ∙ failed in absurd cc

no_failure : Device ≢ StoreFailed
no_failure failed = absurd cc

pub returns-in-Err-clause-broken : goal.returns-in-Err-clause-broken
returns-in-Err-clause-broken g c =
    untouched_half g.D.Disk c.args.half c.still.ensures c.into.result (never_failed c.into.result c.into.ensures)

pub returns-in-Err-spawn_with-clause-broken : goal.returns-in-Err-spawn_with-clause-broken
returns-in-Err-spawn_with-clause-broken g c =
    let S = StoreHalfState g.row.D.Denot in
    let began = c.begin-began.ensures.began ∙ ap (λ (h : S). h ∷ []) c.new-own.ensures in
    let is : c.again-here.result.log ≡ c.args.half ∷ [] = search (rules, began) in
    rw (c.into_half.ensures) (record {
      ended = c.flusher.result.ended;
      flushed = c.flusher.ensures c.args.half is;
      cause = λ failed. absurd (no_failure failed);
    })
