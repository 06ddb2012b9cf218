use Rattle.fp_relay.proofs.running.serve.Given as goal

abbrev pub decreases-loop : goal.decreases-loop
decreases-loop g l = l.r.reads_left
