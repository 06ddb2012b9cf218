use Rattle.fp_streams.specs.declared.counted.StreamFault.TheVariants.{Device}
use Rattle.fp_server.proofs.Shows.{no_frames-failed}
use Rattle.fp_server.proofs.watching.watch.Goals as goal

pub returns-in-Err-clause-shown : goal.returns-in-Err-clause-shown
returns-in-Err-clause-shown g c = λ same. no_frames-failed (g.O.Write.contents c.args.w.now.inner) Device
