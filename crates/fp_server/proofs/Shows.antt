-- What is shown of a service that sends nothing.
use Rattle.std.proofs.Common.{◌≡◌, ℕ, List, [], Option, None, Result, Err, refl, sym, inl, subst, lit<}
use Rattle.fp_base.proofs.Known.{Appends-nil}
use Rattle.fp_stream.specs.Reading.{Reads}
use Rattle.fp_stream.specs.Watching.{fault_in, of_stream}
use Rattle.fp_stream.specs.declared.fault.FrameFault.{FrameFault}
use Rattle.fp_stream.specs.declared.hello.Hello.TheVariants.{Nothing}
use Rattle.fp_stream.specs.declared.watch.WatchFault.{WatchFault}
use Rattle.fp_stream.specs.declared.watch.WatchFault.TheVariants.{Device, Memory}
use Rattle.fp_streams.specs.declared.counted.StreamFault.{StreamFault}
use Rattle.fp_streams.specs.declared.counted.StreamFault.TheVariants as stream
use Rattle.fp_server.specs.Attends.{ShowsFrames}

-- nothing came
no_frames : (held : Option (List ℕ)) (o : Result (Unit {0}) WatchFault) → fault_in o ≡ None → ShowsFrames held held o
no_frames held o none = record {
  bytes = [];
  frames = [];
  rest = [];
  read = subst (λ (f : Option FrameFault). Reads Nothing [] [] [] f) (sym none) (record { whole = refl; news = tt; stops = inl (lit< tt) });
  shown = Appends-nil held;
}

pub no_frames-failed : (held : Option (List ℕ)) (f : StreamFault) → ShowsFrames held held (Err (of_stream f))
no_frames-failed held stream.Device = no_frames held (Err Device) refl
no_frames-failed held stream.Memory = no_frames held (Err Memory) refl
