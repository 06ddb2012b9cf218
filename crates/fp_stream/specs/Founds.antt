-- What was found at a head.
use Rattle.std.specs.Prelude.{ℕ, List, [], ◌++◌}
use Rattle.fp_stream.specs.declared.hello.Hello.{Hello}
use Rattle.fp_stream.specs.declared.reading.Found.{Found}
use Rattle.fp_stream.specs.declared.reading.Found.TheVariants.{Whole, Stop}
use Rattle.fp_stream.specs.Frames.{snapshot_of}
use Rattle.fp_stream.specs.Decoding.{DecodesTo}
use Rattle.fp_stream.specs.Steps.{IsWhole}

-- a frame that is whole, or why none is
abbrev pub IsFound : Hello → List ℕ → List ℕ → Found → Type 0
IsFound has front behind (Whole frame) = IsWhole has front behind (snapshot_of frame)
IsFound has front behind (Stop reader) = DecodesTo has (front ++ behind) [] reader
