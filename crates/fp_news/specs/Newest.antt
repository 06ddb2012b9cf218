-- News, of which newer replace older.
use Rattle.std.specs.Prelude.{◌≤◌, Option, Some, None}
use Rattle.fp_stream.specs.declared.hello.Hello.{Hello}
use Rattle.fp_stream.specs.declared.hello.Hello.TheVariants.{Nothing, Has}
use Rattle.fp_stream.specs.Frames.{Snapshot}

-- what who was shown these news last has, said as a subscriber says it
abbrev pub had : {X : Type 0} → (X → Snapshot) → Option X → Hello
had shows None = Nothing
had shows (Some news) = Has (shows news).revision

-- who has the second has no less than who has the first
abbrev pub Rises : Hello → Hello → Type 0
Rises Nothing new = Unit {0}
Rises (Has before) Nothing = ⊥
Rises (Has before) (Has after) = before ≤ after
