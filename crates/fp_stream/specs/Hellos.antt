-- Hellos: what they say, and what is heard.
use Rattle.std.specs.Prelude.{◌≡◌, ◌≢◌, ℕ, ◌<◌, ◌^◌, List, ◌∷◌, length, Option, Some, None, Result}
use Rattle.std.specs.Prelude.{Ok, Err}
use Rattle.std.specs.Int.{w64, to_be_bytes}
use Rattle.std.specs.Io.KnownBytes.{Consumes, IsAtEnd}
use Rattle.fp_stream.specs.declared.hello.Hello.{Hello}
use Rattle.fp_stream.specs.declared.hello.Hello.TheVariants.{Nothing, Has}
use Rattle.fp_stream.specs.declared.hello.HelloFault.{HelloFault}
use Rattle.fp_stream.specs.declared.hello.HelloFault.TheVariants.{Cut, BadHello, Device}

-- the nine bytes of a hello: a 0 and eight of it for who has nothing, a 1 and the revision for who has one
abbrev pub hello_bytes : Hello → List ℕ
hello_bytes Nothing = 0 ∷ to_be_bytes w64 0
hello_bytes (Has revision) = 1 ∷ to_be_bytes w64 revision

-- a revision has eight bytes
abbrev pub IsHello : Hello → Type 0
IsHello Nothing = Unit {0}
IsHello (Has revision) = revision < 2 ^ 64

-- no hello has these bytes
abbrev pub IsNoHello : List ℕ → Type 0
IsNoHello bytes = (hello : Hello) → IsHello hello → bytes ≢ hello_bytes hello

-- the hello that the bytes spell, if there is one
abbrev pub IsSpelled : List ℕ → Option Hello → Type 0
IsSpelled bytes (Some hello) = bytes ≡ hello_bytes hello
IsSpelled bytes None = IsNoHello bytes

-- nine bytes were taken that are no hello
pub record TakesNoHello (old new : Option (List ℕ)) : Type 0 where
  pub bytes : List ℕ
  pub long : length bytes ≡ 9
  pub takes : Consumes old new bytes
  pub none : IsNoHello bytes

-- all was taken, and it was less than nine bytes
pub record TakesAll (old new : Option (List ℕ)) : Type 0 where
  pub bytes : List ℕ
  pub short : length bytes < 9
  pub takes : Consumes old new bytes
  pub end : IsAtEnd new

-- what a reader gave, from what was left of it to what is left then
abbrev pub Hears : Option (List ℕ) → Option (List ℕ) → Result Hello HelloFault → Type 0
Hears old new (Ok hello) = Consumes old new (hello_bytes hello)
Hears old new (Err Cut) = TakesAll old new
Hears old new (Err BadHello) = TakesNoHello old new
Hears old new (Err Device) = Unit {0}

-- a failure of the reader was counted exactly where the answer tells of one
abbrev pub CountsHello : ℕ → ℕ → Result Hello HelloFault → Type 0
CountsHello before after (Ok hello) = after ≡ before
CountsHello before after (Err Cut) = after ≡ before
CountsHello before after (Err BadHello) = after ≡ before
CountsHello before after (Err Device) = before < after

-- the hello was answered, unless the reader failed
abbrev pub IsSaid : Hello → Result Hello HelloFault → Type 0
IsSaid hello (Ok heard) = heard ≡ hello
IsSaid hello (Err Device) = Unit {0}
IsSaid hello (Err Cut) = ⊥
IsSaid hello (Err BadHello) = ⊥
