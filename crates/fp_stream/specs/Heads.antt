-- The head of a frame, and what can be wrong with one.
use Rattle.std.specs.Prelude.{◌≡◌, ◌≢◌, ℕ, ◌<◌, ◌≤◌, ◌^◌, List, ◌++◌, take, codes}
use Rattle.std.specs.Int.{w32, w64, to_be_bytes}
use Rattle.fp_stream.specs.declared.hello.Hello.{Hello}
use Rattle.fp_stream.specs.declared.hello.Hello.TheVariants.{Nothing, Has}
use Rattle.fp_stream.specs.declared.fault.FrameFault.{FrameFault}
use Rattle.fp_stream.specs.declared.fault.FrameFault.TheVariants.{BadMagic, TooLong, NotRising}
use Rattle.fp_stream.specs.declared.fault.FrameFault.TheVariants.{Memory, Failed}

-- how long the body of a frame may be
abbrev pub longest_body : ℕ
longest_body = 2 ^ 27

-- a revision, and how long the body behind the head is
abbrev pub head : ℕ → ℕ → List ℕ
head revision size = codes "SNP1" ++ (to_be_bytes w64 revision ++ to_be_bytes w32 size)

-- the revision is news to who has this
abbrev pub IsNewer : Hello → ℕ → Type 0
IsNewer Nothing revision = Unit {0}
IsNewer (Has before) revision = before < revision

-- what a head may say to who has this
pub record IsHead (has : Hello) (revision size : ℕ) : Type 0 where
  pub fits : revision < 2 ^ 64
  pub short : size ≤ longest_body
  pub newer : IsNewer has revision

-- what sixteen bytes say, and can't: a body that is too long
pub record SaysTooLong (bytes : List ℕ) : Type 0 where
  pub revision : ℕ
  pub size : ℕ
  pub fits : revision < 2 ^ 64
  pub within : size < 2 ^ 32
  pub is : bytes ≡ head revision size
  pub long : longest_body < size

-- or a revision that is no news
pub record SaysNoNews (has : Hello) (bytes : List ℕ) : Type 0 where
  pub revision : ℕ
  pub size : ℕ
  pub fits : revision < 2 ^ 64
  pub short : size ≤ longest_body
  pub is : bytes ≡ head revision size
  pub old : ¬ IsNewer has revision

-- the first fault of sixteen bytes that stand in a head's place
abbrev pub HasFault : Hello → List ℕ → FrameFault → Type 0
HasFault has bytes BadMagic = take 4 bytes ≢ codes "SNP1"
HasFault has bytes TooLong = SaysTooLong bytes
HasFault has bytes NotRising = SaysNoNews has bytes
HasFault has bytes Memory = ⊥
HasFault has bytes Failed = ⊥
