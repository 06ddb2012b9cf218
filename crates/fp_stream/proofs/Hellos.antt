-- Hellos, and who said them.
use Rattle.std.proofs.Common.{◌≡◌, ℕ, ◌+◌, ◌<◌, ◌≤◌, List, ◌++◌, length, Option, Some, None, sym, ap, ◌∙◌, arith, length-append}
use Rattle.std.specs.Io.KnownBytes.{Consumes, IsAtEnd}
use Rattle.fp_stream.specs.declared.hello.Hello.{Hello}
use Rattle.fp_stream.specs.declared.hello.Hello.TheVariants.{Nothing, Has}
use Rattle.fp_stream.specs.declared.hello.TheConstants.{HELLO}
use Rattle.fp_stream.specs.Hellos.{hello_bytes}

whole : (hello : Hello) (rest : List ℕ) → HELLO ≤ length (hello_bytes hello ++ rest)
whole Nothing rest = omega arith
whole (Has revision) rest = omega arith

-- where a hello stands, there are no fewer bytes than it has
pub no_cut : (o n : Option (List ℕ)) (taken : List ℕ) (hello : Hello) (rest : List ℕ) → Consumes o n taken →
    IsAtEnd n → length taken < HELLO → o ≡ Some (hello_bytes hello ++ rest) → ⊥
no_cut None n taken hello rest p end short e = absurd cc
no_cut (Some a) None taken hello rest p end short e = p
no_cut (Some a) (Some b) taken hello rest p end short e =
    let same : a ≡ hello_bytes hello ++ rest = cc in
    let long = whole hello rest in
    let len : length (hello_bytes hello ++ rest) ≡ length taken + length b = ap length (sym same ∙ p) ∙ length-append taken b in
    let none : length b ≡ 0 = ap length end in
    omega arith
