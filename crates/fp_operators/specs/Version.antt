-- Versions by Semantic Versioning, and how they are compared.
use Rattle.std.specs.Prelude.{ℕ, List, [], ◌∷◌, ◌++◌, Bool, false, not, ◌&&◌, ◌==◌, codes, bytes_eq}
use Rattle.std.specs.Prelude.{Option, Some, None, Result, Ok, Err, if◌then◌else◌}
use Rattle.std.specs.List.{before_first, after_first}
use Rattle.std.specs.Ordering.{nat_cmp, ordering_then, is_lt, is_le, is_eq}
use Rattle.std.specs.declared.cmp.Ordering.{Ordering}
use Rattle.fp_operators.specs.Data.{Data, text}
use Rattle.fp_operators.specs.Numeral.{is_numeral}
use Rattle.semver.specs.Parse.{Parts, version_parts}
use Rattle.semver.specs.Order.{pre_cmp}

abbrev pub without_v : List ℕ → List ℕ
without_v [] = []
without_v (b ∷ bs) = if b == 118 then bs else b ∷ bs

-- what fills one or two groups up to three
abbrev pub filling : List ℕ → List ℕ
filling bs =
    if is_numeral bs then codes ".0.0" else
    if is_numeral (before_first (λ b. b == 46) bs) && is_numeral (after_first (λ b. b == 46) bs)
    then codes ".0" else []

abbrev pub with_zero_groups : List ℕ → List ℕ
with_zero_groups bs = bs ++ filling bs

abbrev pub read_parts : {E : Type 0} → Result Parts E → Option Parts
read_parts (Ok p) = Some p
read_parts (Err e) = None

-- the version that a text is, if it is one
abbrev pub version_of : List ℕ → Option Parts
version_of bs = read_parts (version_parts (with_zero_groups (without_v bs)))

abbrev pub precedence : Parts → Parts → Ordering
precedence p q =
    ordering_then (nat_cmp p.0 q.0)
    (ordering_then (nat_cmp p.1 q.1) (ordering_then (nat_cmp p.2 q.2) (pre_cmp p.3 q.3)))

-- whether an operator holds between two versions
abbrev pub holds : List ℕ → Parts → Parts → Bool
holds op p q =
    if bytes_eq op (codes "=") then is_eq (precedence p q) else
    if bytes_eq op (codes "!=") then not (is_eq (precedence p q)) else
    if bytes_eq op (codes "<") then is_lt (precedence p q) else
    if bytes_eq op (codes "<=") then is_le (precedence p q) else
    if bytes_eq op (codes ">") then not (is_le (precedence p q)) else
    if bytes_eq op (codes ">=") then not (is_lt (precedence p q)) else
    if bytes_eq op (codes "~") then (p.0 == q.0) && (p.1 == q.1) else
    if bytes_eq op (codes "^") then p.0 == q.0 else false

abbrev pub text_comparison : Option Parts → List ℕ → Option Parts → Bool
text_comparison None op b = false
text_comparison (Some p) op None = false
text_comparison (Some p) op (Some q) = holds op p q

-- a version, an operator and a version, all texts
abbrev pub comparison : Data → Data → Data → Bool
comparison (text a) (text op) (text b) = text_comparison (version_of a) op (version_of b)
comparison a op b = false
